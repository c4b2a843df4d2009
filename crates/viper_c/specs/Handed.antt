-- What an answer of the code, handed back, answers to C and leaves in regs and in the count in use.
-- Assumes nothing.
use Rattle.std.specs.Prelude.{ℕ, ◌≡◌, List, Result, Ok, Err}
use Rattle.viper.specs.Refusals.{number}
use Rattle.viper.specs.declared.After.{After}
use Rattle.viper.specs.declared.Refusal.{Refusal}
use Rattle.viper_c.specs.Surface.{regs_of_machine}

-- Of regs and used as they were, then the number answered and both as they are: 0 and the machine and the count after an accepted call, or the refusal's
-- number, and nothing written.
abbrev pub Handed : Result After Refusal → List ℕ → ℕ → ℕ → List ℕ → ℕ → Type 0
Handed (Ok a) regs used r regs_exit used_exit = (r ≡ 0) × (regs_exit ≡ regs_of_machine a.machine) × (used_exit ≡ a.used)
Handed (Err e) regs used r regs_exit used_exit = (r ≡ number e) × (regs_exit ≡ regs) × (used_exit ≡ used)
