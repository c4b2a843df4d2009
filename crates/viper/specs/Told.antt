-- What a call answered and left, as the definitions say it.
-- Assumes nothing.
use Prim.{tt}
use Rattle.std.specs.Prelude.{ℕ, List, Result, Ok, Err}
use Rattle.machine.specs.Held.{ram, state}
use Rattle.machine.specs.declared.Machine.{Machine}
use Rattle.viper.specs.Operations.{Bench, Outcome}
use Rattle.viper.specs.Runs.{RunOutcome}
use Rattle.viper.specs.declared.After.{After}
use Rattle.viper.specs.declared.Ran.{Ran}
use Rattle.viper.specs.declared.Refusal.{Refusal}

abbrev pub bench : Machine → List ℕ → List ℕ → List ℕ → ℕ → Bench
bench m main ports trail used = record { state = state m (ram main ports); trail = trail; used = used }

-- What the code handed back, with the machine and the count that it was given, and with what the stores and the trail hold at the end. A refused call
-- hands no machine back: the caller's own, and its count, are as they were.
abbrev pub told : Result After Refusal → Machine → ℕ → List ℕ → List ℕ → List ℕ → Outcome
told (Ok a) m used main ports trail = record { answered = Ok tt; bench = bench a.machine main ports trail a.used }
told (Err r) m used main ports trail = record { answered = Err r; bench = bench m main ports trail used }

abbrev pub run_told : Result Ran Refusal → Machine → ℕ → List ℕ → List ℕ → List ℕ → RunOutcome
run_told (Ok a) m used main ports trail = record { answered = Ok (a.steps, a.ending); bench = bench a.machine main ports trail a.used }
run_told (Err r) m used main ports trail = record { answered = Err r; bench = bench m main ports trail used }
