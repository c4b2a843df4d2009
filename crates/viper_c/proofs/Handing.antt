-- What C sees of a call follows from the call's own contract and from what is handed back.
-- Assumes nothing.
use Prim.{tt}
use mathlib.Core.Path.{◌≡◌, refl, ap, ◌∙◌}
use mathlib.Core.List.{List}
use Prim.Native.Nat.{ℕ, ◌+◌, ◌*◌, ◌≤◌}
use native.Mathlib.Omega.{arith}
use Rattle.std.specs.Prelude.{Result, Ok, Err}
use Rattle.std.specs.Result.{is_ok}
use Rattle.machine.specs.declared.Machine.{Machine}
use Rattle.viper.specs.Refusals.{number}
use Rattle.viper.specs.Operations.{Bench, Outcome}
use Rattle.viper.specs.Runs.{RunOutcome}
use Rattle.viper.specs.Told.{bench, told, run_told}
use Rattle.viper.specs.declared.After.{After}
use Rattle.viper.specs.declared.Ran.{Ran}
use Rattle.viper.specs.declared.Refusal.{Refusal}
use Rattle.viper.specs.declared.Refusal.TheVariants.{PTooLarge, StoreTooLong, CountTooLarge, Stopped, Unfitted, TrailFull, NothingInUse, BrokenRecord}
use Rattle.viper_c.specs.Surface.{machine_of_regs, regs_of_machine, answer_number, ending_number, run_number, lending, seen, left_by, called, run_called}
use Rattle.viper_c.specs.Handed.{Handed}

-- ---- numbers

-- The largest refusal is 8, so 16 and a refusal fit the high half.
pub number_small : (r : Refusal) → number r ≤ 8
number_small PTooLarge = omega arith
number_small StoreTooLong = omega arith
number_small CountTooLarge = omega arith
number_small Stopped = omega arith
number_small Unfitted = omega arith
number_small TrailFull = omega arith
number_small NothingInUse = omega arith
number_small BrokenRecord = omega arith

-- ---- what is handed back, by the answer

-- As `Handed`, of a run: the steps done and the ending, or 16 and the refusal's number, in the two halves of what it answers.
abbrev pub RunHanded : Result Ran Refusal → List ℕ → ℕ → ℕ → List ℕ → ℕ → Type 0
RunHanded (Ok a) regs used r regs_exit used_exit = (r ≡ run_number (Ok (a.steps, a.ending))) × (regs_exit ≡ regs_of_machine a.machine) × (used_exit ≡ a.used)
RunHanded (Err e) regs used r regs_exit used_exit = (r ≡ run_number (Err e)) × (regs_exit ≡ regs) × (used_exit ≡ used)

module _ (regs : List ℕ) (used : ℕ) where
  pub done_handed : (a : Result After Refusal) (after : After) (regs_exit : List ℕ) (used_exit : ℕ) → a ≡ Ok after
      → (regs_exit ≡ regs_of_machine after.machine) × (used_exit ≡ after.used) → Handed a regs used 0 regs_exit used_exit
  done_handed a after regs_exit used_exit e w = rw e (refl, w.0, w.1)

  pub refused_handed : (a : Result After Refusal) (r : Refusal) (n : ℕ) → a ≡ Err r → n ≡ number r → Handed a regs used n regs used
  refused_handed a r n e h = rw e (h, refl, refl)

  pub ended_handed : (a : Result Ran Refusal) (after : Ran) (n : ℕ) (regs_exit : List ℕ) (used_exit : ℕ) → a ≡ Ok after → n ≡ ending_number after.ending
      → (regs_exit ≡ regs_of_machine after.machine) × (used_exit ≡ after.used) → RunHanded a regs used (after.steps + n * 4294967296) regs_exit used_exit
  ended_handed a after n regs_exit used_exit e h w = rw (e, h) (refl, w.0, w.1)

  pub run_refused_handed : (a : Result Ran Refusal) (r : Refusal) (n : ℕ) → a ≡ Err r → n ≡ number r → RunHanded a regs used ((16 + n) * 4294967296) regs used
  run_refused_handed a r n e h = rw (e, h) (refl, refl, refl)

-- ---- what C sees

-- An accepted call leaves the machine and the count after it.
module _ (regs main ports trail : List ℕ) (used : ℕ) (m : Machine) (main_exit ports_exit trail_exit : List ℕ) (after : Machine) (count : ℕ) where
  pub call_seen : (call : Bench → Outcome) → m ≡ machine_of_regs regs
      → record { answered = Ok tt; bench = bench after main_exit ports_exit trail_exit count } ≡ call (bench m main ports trail used)
      → seen 0 (lending (regs_of_machine after) main_exit ports_exit trail_exit count) ≡ called call (lending regs main ports trail used)
  call_seen call em e =
      ap (λ (t : Outcome). seen (answer_number t.answered) (left_by (is_ok t.answered) t.bench (lending regs main ports trail used)))
      (e ∙ ap (λ (k : Machine). call (bench k main ports trail used)) em)

module _ (regs main ports trail : List ℕ) (used : ℕ) (m : Machine) (main_exit ports_exit trail_exit : List ℕ) where
  -- A refused call leaves regs and the count in use as they were.
  pub refused_seen : (call : Bench → Outcome) (r : Refusal) → m ≡ machine_of_regs regs
      → record { answered = Err r; bench = bench m main_exit ports_exit trail_exit used } ≡ call (bench m main ports trail used)
      → seen (number r) (lending regs main_exit ports_exit trail_exit used) ≡ called call (lending regs main ports trail used)
  refused_seen call r em e =
      ap (λ (t : Outcome). seen (answer_number t.answered) (left_by (is_ok t.answered) t.bench (lending regs main ports trail used)))
      (e ∙ ap (λ (k : Machine). call (bench k main ports trail used)) em)

  -- Both, by what is handed back.
  pub answer_seen : (call : Bench → Outcome) (o : Result After Refusal) (r : ℕ) (regs_exit : List ℕ) (used_exit : ℕ) → m ≡ machine_of_regs regs
      → told o m used main_exit ports_exit trail_exit ≡ call (bench m main ports trail used) → Handed o regs used r regs_exit used_exit
      → seen r (lending regs_exit main_exit ports_exit trail_exit used_exit) ≡ called call (lending regs main ports trail used)
  answer_seen call (Ok a) r regs_exit used_exit em e (n, g, u) =
      rw (n, g, u) (call_seen regs main ports trail used m main_exit ports_exit trail_exit a.machine a.used call em e)
  answer_seen call (Err x) r regs_exit used_exit em e (n, g, u) = rw (n, g, u) (refused_seen call x em e)

  -- The same of a run.
  pub run_seen : (call : Bench → RunOutcome) (o : Result Ran Refusal) (r : ℕ) (regs_exit : List ℕ) (used_exit : ℕ) → m ≡ machine_of_regs regs
      → run_told o m used main_exit ports_exit trail_exit ≡ call (bench m main ports trail used) → RunHanded o regs used r regs_exit used_exit
      → seen r (lending regs_exit main_exit ports_exit trail_exit used_exit) ≡ run_called call (lending regs main ports trail used)
  run_seen call o r regs_exit used_exit em e h =
      handed o h
      ∙ ap (λ (t : RunOutcome). seen (run_number t.answered) (left_by (is_ok t.answered) t.bench (lending regs main ports trail used)))
      (e ∙ ap (λ (k : Machine). call (bench k main ports trail used)) em)
    where
      handed : (o : Result Ran Refusal) → RunHanded o regs used r regs_exit used_exit
          → seen r (lending regs_exit main_exit ports_exit trail_exit used_exit)
          ≡ seen (run_number (run_told o m used main_exit ports_exit trail_exit).answered)
          (left_by (is_ok (run_told o m used main_exit ports_exit trail_exit).answered) (run_told o m used main_exit ports_exit trail_exit).bench (lending regs main ports trail used))
      handed (Ok a) (n, g, u) = rw (n, g, u) refl
      handed (Err x) (n, g, u) = rw (n, g, u) refl
