-- Document 01, "Numbers the counter sees": the rule of a run.
-- Assumes nothing.
use Rattle.std.specs.Prelude.{ℕ, zero, suc, Bool, true, false, Result, Ok, Err}
use Rattle.machine.specs.declared.Ending.{Ending}
use Rattle.machine.specs.declared.Ending.TheVariants as ending
use Rattle.viper.specs.Refusals.{Answer}
use Rattle.viper.specs.Operations.{Bench, step, operate, run, answer, done}
use Rattle.viper.specs.declared.Refusal.{Refusal}
use Rattle.viper.specs.declared.Refusal.TheVariants.{PTooLarge, StoreTooLong, CountTooLarge, Stopped, Unfitted, TrailFull, NothingInUse, BrokenRecord}

-- The bench that a run leaves, the steps done, and how it ended.
pub record Ran : Type 0 where
  pub bench : Bench
  pub steps : ℕ
  pub ended : Ending

abbrev pub ends : Bench → Ending → Ran
ends b e = record { bench = b; steps = 0; ended = e }

abbrev pub one_more : Ran → Ran
one_more r = record { bench = r.bench; steps = suc r.steps; ended = r.ended }

-- The ending of a run whose step was refused: unfitted for 5, else full. (1 to 4 do not come up: the run was accepted and STOP is clear.)
abbrev pub ending_of : Refusal → Ending
ending_of PTooLarge = ending.Full
ending_of StoreTooLong = ending.Full
ending_of CountTooLarge = ending.Full
ending_of Stopped = ending.Full
ending_of Unfitted = ending.Unfitted
ending_of TrailFull = ending.Full
ending_of NothingInUse = ending.Full
ending_of BrokenRecord = ending.Full

-- By what the step would answer, and what the rest of the run gives after it.
abbrev pub stepped : Answer → Bench → Ran → Ran
stepped (Ok u) b r = one_more r
stepped (Err r) b rest = ends b (ending_of r)

-- If STOP is set it ends stopped.
abbrev pub unless_stopped : Bool → Bench → Ran → Ran
unless_stopped true b r = ends b ending.Stopped
unless_stopped false b r = r

-- Over and over: stopped; else, out of budget; else a step.
unfoldable pub over_and_over : ℕ → Bench → Ran
over_and_over zero b = unless_stopped b.state.6 b (ends b ending.Budget)
over_and_over (suc n) b =
    let rest = over_and_over n (done step b) in
    unless_stopped b.state.6 b (stepped (answer (operate step) b) b rest)

-- What a run answers: the steps done and how it ended, or why it was refused.
abbrev pub RunAnswer : Type 0
RunAnswer = Result (ℕ × Ending) Refusal

pub record RunOutcome : Type 0 where
  pub answered : RunAnswer
  pub bench : Bench

abbrev pub ran : Ran → RunOutcome
ran r = record { answered = Ok (r.steps, r.ended); bench = r.bench }

abbrev pub run_by : Answer → ℕ → Bench → RunOutcome
run_by (Ok u) n b = ran (over_and_over n b)
run_by (Err r) n b = record { answered = Err r; bench = b }

abbrev pub run_outcome : ℕ → Bench → RunOutcome
run_outcome n b = run_by (answer (run n) b) n b
