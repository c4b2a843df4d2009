-- What the calls share: refusals 1 to 3, and what a run of steps comes to. What is known once they are past is `Lawful`, in the crate step.
-- Assumes nothing.
use Rattle.std.specs.Prelude.{ℕ, ◌^◌, ◌||◌, List, leb, ltb}
use Rattle.viper.specs.Refusals.{Answer, when, or_else}
use Rattle.viper.specs.Runs as runs
use Rattle.viper.specs.Told.{bench}
use Rattle.viper.specs.declared.Refusal.TheVariants.{PTooLarge, StoreTooLong, CountTooLarge}
use Rattle.viper.specs.declared.Ran.{Ran}

-- Refusals 1 to 3, of the calls that are lent the stores.
abbrev pub first_refusals : ℕ → ℕ → ℕ → ℕ → ℕ → Answer
first_refusals p main ports trail used =
    or_else (when (leb (2 ^ 20) p) PTooLarge)
    (or_else (when (ltb (2 ^ 20) main || ltb (2 ^ 20) ports) StoreTooLong)
    (when (ltb trail used) CountTooLarge))

abbrev pub ran_told : Ran → List ℕ → List ℕ → List ℕ → runs.Ran
ran_told r main ports trail = record { bench = bench r.machine main ports trail r.used; steps = r.steps; ended = r.ending }
