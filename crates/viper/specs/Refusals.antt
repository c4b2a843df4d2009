-- Document 01, "Numbers the counter sees": the eight refusals and their numbers. The lowest that applies is answered.
-- Assumes nothing.
use Prim.{Unit, tt}
use Rattle.std.specs.Prelude.{ℕ, Bool, true, false, Result, Ok, Err}
use Rattle.viper.specs.declared.Refusal.{Refusal}
use Rattle.viper.specs.declared.Refusal.TheVariants.{PTooLarge, StoreTooLong, CountTooLarge, Stopped, Unfitted, TrailFull, NothingInUse, BrokenRecord}

-- The paper's number of each refusal.
abbrev pub number : Refusal → ℕ
number PTooLarge = 1
number StoreTooLong = 2
number CountTooLarge = 3
number Stopped = 4
number Unfitted = 5
number TrailFull = 6
number NothingInUse = 7
number BrokenRecord = 8

-- What a call answers: done, or why it was refused.
abbrev pub Answer : Type 0
Answer = Result (Unit {0}) Refusal

abbrev pub when : Bool → Refusal → Answer
when true r = Err r
when false r = Ok tt

abbrev pub or_else : Answer → Answer → Answer
or_else (Ok u) a = a
or_else (Err r) a = Err r

-- The lowest number that applies, by a test of each.
abbrev pub lowest : (Refusal → Bool) → Answer
lowest applies =
    or_else (when (applies PTooLarge) PTooLarge)
    (or_else (when (applies StoreTooLong) StoreTooLong)
    (or_else (when (applies CountTooLarge) CountTooLarge)
    (or_else (when (applies Stopped) Stopped)
    (or_else (when (applies Unfitted) Unfitted)
    (or_else (when (applies TrailFull) TrailFull)
    (or_else (when (applies NothingInUse) NothingInUse)
    (when (applies BrokenRecord) BrokenRecord)))))))

-- The first if the call was accepted, the second if it was refused.
abbrev pub if_done {ℓ} : {A : Type ℓ} → Answer → A → A → A
if_done (Ok u) a b = a
if_done (Err r) a b = b
