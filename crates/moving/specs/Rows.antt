-- Document 02, W12: a trail as records in a row, in the old form or in the new one, where each record begins with its kind.
-- Assumes nothing.
use Rattle.std.specs.Prelude.{ℕ, zero, suc, ◌^◌, Bool, List, [], ◌∷◌, ◌++◌, length, Result, Ok, Err}
use Rattle.std.proofs.Math.Option.{Option, none, some}
use Rattle.trail.specs.declared.OldValues.{OldValues}
use Rattle.trail.specs.declared.Newest.{Newest}
use Rattle.trail.specs.declared.Broken.{Broken}
use Rattle.trail.specs.Records.{record_in, GoodIn}
use Rattle.trail.specs.Newest.{newest_in}

-- ---- records in a row, the newest first in the list and last in the bytes; `kinds` says that the form is the new one

abbrev pub row : Bool → List OldValues → List ℕ
row kinds [] = []
row kinds (e ∷ es) = row kinds es ++ record_in kinds e

abbrev pub GoodRow : Bool → List OldValues → Type 0
GoodRow kinds [] = Unit {0}
GoodRow kinds (e ∷ es) = GoodIn kinds (2 ^ 21) e × GoodRow kinds es

-- ---- all records, the newest first; none if one of them is broken

abbrev pub newer : OldValues → Option (List OldValues) → Option (List OldValues)
newer e none = none
newer e (some es) = some (e ∷ es)

-- The newest record, and those that `older` finds in the bytes before it.
abbrev pub and_before : Result Newest Broken → (ℕ → Option (List OldValues)) → Option (List OldValues)
and_before (Err e) older = none
and_before (Ok r) older = newer r.values (older r.left)

-- No record where there is no byte.
abbrev pub if_any : ℕ → Option (List OldValues) → Option (List OldValues)
if_any zero r = some []
if_any (suc n) r = r

-- Those of the first `used` bytes, if they are at most `most`.
unfoldable pub at_most : ℕ → Bool → List ℕ → ℕ → Option (List OldValues)
at_most zero kinds s used = if_any used none
at_most (suc k) kinds s used = if_any used (and_before (newest_in kinds (2 ^ 21) s used) (λ n. at_most k kinds s n))

-- No record is without a byte, so there are no more records than bytes.
unfoldable pub records_of : Bool → List ℕ → ℕ → Option (List OldValues)
records_of kinds s used = at_most used kinds s used

abbrev pub records : Bool → List ℕ → Option (List OldValues)
records kinds s = records_of kinds s (length s)
