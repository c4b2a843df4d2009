-- Document 02, W7: the newest record that holds a place, sought from the end of the bytes in use, and how many operations back it is.
-- Assumes nothing.
use Rattle.std.specs.Prelude.{ℕ, zero, suc, ◌+◌, ◌-◌, ◌^◌, Bool, true, false, cond, ◌≡◌, List, [], ◌∷◌, ◌++◌, ltb, eqb, length, Result, Ok, Err, Option, Some, None}
use Rattle.machine.specs.declared.Place.{Place}
use Rattle.machine.specs.declared.Place.TheVariants.{Main, Port}
use Rattle.trail.specs.declared.OldValues.{OldValues}
use Rattle.trail.specs.declared.Newest.{Newest}
use Rattle.trail.specs.declared.Broken.{Broken}
use Rattle.trail.specs.Records.{marked}
use Rattle.trail.specs.Newest.{newest_fitted}
use Rattle.seeking.specs.declared.Hit.{Hit}
use Rattle.seeking.specs.declared.SeekRefusal.{SeekRefusal}
use Rattle.seeking.specs.declared.SeekRefusal.TheVariants as refusal

-- ---- a record that holds a place

-- The number n is that of the place: a main address, or a port's number and 2^20.
abbrev pub names : Place → ℕ → Bool
names (Main a) n = cond (ltb n (2 ^ 20)) (eqb n a.0) false
names (Port a) n = cond (ltb n (2 ^ 20)) false (eqb (n - 2 ^ 20) a.0)

-- It marks a word, and its place is the one asked for.
abbrev pub holds : Place → OldValues → Bool
holds q o = cond (marked 8 o.marks) (names q o.place) false

-- ---- the walk

-- What is answered: a record that holds the place, that none does, or a refusal.
abbrev pub Sought : Type 0
Sought = Result (Option Hit) SeekRefusal

abbrev pub found : ℕ → OldValues → Sought
found back o = Ok (Some (record { back = back; values = o }))

abbrev pub never : Sought
never = Ok None

-- By the newest record, `back` operations back: it is broken, it holds the place, or those before it are asked.
abbrev pub by_newest : Place → ℕ → Result Newest Broken → (ℕ → Sought) → Sought
by_newest q back (Err e) older = Err refusal.Broken
by_newest q back (Ok r) older = cond (holds q r.values) (found back r.values) (older r.left)

-- No record where there is no byte.
abbrev pub if_any : ℕ → Sought → Sought
if_any zero r = never
if_any (suc n) r = r

-- Among the newest k records of the first `used` bytes, of which the newest is `back` operations back.
unfoldable pub among : ℕ → ℕ → ℕ → List ℕ → Place → ℕ → ℕ → Sought
among zero main ports trail q back used = never
among (suc k) main ports trail q back used =
    if_any used (by_newest q back (newest_fitted main ports trail used) (λ n. among k main ports trail q (back + 1) n))

-- No record is without a byte, so there are no more records than bytes.
unfoldable pub from_end : ℕ → ℕ → List ℕ → Place → ℕ → ℕ → Sought
from_end main ports trail q back used = among used main ports trail q back used

-- ---- the answer

-- The newest record is 1 back. Refusal 3 before all.
unfoldable pub sought : ℕ → ℕ → List ℕ → ℕ → Place → Sought
sought main ports trail used q = cond (ltb (length trail) used) (Err refusal.CountTooLarge) (from_end main ports trail q 1 used)

-- ---- all records, decoded: the newest first in the list

-- The newest that holds the place, where the first of the list is `back` operations back.
abbrev pub pick : Place → ℕ → List OldValues → Sought
pick q back [] = never
pick q back (o ∷ os) = cond (holds q o) (found back o) (pick q (back + 1) os)

-- None of them holds the place.
abbrev pub NoneHolds : Place → List OldValues → Type 0
NoneHolds q [] = Unit {0}
NoneHolds q (o ∷ os) = (holds q o ≡ false) × NoneHolds q os

-- Of these records o is the newest that holds the place, and it is the n-th newest of all.
pub record Picked (q : Place) (os : List OldValues) (n : ℕ) (o : OldValues) : Type 0 where
  pub newer : List OldValues
  pub older : List OldValues
  pub whole : os ≡ newer ++ (o ∷ older)
  pub count : n ≡ length newer + 1
  pub held : holds q o ≡ true
  pub not_newer : NoneHolds q newer
