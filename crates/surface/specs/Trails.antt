-- What a C caller sees of the calls on trails (include/viper.h): the number answered, and what was lent as the call leaves it.
-- Assumes nothing.
use Rattle.std.specs.Prelude.{ℕ, Bool, not, List, [], ◌∷◌, eqb, Result, Ok, Err, Option, Some, None}
use Rattle.machine.specs.Held.{place_by}
use Rattle.machine.specs.declared.Place.{Place}
use Rattle.trail.specs.declared.OldValues.{OldValues}
use Rattle.trail.specs.Records.{kind_number}
use Rattle.moving.specs.Moving.{move}
use Rattle.moving.specs.declared.MoveRefusal.{MoveRefusal}
use Rattle.moving.specs.declared.MoveRefusal.TheVariants as moves
use Rattle.seeking.specs.Seeking.{sought}
use Rattle.seeking.specs.declared.Hit.{Hit}
use Rattle.seeking.specs.declared.SeekRefusal.{SeekRefusal}
use Rattle.seeking.specs.declared.SeekRefusal.TheVariants as seeks

-- Store 0 is main, any other the ports.
abbrev pub place_numbered : ℕ → ℕ → Place
place_numbered store address = place_by (not (eqb store 0)) address

-- ---- trails moved (document 02, W12)

abbrev pub moved_number : Result ℕ MoveRefusal → ℕ
moved_number (Ok n) = 0
moved_number (Err moves.Broken) = 8
moved_number (Err moves.Short) = 9

-- The count that C lent room for: written by an accepted move.
abbrev pub moved_count : Result ℕ MoveRefusal → ℕ → ℕ
moved_count (Ok n) count = n
moved_count (Err refusal) count = count

-- To the new form or to the old one.
abbrev pub moved : Bool → List ℕ → List ℕ → ℕ → ℕ × List ℕ × ℕ
moved new trail out count =
    let m = move new trail out in
    (moved_number m.0, m.1, moved_count m.0 count)

-- ---- a word sought (document 02, W7)

abbrev pub found_number : Result (Option Hit) SeekRefusal → ℕ
found_number (Ok hit) = 0
found_number (Err seeks.CountTooLarge) = 3
found_number (Err seeks.Broken) = 8

-- How many operations back; 0 where none is found.
abbrev pub found_back : Result (Option Hit) SeekRefusal → ℕ
found_back (Ok (Some hit)) = hit.back
found_back (Ok None) = 0
found_back (Err refusal) = 0

abbrev pub numbers_of : OldValues → List ℕ
numbers_of o = kind_number o.kind ∷ o.marks ∷ o.p ∷ o.a ∷ o.x ∷ o.y ∷ o.place ∷ o.value ∷ []

-- Kind, marks, P, A, X, Y, place and value; what is not marked is 0, and so are all where none is found.
abbrev pub found_record : Result (Option Hit) SeekRefusal → List ℕ
found_record (Ok (Some hit)) = numbers_of hit.values
found_record (Ok None) = 0 ∷ 0 ∷ 0 ∷ 0 ∷ 0 ∷ 0 ∷ 0 ∷ 0 ∷ []
found_record (Err refusal) = 0 ∷ 0 ∷ 0 ∷ 0 ∷ 0 ∷ 0 ∷ 0 ∷ 0 ∷ []

abbrev pub found : ℕ → ℕ → List ℕ → ℕ → Place → ℕ × ℕ × List ℕ
found main ports trail used q =
    let answer = sought main ports trail used q in
    (found_number answer, found_back answer, found_record answer)
