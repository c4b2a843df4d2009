-- What the code says of a number that it read, and of a record that it read by the places of its bytes.
-- Assumes nothing.
use Rattle.std.specs.Prelude.{ℕ, ◌-◌, ◌%◌, ◌^◌, ◌<◌, ◌≤◌, ◌≡◌, Bool, true, cond, List, [], ◌∷◌, Result, Ok, Err, Option, Some, None, eqb, length, get_or}
use Rattle.std.proofs.Math.Seq.{slice}
use Rattle.trail.specs.Numbers.{Read, got, broken}
use Rattle.trail.specs.Records.{marked as is_marked, where_of_number}
use Rattle.trail.specs.Newest.{leaving, read_from_marks, fits, broken_record, read_back}
use Rattle.trail.specs.declared.Kind.{Kind}
use Rattle.trail.specs.declared.OldValues.{OldValues}
use Rattle.trail.specs.declared.Newest.{Newest}
use Rattle.trail.specs.declared.Broken.{Broken}
use Rattle.reading.specs.declared.short.Marked.{Marked}
use Rattle.reading.specs.declared.short.Marked.TheVariants as marked
use Rattle.reading.specs.declared.short.MarkedRecord.{MarkedRecord}

-- What reading a number answers: its value and the place after it.
abbrev pub Number : Type 0
Number = Result (ℕ × ℕ) Broken

abbrev pub read_up_to : ℕ → ℕ → Number
read_up_to n next = Ok (n, next)

abbrev pub read_broken : Number
read_broken = Err (record {})

-- A number read, with the place after it: the bytes left over end at `end`.
abbrev pub number_of : ℕ → Read → Number
number_of end broken = read_broken
number_of end (got n rest) = read_up_to n (end - length rest)

-- What was read, by the number that was found and the bytes after it.
abbrev pub read_of : Result ℕ Broken → List ℕ → Read
read_of (Err e) rest = broken
read_of (Ok n) rest = got n rest

-- The word of a record, if it marks one, has a fitted place.
abbrev pub word_fits : ℕ → ℕ → OldValues → Bool
word_fits main ports o = cond (is_marked 8 o.marks) (fits main ports (where_of_number o.place)) true

-- ---- a record so short

-- What a short record marks of A, X, Y and the word: nothing, or one register alone.
abbrev pub MarksAlone : Marked → ℕ → Type 0
MarksAlone marked.Nothing m = m % 16 ≡ 0
MarksAlone marked.A m = m % 16 ≡ 1
MarksAlone marked.X m = m % 16 ≡ 2
MarksAlone marked.Y m = m % 16 ≡ 4
MarksAlone marked.Any m = ⊥

-- The newest record is this one.
pub record Holds (n : Result Newest Broken) (r : MarkedRecord) : Type 0 where
  pub holds : n ≡ read_back r.values r.left
  pub marks : MarksAlone r.marked r.values.marks

-- The newest record, by its kind and the k bytes after it that stand before L, which is at `end`.
abbrev pub after_kind : Kind → List ℕ → ℕ → ℕ → Result Newest Broken
after_kind kind s end k = leaving (end - k - 1) (read_from_marks kind (2 ^ 21) (slice (end - k) end s))

-- The byte at a place is marks.
pub record MarksAt (s : List ℕ) (at marks : ℕ) : Type 0 where
  pub byte : get_or s at 0 ≡ marks
  pub small : marks < 64

-- What is said of the newest record, if it is short: it is this one, or it is broken.
abbrev pub Tells : Result MarkedRecord Broken → Result Newest Broken → Type 0
Tells (Ok r) n = Holds n r
Tells (Err e) n = n ≡ broken_record

-- The same, by its L: where five bytes or more stand before L, that alone.
abbrev pub Says : ℕ → Result (Option MarkedRecord) Broken → Result Newest Broken → Type 0
Says l (Ok None) n = 5 ≤ l
Says l (Ok (Some r)) n = Holds n r
Says l (Err e) n = n ≡ broken_record

-- The two bytes before L, which is at `end`: each is a number of one group, or one of them is not.
abbrev pub TwoBytes : List ℕ → ℕ → Result (ℕ × ℕ) Broken → Type 0
TwoBytes s end (Ok t) = (slice (end - 2) end s ≡ t.0 ∷ (t.1 ∷ [])) × (t.0 < 128) × (t.1 < 128)
TwoBytes s end (Err e) = (slice (end - 2) end s ≡ get_or s (end - 2) 0 ∷ (get_or s (end - 1) 0 ∷ [])) × ((get_or s (end - 2) 0 < 128) → (128 ≤ get_or s (end - 1) 0))

-- The old values of a record that marks no word.
abbrev pub registers : Kind → ℕ → ℕ → ℕ → ℕ → ℕ → OldValues
registers kind m p a x y = record { kind = kind; marks = m; p = p; a = a; x = x; y = y; place = 0; value = 0 }

abbrev pub unmarked : Kind → ℕ → ℕ → OldValues
unmarked kind m p = registers kind m p 0 0 0

abbrev pub short_record : Marked → OldValues → ℕ → MarkedRecord
short_record k o left = record { marked = k; values = o; left = left }

-- The short record of the only value that these marks mark: of A, X or Y.
unfoldable pub with_value : Kind → ℕ → ℕ → ℕ → ℕ → Result MarkedRecord Broken
with_value kind m p v left =
    cond (eqb (m % 16) 1) (Ok (short_record marked.A (registers kind m p v 0 0) left))
    (cond (eqb (m % 16) 2) (Ok (short_record marked.X (registers kind m p 0 v 0) left))
    (cond (eqb (m % 16) 4) (Ok (short_record marked.Y (registers kind m p 0 0 v) left))
    (Err (record {}))))
