-- Document 01, "The trail": a record's bytes, the old values that an operation puts into one, and what putting them back gives.
-- Assumes nothing.
use Rattle.std.specs.Prelude.{ℕ, ◌+◌, ◌-◌, ◌*◌, ◌/◌, ◌%◌, ◌^◌, ◌<◌, Bool, true, false, not, cond, List, [], ◌∷◌, ◌++◌, ltb, eqb, length, take, drop, Option, Some, None, Result, Ok, Err, is_some}
use Rattle.std.proofs.Math.Option.{Option as Maybe, none, some}
use Rattle.report.specs.AnnexA.{Mem, BV}
use Rattle.report.specs.Section3.{State}
use Rattle.report.specs.Parts.{Where, word_at, with_word}
use Rattle.machine.specs.Held.{machine_of, where_of, place_of}
use Rattle.machine.specs.declared.Machine.{Machine}
use Rattle.machine.specs.declared.Place.{Place}
use Rattle.machine.specs.declared.Place.TheVariants.{Main, Port}
use Rattle.trail.specs.declared.OldValues.{OldValues}
use Rattle.trail.specs.declared.Broken.{Broken}
use Rattle.trail.specs.declared.Kind.{Kind}
use Rattle.trail.specs.declared.Kind.TheVariants.{FromOld, Step, Reset, Force, Set}
use Rattle.trail.specs.declared.OldWord.{OldWord}
use Rattle.trail.specs.declared.TrailFull.{TrailFull}
use Rattle.trail.specs.Numbers.{groups, bytes_if, GoodIf}

-- ---- the kinds and their numbers

-- The kinds: 1 step, 2 reset, 3 force, 4 set by hand, 0 for a record from an old trail.
abbrev pub kind_number : Kind → ℕ
kind_number FromOld = 0
kind_number Step = 1
kind_number Reset = 2
kind_number Force = 3
kind_number Set = 4

abbrev pub kind_of_number : ℕ → Kind
kind_of_number n = cond (eqb n 1) Step (cond (eqb n 2) Reset (cond (eqb n 3) Force (cond (eqb n 4) Set FromOld)))

-- A number that is read is a kind's if it is below 5.
abbrev pub kind_read : ℕ → Result Kind Broken
kind_read n = cond (ltb n 5) (Ok (kind_of_number n)) (Err (record {}))

-- ---- the bytes of a record

-- The mark of weight w in the marks m: 1 A, 2 X, 4 Y, 8 word, 16 old B was set, 32 old STOP was set.
abbrev pub marked : ℕ → ℕ → Bool
marked w m = eqb (m / w % 2) 1

-- Marks; P; A, X, Y as marked; if marked, the word's place and its value.
abbrev pub from_marks : OldValues → List ℕ
from_marks o =
    groups o.marks
    ++ (groups o.p
    ++ (bytes_if (marked 1 o.marks) o.a
    ++ (bytes_if (marked 2 o.marks) o.x
    ++ (bytes_if (marked 4 o.marks) o.y
    ++ (bytes_if (marked 8 o.marks) o.place
    ++ bytes_if (marked 8 o.marks) o.value)))))

-- The bytes before L, in the new form, where the kind stands before the marks, or in the old one (document 02, W12).
abbrev pub body_in : Bool → OldValues → List ℕ
body_in kinds o = bytes_if kinds (kind_number o.kind) ++ from_marks o

abbrev pub body : OldValues → List ℕ
body o = body_in true o

-- A record: its body, and L.
unfoldable pub record_in : Bool → OldValues → List ℕ
record_in kinds o = body_in kinds o ++ (length (body_in kinds o) ∷ [])

abbrev pub record_bytes : OldValues → List ℕ
record_bytes o = record_in true o

-- What a record can hold, with the number of a word's place below `places`. In the old form its kind is read as 0.
pub record GoodIn (kinds : Bool) (places : ℕ) (o : OldValues) : Type 0 where
  pub kind : GoodIf kinds 5 (kind_number o.kind)
  pub marks : o.marks < 64
  pub p : o.p < 2 ^ 20
  pub a : GoodIf (marked 1 o.marks) (2 ^ 32) o.a
  pub x : GoodIf (marked 2 o.marks) (2 ^ 32) o.x
  pub y : GoodIf (marked 4 o.marks) (2 ^ 32) o.y
  pub place : GoodIf (marked 8 o.marks) places o.place
  pub value : GoodIf (marked 8 o.marks) (2 ^ 32) o.value

abbrev pub Good : ℕ → OldValues → Type 0
Good places o = GoodIn true places o

-- ---- the number of a word's place: its address, plus 1,048,576 for ports

abbrev pub place_number : Place → ℕ
place_number (Main n) = n.0
place_number (Port n) = n.0 + 2 ^ 20

abbrev pub where_of_number : ℕ → Where
where_of_number n = cond (ltb n (2 ^ 20)) (false, n) (true, n - 2 ^ 20)

-- ---- the old values of an operation, from the machine before it, the machine after it and the word that it changed

abbrev pub differs : ℕ → ℕ → Bool
differs old new = not (eqb old new)

-- The word that changed, if one did.
abbrev pub Word : Type 0
Word = Option OldWord

abbrev pub word_changed : Word → Bool
word_changed w = is_some w

abbrev pub word_place : Word → ℕ
word_place None = 0
word_place (Some w) = place_number w.place

abbrev pub word_value : Word → ℕ
word_value None = 0
word_value (Some w) = w.value

-- The address of a word that changed is below 2^20.
abbrev pub Addressed : Word → Type 0
Addressed None = Unit {0}
Addressed (Some w) = (where_of w.place).1 < 2 ^ 20

-- The marks, by what changed and by the old flags.
abbrev pub marks_by : Bool → Bool → Bool → Bool → Bool → Bool → ℕ
marks_by a x y word b stop = 1 * BV a + 2 * BV x + 4 * BV y + 8 * BV word + 16 * BV b + 32 * BV stop

abbrev pub marks_of : Machine → Machine → Word → ℕ
marks_of old new w =
    marks_by (differs old.a new.a) (differs old.x new.x) (differs old.y new.y) (word_changed w) old.b old.stop

-- A value that changed; 0 for one that did not.
abbrev pub old_if_changed : ℕ → ℕ → ℕ
old_if_changed old new = cond (differs old new) old 0

unfoldable pub old_values : Kind → Machine → Machine → Word → OldValues
old_values k old new w =
    record {
      kind = k;
      marks = marks_of old new w;
      p = old.p;
      a = old_if_changed old.a new.a;
      x = old_if_changed old.x new.x;
      y = old_if_changed old.y new.y;
      place = word_place w;
      value = word_value w;
    }

-- ---- the record of an operation, from the state before it, the state after it and the place that it may have changed

abbrev pub changed_word : Mem → Mem → Maybe Where → Word
changed_word old new none = None
changed_word old new (some q) =
    cond (eqb (word_at old q) (word_at new q)) None (Some (record { place = place_of q; value = word_at old q }))

abbrev pub old_values_of : Kind → State → State → Maybe Where → OldValues
old_values_of k old new q = old_values k (machine_of old) (machine_of new) (changed_word old.0 new.0 q)

abbrev pub record_of : Kind → State → State → Maybe Where → List ℕ
record_of k old new q = record_bytes (old_values_of k old new q)

-- ---- the old values put back: what is not marked stays

unfoldable pub restored : OldValues → State → State
restored o (ram, p, a, x, y, b, stop) = (
  cond (marked 8 o.marks) (with_word ram (where_of_number o.place) o.value) ram,
  o.p,
  cond (marked 1 o.marks) o.a a,
  cond (marked 2 o.marks) o.x x,
  cond (marked 4 o.marks) o.y y,
  marked 16 o.marks,
  marked 32 o.marks,
)

-- ---- a record added to a trail of which `used` bytes are in use

-- The bytes r right after those in use, and every other byte as it was.
abbrev pub put : List ℕ → ℕ → List ℕ → List ℕ
put trail used r = take used trail ++ (r ++ drop (used + length r) trail)

abbrev pub trail_full : TrailFull
trail_full = record {}

-- The answer, the count of bytes in use now, and the trail after it: an error if r is longer than the free bytes.
unfoldable pub added : List ℕ → ℕ → List ℕ → Result ℕ TrailFull × List ℕ
added trail used r =
    cond (ltb (length trail - used) (length r)) (Err trail_full, trail) (Ok (used + length r), put trail used r)
