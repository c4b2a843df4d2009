-- Document 01, "The trail": the newest record, read back from the end of the bytes in use.
-- Assumes nothing.
use Rattle.std.specs.Prelude.{ℕ, ◌+◌, ◌-◌, ◌^◌, Bool, true, cond, List, [], ◌∷◌, ltb, get_or, Result, Ok, Err}
use Rattle.std.proofs.Math.Option.{Option, none, some}
use Rattle.std.proofs.Math.Seq.{slice}
use Rattle.report.specs.AnnexA.{BV}
use Rattle.report.specs.Parts.{Where}
use Rattle.trail.specs.declared.Kind.{Kind}
use Rattle.trail.specs.declared.OldValues.{OldValues}
use Rattle.trail.specs.declared.Newest.{Newest}
use Rattle.trail.specs.declared.Broken.{Broken}
use Rattle.trail.specs.Numbers.{Read, got, broken, read_below, read_if}
use Rattle.trail.specs.Records.{marked, where_of_number, kind_of_number}

-- ---- the bytes before L

-- A number, and what is read after it.
abbrev pub and_then : Read → (ℕ → List ℕ → Option OldValues) → Option OldValues
and_then broken f = none
and_then (got n rest) f = f n rest

-- Nothing is left over.
abbrev pub at_end : List ℕ → OldValues → Option OldValues
at_end [] o = some o
at_end (b ∷ rest) o = none

-- Marks; P; A, X, Y as marked; if marked, the word's place, whose number is below `places`, and its value.
abbrev pub read_from_marks : Kind → ℕ → List ℕ → Option OldValues
read_from_marks kind places s =
    and_then (read_below 64 s) (λ m s₁.
    and_then (read_below (2 ^ 20) s₁) (λ p s₂.
    and_then (read_if (marked 1 m) (2 ^ 32) s₂) (λ a s₃.
    and_then (read_if (marked 2 m) (2 ^ 32) s₃) (λ x s₄.
    and_then (read_if (marked 4 m) (2 ^ 32) s₄) (λ y s₅.
    and_then (read_if (marked 8 m) places s₅) (λ place s₆.
    and_then (read_if (marked 8 m) (2 ^ 32) s₆) (λ value s₇.
    at_end s₇ (record { kind = kind; marks = m; p = p; a = a; x = x; y = y; place = place; value = value }))))))))

-- In the new form the kind stands before the marks; in the old one it is 0, and no byte.
unfoldable pub read_in_form : Bool → ℕ → List ℕ → Option OldValues
read_in_form kinds places s = and_then (read_if kinds 5 s) (λ kind s₁. read_from_marks (kind_of_number kind) places s₁)

abbrev pub read_record : ℕ → List ℕ → Option OldValues
read_record places s = read_in_form true places s

-- ---- the newest record of a trail of which `used` bytes are in use

-- A record, with the count in use once it is gone, or that it is broken.
abbrev pub broken_record : Result Newest Broken
broken_record = Err (record {})

abbrev pub read_back : OldValues → ℕ → Result Newest Broken
read_back o n = Ok (record { values = o; left = n })

abbrev pub leaving : ℕ → Option OldValues → Result Newest Broken
leaving n none = broken_record
leaving n (some o) = read_back o n

-- The record of the L bytes that end at `end`.
-- L is from 3 to 28, in the old form from 2 to 27.
abbrev pub before_L_in : Bool → ℕ → List ℕ → ℕ → ℕ → Result Newest Broken
before_L_in kinds places trail end L =
    cond (ltb L (2 + BV kinds)) broken_record
    (cond (ltb (27 + BV kinds) L) broken_record
    (cond (ltb end L) broken_record
    (leaving (end - L) (read_in_form kinds places (slice (end - L) end trail)))))

abbrev pub before_L : ℕ → List ℕ → ℕ → ℕ → Result Newest Broken
before_L places trail end L = before_L_in true places trail end L

-- The last byte in use is L. (Where no byte is in use, nobody asks: document 01, refusal 7.)
unfoldable pub newest_in : Bool → ℕ → List ℕ → ℕ → Result Newest Broken
newest_in kinds places trail used = before_L_in kinds places trail (used - 1) (get_or trail (used - 1) 0)

abbrev pub newest : ℕ → List ℕ → ℕ → Result Newest Broken
newest places trail used = newest_in true places trail used

-- ---- the word's place is fitted

-- Fitted, in stores of these lengths.
abbrev pub fits : ℕ → ℕ → Where → Bool
fits main ports (io, a) = cond io (ltb a ports) (ltb a main)

abbrev pub only_fitted : ℕ → ℕ → Result Newest Broken → Result Newest Broken
only_fitted main ports (Err e) = Err e
only_fitted main ports (Ok r) =
    cond (marked 8 r.values.marks) (cond (fits main ports (where_of_number r.values.place)) (Ok r) broken_record) (Ok r)

-- No fitted place has a number of 2^21 or more: a store has at most 2^20 words.
unfoldable pub newest_fitted : ℕ → ℕ → List ℕ → ℕ → Result Newest Broken
newest_fitted main ports trail used = only_fitted main ports (newest (2 ^ 21) trail used)
