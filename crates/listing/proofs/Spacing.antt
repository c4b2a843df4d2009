-- Fields put one after the other, each after a blank, are the fields of the line.
-- Assumes nothing.
use Rattle.std.specs.Prelude.{ℕ, suc, ◌+◌, ◌<◌, ◌≤◌, ◌≡◌, List, [], ◌∷◌, ◌++◌, length, map, drop, slice_index_or}
use Rattle.std.proofs.Common.{Bor, arith, ap, length-append}
use Rattle.std.proofs.lemmas.Grind.{common_steps}
use native.Mathlib.Numerals.{add-one}
use Rattle.std.proofs.Math.Seq.{drop-cons}
use Rattle.std.proofs.Math.ListN.{drop_of_length-le}
use mathlib.Core.List.{append-nil}
use Rattle.language.specs.Line.{field, spaced}

pub spaced_length : (t : List ℕ) (ts : List (List ℕ)) → length (spaced (t ∷ ts)) ≡ suc (length t) + length (spaced ts)
unfolding spaced
spaced_length t ts = length-append (field t) (spaced ts)

-- What a read past the last field gives.
abbrev none : Bor (List ℕ)
none = record { ref_ptr = (0, 0); now = [] }

-- The fields from a place on.
abbrev fields_from : ℕ → List (Bor (List ℕ)) → List ℕ
fields_from i fields = spaced (map (λ f. f.now) (drop i fields))

-- The first fields stand in the line, so that the others are still to come.
pub record Coming (i : ℕ) (fields : List (Bor (List ℕ))) (before line : List ℕ) : Type 0 where
  pub whole : line ++ fields_from i fields ≡ before ++ fields_from 0 fields

next_field : (fields : List (Bor (List ℕ))) (i : ℕ) → i < length fields
    → fields_from i fields ≡ field (slice_index_or fields i none).now ++ fields_from (i + 1) fields
unfolding spaced
next_field fields i h = rw (drop-cons fields i none h, add-one)

module _ {i : ℕ} {fields : List (Bor (List ℕ))} {before line : List ℕ} (h : i < length fields) (c : Coming i fields before line) where
  pub field_room : (n : ℕ) → length before + length (fields_from 0 fields) ≤ n → length line + 1 + length (slice_index_or fields i none).now ≤ n
  field_room n room =
      omega (arith, simp length-append at (ap length c.whole), simp length-append at (ap length (next_field fields i h)))

  pub field_put : Coming (i + 1) fields before (line ++ (32 ∷ []) ++ (slice_index_or fields i none).now)
  field_put =
      let e = next_field fields i h in
      record { whole = grind (arith, common_steps) }

pub all_put : {i : ℕ} {fields : List (Bor (List ℕ))} {before line : List ℕ} → length fields ≤ i → Coming i fields before line
    → line ≡ before ++ fields_from 0 fields
unfolding spaced
all_put {i} {fields} {before} {line} h c =
    let e = drop_of_length-le fields h in
    rw (e, append-nil) at c.whole
