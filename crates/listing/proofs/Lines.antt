-- The lines of a store one by one: those of the first words, and then the line of the next.
-- Assumes nothing.
use Prim.Native.Nat.{ℕ, suc, ◌+◌, ◌≤◌, ◌<◌}
use mathlib.Core.Path.{◌≡◌, ap, sym, ◌∙◌}
use mathlib.Core.List.{List, [], ◌∷◌, ◌++◌, append-nil, append_assoc}
use native.Mathlib.Omega.{arith}
use native.Mathlib.Nat.{zero-add, add-zero}
use native.Mathlib.Numerals.{add-one}
use lib.ListN.{length, get_or, take, drop, length-append, take-append-drop}
use lib.Seq.{take-suc, length-take-le}
use Rattle.language.specs.Line.{line}
use Rattle.listing.specs.Listing.{lines, listing}

lines_append : (a : ℕ) (xs ys : List ℕ) → lines a (xs ++ ys) ≡ lines a xs ++ lines (a + length xs) ys
unfolding lines
lines_append a [] ys = rw add-zero
lines_append a (x ∷ xs) ys =
    let e : suc a + length xs ≡ a + suc (length xs) = omega arith in
    rw (lines_append (suc a) xs ys, e, append_assoc)

-- The lines of i + 1 words are those of i, and one more.
pub next_line : (main : List ℕ) (i : ℕ) → i < length main → listing (take (i + 1) main) ≡ listing (take i main) ++ line i (get_or main i 0)
unfolding lines
next_line main i h =
    let n : length (take i main) ≡ i = length-take-le i main (omega arith) in
    rw (add-one, take-suc main i 0 h, lines_append 0 (take i main) (get_or main i 0 ∷ []), n, zero-add, append-nil)

pub next_length : (main : List ℕ) (i : ℕ) → i < length main
    → length (listing (take (i + 1) main)) ≡ length (listing (take i main)) + length (line i (get_or main i 0))
next_length main i h =
    ap length (next_line main i h) ∙ length-append (listing (take i main)) (line i (get_or main i 0))

pub first_lines : (main : List ℕ) (i : ℕ) → length (listing (take i main)) ≤ length (listing main)
first_lines main i =
    let rest = lines (0 + length (take i main)) (drop i main) in
    let e : listing main ≡ listing (take i main) ++ rest
    = ap listing (sym (take-append-drop i main)) ∙ lines_append 0 (take i main) (drop i main)
    in
    omega (arith, ap length e, length-append (listing (take i main)) rest)

-- The first lines and the next are within the listing.
pub next_within : (main : List ℕ) (i : ℕ) → i < length main
    → length (listing (take i main)) + length (line i (get_or main i 0)) ≤ length (listing main)
next_within main i h = omega (arith, next_length main i h, first_lines main (i + 1))
