-- How long an export's texts are, and how the rows of a list with one word more go on.
-- Assumes nothing.
use Prim.Native.Nat.{ℕ, zero, suc, ◌+◌, ◌*◌, ◌-◌, ◌/◌, ◌%◌, ◌≤◌, ◌<◌, min}
use mathlib.Core.Path.{◌≡◌, refl, ap, sym, ◌∙◌}
use mathlib.Core.Bool.{Bool, true, false, cond, ◌&&◌}
use mathlib.Core.List.{List, [], ◌∷◌, ◌++◌, append_assoc, append-nil}
use native.Mathlib.Omega.{arith}
use native.Mathlib.Nat.{add-zero, zero-add, suc-add}
use native.Mathlib.Numerals.{add-one}
use lib.Dec.{leb, ltb, eqb}
use lib.ListN.{length, get_or, take, drop, length-append, length-drop}
use lib.Seq.{take-suc, get_or-drop, take_all, length-take-le}
use borrow.Author.Tests.{lt-ltb, eq-eqb, ne_eqb, leb-true, leb-false, ltb-true, ltb-false, eqb-true, eqb-false}
use Rattle.std.specs.Prelude.{sum}
use Rattle.std.proofs.lemmas.List.Sums.{sum_by-cons, sum_by-append}
use Rattle.text.specs.Digits.{hex}
use Rattle.intel_hex.specs.Layout.{pairs, record_line, word_bytes, data_bytes}
use Rattle.intel_hex.specs.Exported.{upper_line, end_line, upper_before, row_words, row_count, row, rows, exported, blocks, exported_length}

pub pairs_append : (a b : List ℕ) → pairs (a ++ b) ≡ pairs a ++ pairs b
pairs_append [] b = refl
pairs_append (x ∷ a) b = rw (pairs_append a b)

pub data_append : (a b : List ℕ) → data_bytes (a ++ b) ≡ data_bytes a ++ data_bytes b
data_append [] b = refl
data_append (w ∷ a) b = rw (data_append a b)

pub sum_small : (bs : List ℕ) → ((i : ℕ) → get_or bs i 0 < 256) → sum bs ≤ 255 * length bs
sum_small [] h = omega arith
sum_small (b ∷ bs) h = omega (arith, sum_by-cons (λ x. x) b bs, h 0, sum_small bs (λ i. h (suc i)))

pub pairs_more : (bs : List ℕ) (i : ℕ) → i < length bs → pairs (take (i + 1) bs) ≡ pairs (take i bs) ++ hex 2 (get_or bs i 0)
unfolding hex
pairs_more bs i h = rw (add-one, take-suc bs i 0 h, pairs_append)

pub data_more : (words : List ℕ) (i : ℕ) → i < length words → data_bytes (take (i + 1) words) ≡ data_bytes (take i words) ++ word_bytes (get_or words i 0)
data_more words i h = rw (add-one, take-suc words i 0 h, data_append)

pub pairs_length : (bytes : List ℕ) → length (pairs bytes) ≡ 2 * length bytes
pairs_length [] = refl
pairs_length (b ∷ bytes) = omega (arith, pairs_length bytes)

pub data_length : (words : List ℕ) → length (data_bytes words) ≡ 4 * length words
data_length [] = refl
data_length (w ∷ words) = omega (arith, data_length words)

module _ (main : List ℕ) (first i : ℕ) (more : first + i < length main) where
  one_more : take (i + 1) (drop first main) ≡ take i (drop first main) ++ (get_or main (first + i) 0 ∷ [])
  one_more =
      let h : i < length (drop first main) = rw length-drop (omega arith) in
      rw (add-one, take-suc (drop first main) i 0 h, get_or-drop)

  pub one_word_more :
      pairs (data_bytes (take (i + 1) (drop first main)))
      ≡ pairs (data_bytes (take i (drop first main))) ++ pairs (word_bytes (get_or main (first + i) 0))
  one_word_more = rw (one_more, data_append, pairs_append)

  pub one_sum_more :
      sum (data_bytes (take (i + 1) (drop first main)))
      ≡ sum (data_bytes (take i (drop first main))) + sum (word_bytes (get_or main (first + i) 0))
  one_sum_more = rw (one_more, data_append, sum_by-append (λ (x : ℕ). x))

pub line_length : (type address : ℕ) (bytes : List ℕ) → length (record_line type address bytes) ≡ 12 + 2 * length bytes
unfolding record_line
line_length type address bytes = simp length-append (omega (arith, pairs_length bytes))

pub upper_length : (u : ℕ) → length (upper_line u) ≡ 16
unfolding upper_line
upper_length u = line_length 4 0 (u / 256 ∷ u % 256 ∷ [])

pub end_length : length end_line ≡ 12
unfolding end_line
end_length = line_length 1 0 []

pub no_upper : (i : ℕ) → i ≡ 0 → upper_before i ≡ []
unfolding upper_before
no_upper i h = rw h

pub one_upper : (i : ℕ) → 0 < i → i % 4096 ≡ 0 → upper_before i ≡ upper_line (i / 4096)
unfolding upper_before
one_upper i h e = rw (lt-ltb 0 i h, eq-eqb (i % 4096) 0 e)

pub no_upper_within : (i : ℕ) → (i % 4096 ≡ 0 → ⊥) → upper_before i ≡ []
unfolding upper_before
no_upper_within i h = rw (lt-ltb 0 i (some i h), ne_eqb (i % 4096) 0 h)
  where
    some : (i : ℕ) → (i % 4096 ≡ 0 → ⊥) → 0 < i
    some zero g = absurd (g refl)
    some (suc i) g = omega arith

pub count_small : (n i : ℕ) → row_count n i ≤ 4
count_small n i = go (ltb (n - 4 * i) 4) refl
  where
    go : (t : Bool) → ltb (n - 4 * i) 4 ≡ t → row_count n i ≤ 4
    go true e = rw e (omega (arith, ltb-true (n - 4 * i) 4 e))
    go false e = rw e (omega arith)

-- The words of a row and of those after it.
pub count_left : (n i : ℕ) → row_count n i + (n - 4 * suc i) ≡ n - 4 * i
count_left n i = go (ltb (n - 4 * i) 4) refl
  where
    go : (t : Bool) → ltb (n - 4 * i) 4 ≡ t → row_count n i + (n - 4 * suc i) ≡ n - 4 * i
    go true e = rw e (omega (arith, ltb-true (n - 4 * i) 4 e))
    go false e = rw e (omega (arith, ltb-false (n - 4 * i) 4 e))

module _ (main : List ℕ) (i : ℕ) where
  pub row_words_are : row_words i main ≡ take (row_count (length main) i) (drop (4 * i) main)
  row_words_are = go (ltb (length main - 4 * i) 4) refl
    where
      go : (t : Bool) → ltb (length main - 4 * i) 4 ≡ t → row_words i main ≡ take (row_count (length main) i) (drop (4 * i) main)
      go true e =
          let l = length-drop (4 * i) main in
          let h = ltb-true (length main - 4 * i) 4 e in
          rw (e, take_all 4 (drop (4 * i) main) (omega arith), take_all (length main - 4 * i) (drop (4 * i) main) (omega arith))
      go false e = rw e

  pub row_words_length : length (row_words i main) ≡ row_count (length main) i
  row_words_length =
      let l = length-drop (4 * i) main in
      rw row_words_are (length-take-le (row_count (length main) i) (drop (4 * i) main) (omega (arith, count_left (length main) i)))

  pub row_length : length (row i main) ≡ length (upper_before i) + (12 + 8 * row_count (length main) i)
  row_length =
      omega (
        arith,
        length-append (upper_before i) (record_line 0 (16 * i % 65536) (data_bytes (row_words i main))),
        line_length 0 (16 * i % 65536) (data_bytes (row_words i main)),
        data_length (row_words i main),
        row_words_length,
      )

pub rows_split : (j i k : ℕ) (main : List ℕ) → rows j (i + k) main ≡ rows j i main ++ rows (j + i) k main
unfolding rows
rows_split j zero k main = rw (zero-add, add-zero)
rows_split j (suc i) k main =
    let e : suc j + i ≡ j + suc i = omega arith in
    rw (suc-add, rows_split (suc j) i k main, e, append_assoc (row j main) (rows (suc j) i main) (rows (j + suc i) k main))

pub one_row_more : (i : ℕ) (main : List ℕ) → rows 0 (i + 1) main ≡ rows 0 i main ++ row i main
unfolding rows
one_row_more i main = rows_split 0 i 1 main ∙ rw (zero-add, append-nil)

-- The rows before row i, row i, and the rest.
pub rows_room : (i k : ℕ) (main : List ℕ) → i < k → length (rows 0 i main) + length (row i main) ≤ length (rows 0 k main)
rows_room i k main h =
    let e : i + 1 + (k - (i + 1)) ≡ k = omega arith in
    let rest = rows (0 + (i + 1)) (k - (i + 1)) main in
    let s : rows 0 k main ≡ rows 0 (i + 1) main ++ rest = rw e at (rows_split 0 (i + 1) (k - (i + 1)) main) in
    omega (
      arith,
      ap length s,
      length-append (rows 0 (i + 1) main) rest,
      ap length (one_row_more i main),
      length-append (rows 0 i main) (row i main),
    )

-- A further 64 KiB starts at every 4096th row.
further : (m : ℕ) → 16 * ((m + 4096) / 4096) + length (upper_before (suc m)) ≡ 16 * ((suc m + 4096) / 4096)
further m = go (eqb (suc m % 4096) 0) refl
  where
    go : (t : Bool) → eqb (suc m % 4096) 0 ≡ t → 16 * ((m + 4096) / 4096) + length (upper_before (suc m)) ≡ 16 * ((suc m + 4096) / 4096)
    go true e =
        let z = eqb-true (suc m % 4096) 0 e in
        rw (one_upper (suc m) (omega arith) z) (omega (arith, upper_length (suc m / 4096)))
    go false e =
        let z : 0 < suc m % 4096 = some (suc m % 4096) (eqb-false (suc m % 4096) 0 e) in
        rw (no_upper_within (suc m) (eqb-false (suc m % 4096) 0 e)) (omega arith)
      where
        some : (r : ℕ) → (r ≡ 0 → ⊥) → 0 < r
        some zero g = absurd (g refl)
        some (suc r) g = omega arith

-- The first rows, and eight signs for each word still to come.
rows_length : (m : ℕ) (main : List ℕ)
    → 16 + length (rows 0 (suc m) main) + 8 * (length main - 4 * suc m) ≡ 12 * suc m + 8 * length main + 16 * ((m + 4096) / 4096)
unfolding rows
rows_length zero main =
    omega (
      arith,
      ap length (append-nil (row 0 main)),
      row_length main 0,
      ap length (no_upper 0 refl),
      count_left (length main) 0,
    )
rows_length (suc m) main =
    let s : length (rows 0 (suc (suc m)) main) ≡ length (rows 0 (suc m) main) + length (row (suc m) main)
    = ap length (ap (λ (k : ℕ). rows 0 k main) (sym (add-one (suc m))) ∙ one_row_more (suc m) main) ∙ length-append (rows 0 (suc m) main) (row (suc m) main) in
    omega (arith, rows_length m main, row_length main (suc m), further m, count_left (length main) (suc m))

pub whole_length : (main : List ℕ) → length (exported main) ≡ 28 + length (rows 0 ((length main + 3) / 4) main)
unfolding exported
whole_length main =
    omega (
      arith,
      length-append (upper_line 0 ++ rows 0 ((length main + 3) / 4) main) end_line,
      length-append (upper_line 0) (rows 0 ((length main + 3) / 4) main),
      upper_length 0,
      end_length,
    )

pub exported_length_is : (main : List ℕ) → length (exported main) ≡ exported_length (length main)
unfolding exported_length rows
exported_length_is main =
    omega (arith, whole_length main, go (length main) refl)
  where
    go : (n : ℕ) → length main ≡ n
        → 16 + length (rows 0 ((length main + 3) / 4) main) ≡ 16 * blocks (length main) + 12 * ((length main + 3) / 4) + 8 * length main
    go zero e = rw e
    go (suc n) e =
        let z : 0 < length main = omega arith in
        let m = (length main + 3) / 4 - 1 in
        let k : (length main + 3) / 4 ≡ suc m = omega arith in
        rw (k, ne_eqb (length main) 0 (λ z. omega arith)) (omega (arith, rows_length m main))

pub upper_before_small : (i : ℕ) → length (upper_before i) ≤ 16
unfolding upper_before
upper_before_small i = go (ltb 0 i && eqb (i % 4096) 0)
  where
    go : (t : Bool) → length (cond t (upper_line (i / 4096)) []) ≤ 16
    go true = omega (arith, upper_length (i / 4096))
    go false = omega arith

-- The words of row i, up to the last of them or of main.
pub row_words_at : (i : ℕ) (main : List ℕ) (last : ℕ) → 4 * i ≤ length main → last ≡ min (length main) (4 * i + 4) → take (last - 4 * i) (drop (4 * i) main) ≡ row_words i main
row_words_at i main last h e = go (leb (4 * i + 4) (length main)) refl
  where
    go : (t : Bool) → leb (4 * i + 4) (length main) ≡ t → take (last - 4 * i) (drop (4 * i) main) ≡ row_words i main
    go true f =
        let l = leb-true (4 * i + 4) (length main) f in
        let n : last - 4 * i ≡ 4 = omega arith in
        rw n
    go false f =
        let l = leb-false (4 * i + 4) (length main) f in
        let d = length-drop (4 * i) main in
        rw (take_all (last - 4 * i) (drop (4 * i) main) (omega arith), take_all 4 (drop (4 * i) main) (omega arith))
