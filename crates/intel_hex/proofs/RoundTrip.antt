-- Importing an export gives the words back: each line of an export is good, with a carriage return before its line feed or without, and
-- the words that it names are main's, in order.
-- Assumes nothing.
use Prim.Native.Nat.{ℕ, zero, suc, ◌+◌, ◌*◌, ◌-◌, ◌/◌, ◌%◌, ◌≤◌, ◌<◌}
use mathlib.Core.Path.{◌≡◌, refl, ap, sym, ◌∙◌}
use mathlib.Core.Bool.{Bool, true, false, ◌||◌}
use mathlib.Core.List.{List, [], ◌∷◌, ◌++◌, append_assoc, append-nil}
use native.Mathlib.Omega.{arith}
use native.Mathlib.Nat.{add-zero}
use Rattle.std.specs.Prelude.{Some, Ok}
use lib.Dec.{leb, eqb}
use lib.ListN.{length, take, drop, set, length-append, drop_of_length-le}
use lib.Seq.{drop-drop, get_or-drop, set-append_seam, append_snoc}
use borrow.Author.Tests.{lt-ltb, le-ltb, le-leb, eqb-true, eqb-false}
use Rattle.intel_hex.specs.Digits.{digits_of, byte}
use Rattle.intel_hex.specs.Layout.{pairs, record_line, data_bytes}
use Rattle.intel_hex.specs.Exported.{upper_line, end_line, upper_before, row_words, row, rows, exported}
use Rattle.intel_hex.specs.Lines.{all_bytes, size_of, data_line, end_of, upper_of, by_type, line_of}
use Rattle.intel_hex.specs.Imported.{words_from, named, has_words, turn_of, text_of, stored, import_answer, main_after}
use Rattle.intel_hex.specs.Returns.{first_choice, other_choices, with_returns}
use Rattle.intel_hex.specs.declared.lines.Span.{Span}
use Rattle.intel_hex.specs.declared.lines.Line.TheVariants.{Data, Upper, End}
use Rattle.intel_hex.specs.declared.importing.Turn.TheVariants.{On, Ended}
use Rattle.intel_hex.proofs.Lengths.{pairs_append, data_length, count_small, count_left, row_words_length, no_upper, one_upper, no_upper_within}
use Rattle.intel_hex.proofs.ReadBack.{byte_again, sum_of, signs, signs_with_returns, size_again, rest_again, line_again, word_again}
use Rattle.intel_hex.proofs.Returns.{feed, feed_size}
use Rattle.intel_hex.proofs.Texts.{text_on, ended_good}
use Rattle.intel_hex.proofs.Words.{in_range}

range_take : (j : ℕ) (words : List ℕ) → in_range words → in_range (take j words)
range_take zero words r k = omega arith
range_take (suc j) [] r k = r k
range_take (suc j) (w ∷ words) r zero = r 0
range_take (suc j) (w ∷ words) r (suc k) = range_take j words (λ n. r (suc n)) k

range_drop : (j : ℕ) (words : List ℕ) → in_range words → in_range (drop j words)
range_drop j words r k = rw (get_or-drop j words k 0) (r (j + k))

-- Words with their places, from one on.
abbrev pub placed : ℕ → List ℕ → List (ℕ × ℕ)
placed p [] = []
placed p (w ∷ words) = (p, w) ∷ placed (suc p) words

placed_parts : (j p : ℕ) (words : List ℕ) → placed p (take j words) ++ placed (p + j) (drop j words) ≡ placed p words
placed_parts zero p words = rw add-zero
placed_parts (suc j) p [] = refl
placed_parts (suc j) p (w ∷ words) =
    let e : p + suc j ≡ suc p + j = omega arith in
    rw (e, placed_parts j (suc p) words)

data_all : (words : List ℕ) → all_bytes (data_bytes words) ≡ true
data_all [] = refl
data_all (w ∷ words) =
    rw (
      lt-ltb (w / 16777216 % 256) 256 (omega arith),
      lt-ltb (w / 65536 % 256) 256 (omega arith),
      lt-ltb (w / 256 % 256) 256 (omega arith),
      lt-ltb (w % 256) 256 (omega arith),
    ) (data_all words)

words_again : (words rest : List ℕ) (p : ℕ) → in_range words → words_from (length words) p (pairs (data_bytes words) ++ rest) ≡ placed p words
words_again [] rest p r = refl
words_again (w ∷ words) rest p r =
    rw (
      word_again w (pairs (data_bytes words) ++ rest) (r 0),
      words_again words rest (suc p) (λ k. r (suc k)),
    )

-- A good text that names these words, whatever carriage returns are put before its line feeds.
abbrev pub Gives : ℕ → ℕ → List ℕ → List (ℕ × ℕ) → Type 0
Gives room base text words = (choices : List Bool) → text_of room base (with_returns choices text) ≡ Ok words

-- A type 04 record sets where the 64 KiB start.
upper_again : (room base u : ℕ) (rest : List ℕ) (ws : List (ℕ × ℕ)) → u < 65536
    → Gives room (16384 * u) rest ws
    → Gives room base (upper_line u ++ rest) ws
unfolding upper_line by_type upper_of
upper_again room base u rest ws h q choices =
    let bs = u / 256 ∷ u % 256 ∷ [] in
    let d : all_bytes bs ≡ true = rw (lt-ltb (u / 256) 256 (omega arith), lt-ltb (u % 256) 256 (omega arith)) in
    let return = first_choice choices in
    let more = with_returns (other_choices choices) rest in
    let t = signs 4 0 bs return more in
    let high : byte (drop 9 t) ≡ u / 256 = byte_again (u / 256) _ (omega arith) in
    let low : byte (drop 11 t) ≡ u % 256 = byte_again (u % 256) _ (omega arith) in
    let v : 256 * (u / 256) + u % 256 ≡ u = omega arith in
    let l : line_of t ≡ Some (Upper (16384 * u)) = line_again 4 0 bs return more (omega arith) (omega arith) (omega arith) d ∙ rw (high, low, v) in
    let o : turn_of room base (line_of t) ≡ Some (On (16384 * u)) = rw l in
    rw (signs_with_returns choices 4 0 bs rest)
    (text_on room base t o
    ∙ rw (l, rest_again 4 0 bs return more (omega arith) (omega arith) (omega arith) d, q (other_choices choices)))

-- The end record ends a good text.
end_again : (room base : ℕ) → Gives room base end_line []
unfolding end_line by_type end_of with_returns
end_again room base choices =
    rw (← append-nil (record_line 1 0 []), signs_with_returns choices 1 0 [] []) (go (first_choice choices))
  where
    long : (return : Bool) → length (signs 1 0 [] return []) ≡ 11 + feed_size return
    long true = refl
    long false = refl

    go : (return : Bool) → text_of room base (signs 1 0 [] return []) ≡ Ok []
    go return =
        let t = signs 1 0 [] return [] in
        let l : line_of t ≡ Some End = line_again 1 0 [] return [] (omega arith) (omega arith) (omega arith) refl in
        let o : turn_of room base (line_of t) ≡ Some Ended = rw l in
        let n : length t ≡ size_of t = long return ∙ sym (size_again 1 0 [] return [] (omega arith) (omega arith) (omega arith) refl) in
        ended_good room base t o n

-- The words of a data record stand after its head.
named_signs : (words : List ℕ) (return : Bool) (rest : List ℕ) (address p : ℕ) → in_range words
    → words_from (length words) p (drop 9 (signs 0 address (data_bytes words) return rest)) ≡ placed p words
named_signs words return rest address p r =
    let s = sum_of 0 address (data_bytes words) in
    rw (pairs_append (data_bytes words) (s ∷ []), append_assoc (pairs (data_bytes words)) (digits_of s) (feed return rest))
    (words_again words (digits_of s ++ feed return rest) p r)

-- A data record of at most four words names them.
data_again : (room base address : ℕ) (words rest : List ℕ) (ws : List (ℕ × ℕ))
    → address < 65536
    → address % 4 ≡ 0
    → address + 4 * length words ≤ 65536
    → length words ≤ 4
    → base + address / 4 + length words ≤ room
    → in_range words
    → Gives room base rest ws
    → Gives room base (record_line 0 address (data_bytes words) ++ rest) (placed (base + address / 4) words ++ ws)
unfolding by_type data_line
data_again room base address words rest ws a m f c r i y choices =
    let bs = data_bytes words in
    let n = data_length words in
    let k : length bs < 256 = omega arith in
    let return = first_choice choices in
    let more = with_returns (other_choices choices) rest in
    let t = signs 0 address bs return more in
    let s : Span = record { first = address / 4; words = length words } in
    let q : length bs % 4 ≡ 0 = omega arith in
    let w : length bs / 4 ≡ length words = omega arith in
    let l : line_of t ≡ Some (Data s) =
    line_again 0 address bs return more (omega arith) a k (data_all words)
    ∙ rw (q, m, le-leb (address + length bs) 65536 (omega arith), w)
    in
    let g : has_words room base (Data s) ≡ true = fits (length words) r in
    let o : turn_of room base (line_of t) ≡ Some (On base) = rw (l, g) in
    let d : named base (line_of t) t ≡ placed (base + address / 4) words = rw l (named_signs words return more address (base + address / 4) i) in
    rw (signs_with_returns choices 0 address bs rest)
    (text_on room base t o
    ∙ rw (d, rest_again 0 address bs return more (omega arith) a k (data_all words), y (other_choices choices)))
  where
    fits : (n : ℕ) → base + address / 4 + n ≤ room → (eqb n 0 || leb (base + address / 4 + n) room) ≡ true
    fits n h = go (eqb n 0)
      where
        go : (b : Bool) → (b || leb (base + address / 4 + n) room) ≡ true
        go true = refl
        go false = le-leb (base + address / 4 + n) room h

-- The type 04 record before a row, or none, sets the 64 KiB of the row.
before : (room i : ℕ) (t : List ℕ) (ws : List (ℕ × ℕ)) → i < 262144
    → Gives room (16384 * (i / 4096)) t ws
    → Gives room (16384 * ((i - 1) / 4096)) (upper_before i ++ t) ws
before room zero t ws h q = rw (no_upper 0 refl) q
before room (suc i) t ws h q = go (eqb (suc i % 4096) 0) refl
  where
    some : (r : ℕ) → (r ≡ 0 → ⊥) → 0 < r
    some zero q = absurd (q refl)
    some (suc r) q = omega arith

    go : (b : Bool) → eqb (suc i % 4096) 0 ≡ b
        → Gives room (16384 * ((suc i - 1) / 4096)) (upper_before (suc i) ++ t) ws
    go true e =
        rw (one_upper (suc i) (omega arith) (eqb-true (suc i % 4096) 0 e))
        (upper_again room (16384 * ((suc i - 1) / 4096)) (suc i / 4096) t ws (omega arith) q)
    go false e =
        let g = eqb-false (suc i % 4096) 0 e in
        let z : 0 < suc i % 4096 = some (suc i % 4096) g in
        let same : (suc i - 1) / 4096 ≡ suc i / 4096 = omega arith in
        rw (no_upper_within (suc i) g, same) q

-- The rows from row i on and the end record, where the 64 KiB of the row before count.
rows_again : (room : ℕ) (main : List ℕ) (k i : ℕ)
    → i + k ≡ (length main + 3) / 4
    → length main ≤ 1048576
    → length main ≤ room
    → in_range main
    → Gives room (16384 * ((i - 1) / 4096)) (rows i k main ++ end_line) (placed (4 * i) (drop (4 * i) main))
unfolding rows
rows_again room main zero i e h g r = rw (drop_of_length-le main {i = 4 * i} (omega arith)) (end_again room (16384 * ((i - 1) / 4096)))
rows_again room main (suc k) i e h g r =
    let base = 16384 * (i / 4096) in
    let words = row_words i main in
    let rest = rows (suc i) k main ++ end_line in
    let line = record_line 0 (16 * i % 65536) (data_bytes words) in
    let n = row_words_length main i in
    let c = count_small (length main) i in
    let l = count_left (length main) i in
    let place : base + 16 * i % 65536 / 4 ≡ 4 * i = omega arith in
    let split : rows i (suc k) main ++ end_line ≡ upper_before i ++ (line ++ rest) =
    append_assoc (row i main) (rows (suc i) k main) end_line ∙ append_assoc (upper_before i) line rest
    in
    let b : 16384 * ((suc i - 1) / 4096) ≡ base = ap (λ (m : ℕ). 16384 * (m / 4096)) (one_less i) in
    let after : Gives room base rest (placed (4 * suc i) (drop (4 * suc i) main)) = rw b at (rows_again room main k (suc i) (omega arith) h g r) in
    let whole : Gives room base (line ++ rest) (placed (4 * i) (drop (4 * i) main)) =
    rw (place, joined i) at
    (data_again room base (16 * i % 65536) words rest (placed (4 * suc i) (drop (4 * suc i) main)) (omega arith) (omega arith) (omega arith) (omega arith) (omega arith) (range_take 4 (drop (4 * i) main) (range_drop (4 * i) main r)) after)
    in
    rw split (before room i (line ++ rest) (placed (4 * i) (drop (4 * i) main)) (omega arith) whole)
  where
    one_less : (i : ℕ) → suc i - 1 ≡ i
    one_less i = omega arith

    joined : (i : ℕ) → placed (4 * i) (row_words i main) ++ placed (4 * suc i) (drop (4 * suc i) main) ≡ placed (4 * i) (drop (4 * i) main)
    joined i =
        let e : 4 * suc i ≡ 4 * i + 4 = omega arith in
        rw (e, ← drop-drop 4 (4 * i) main) (placed_parts 4 (4 * i) (drop (4 * i) main))

-- An export is a good text, and names every word of main once, in order.
pub export_good : (room : ℕ) (main : List ℕ)
    → length main ≤ 1048576
    → length main ≤ room
    → in_range main
    → Gives room 0 (exported main) (placed 0 main)
unfolding exported
export_good room main h g r =
    let k = (length main + 3) / 4 in
    rw (append_assoc (upper_line 0) (rows 0 k main) end_line)
    (upper_again room 0 0 (rows 0 k main ++ end_line) (placed 0 main) (omega arith) (rows_again room main k 0 (omega arith) h g r))

placed_stored : (words front back : List ℕ) → length words ≤ length back
    → stored (placed (length front) words) (front ++ back) ≡ front ++ words ++ drop (length words) back
placed_stored [] front back h = rw append-nil
placed_stored (w ∷ words) front [] h = absurd (omega arith)
placed_stored (w ∷ words) front (b ∷ back) h =
    let one = front ++ (w ∷ []) in
    let n : suc (length front) ≡ length one = omega (arith, length-append front (w ∷ [])) in
    let first : set (front ++ (b ∷ back)) (length front) w ≡ one ++ back = set-append_seam front b back w ∙ sym (append_snoc front w back) in
    ap (λ (m : List ℕ). stored (placed (suc (length front)) words) m) first
    ∙ ap (λ (p : ℕ). stored (placed p words) (one ++ back)) n
    ∙ placed_stored words one back (omega arith)
    ∙ rw (append_snoc front w words)

-- Importing an export is accepted, whatever carriage returns are put before its line feeds; main has the exported words, and those past
-- them stay.
pub import_of_export : (choices : List Bool) (main other : List ℕ)
    → length main ≤ length other
    → length other ≤ 1048576
    → in_range main
    → (import_answer (length other) (with_returns choices (exported main)) ≡ Ok 0)
    × (main_after (Ok 0) (with_returns choices (exported main)) other ≡ main ++ drop (length main) other)
unfolding import_answer
import_of_export choices main other g h r =
    let x = export_good (length other) main (omega arith) g r choices in
    (rw (le-ltb 1048576 (length other) h, x), rw x (placed_stored main [] other g))

-- Importing an export into as long a main gives the same words, whatever main held.
pub round_trip : (choices : List Bool) (main other : List ℕ)
    → length other ≡ length main
    → length main ≤ 1048576
    → in_range main
    → (import_answer (length other) (with_returns choices (exported main)) ≡ Ok 0)
    × (main_after (Ok 0) (with_returns choices (exported main)) other ≡ main)
round_trip choices main other e h r =
    let i = import_of_export choices main other (omega arith) (omega arith) r in
    (i.0, i.1 ∙ rw (drop_of_length-le other {i = length main} (omega arith), append-nil))
