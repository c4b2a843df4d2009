-- A word that a text names is four bytes, so it is one of 32 bits; storing such words keeps main's words so, and main as long as it was.
-- Assumes nothing.
use Prim.Native.Nat.{ℕ, zero, suc, ◌+◌, ◌*◌, ◌^◌, ◌<◌}
use mathlib.Core.Path.{◌≡◌, refl, ap, ◌∙◌}
use mathlib.Core.Bool.{Bool, true, false, cond}
use mathlib.Core.List.{List, [], ◌∷◌, ◌++◌}
use native.Mathlib.Omega.{arith}
use Rattle.std.specs.Prelude.{Option, Some, None, Result, Ok, Err}
use lib.Dec.{eqb}
use lib.ListN.{length, get_or, drop, set, length-set}
use Rattle.intel_hex.specs.Lines.{bytes, all_bytes, size_of, line_of}
use Rattle.intel_hex.specs.Imported.{word_of, words_from, named, turn_of, base_after, Text, then_lines, text_in, text_of, stored, words_in, import_answer, main_after, Imports}
use Rattle.intel_hex.specs.declared.lines.Line.{Line}
use Rattle.intel_hex.specs.declared.lines.Line.TheVariants.{Data, Upper, End}
use Rattle.intel_hex.specs.declared.importing.Turn.{Turn}
use Rattle.intel_hex.specs.declared.importing.Turn.TheVariants.{On, Ended}
use Rattle.intel_hex.specs.declared.importing.ImportRefusal.{ImportRefusal}
use Rattle.intel_hex.proofs.Bytes.{each_byte}
use Rattle.intel_hex.proofs.Texts.{first_word, later_words, data_bytes_there}

-- Every word is one of 32 bits.
abbrev pub in_range : List ℕ → Type 0
in_range words = (k : ℕ) → get_or words k 0 < 2 ^ 32

-- The same of words with their places.
abbrev pub placed_in_range : List (ℕ × ℕ) → Type 0
placed_in_range words = (k : ℕ) → (get_or words k (0, 0)).1 < 2 ^ 32

none_in_range : placed_in_range []
none_in_range k = omega arith

append_in_range : (a b : List (ℕ × ℕ)) → placed_in_range a → placed_in_range b → placed_in_range (a ++ b)
append_in_range [] b p q k = q k
append_in_range (w ∷ a) b p q zero = p 0
append_in_range (w ∷ a) b p q (suc k) = append_in_range a b (λ j. p (suc j)) q k

word_in_range : (signs : List ℕ) → all_bytes (bytes 4 signs) ≡ true → word_of signs < 2 ^ 32
unfolding word_of
word_in_range signs e =
    omega (
      arith,
      each_byte 4 0 signs e (omega arith),
      each_byte 4 1 signs e (omega arith),
      each_byte 4 2 signs e (omega arith),
      each_byte 4 3 signs e (omega arith),
    )

words_from_in_range : (count place : ℕ) (signs : List ℕ) → all_bytes (bytes (4 * count) signs) ≡ true → placed_in_range (words_from count place signs)
words_from_in_range zero place signs e k = none_in_range k
words_from_in_range (suc count) place signs e zero = word_in_range signs (first_word signs (suc count) (omega arith) e)
words_from_in_range (suc count) place signs e (suc k) =
    let n : suc count ≡ 1 + count = omega arith in
    let e' : all_bytes (bytes (4 * (1 + count)) signs) ≡ true = rw n at e in
    words_from_in_range count (suc place) (drop 8 signs) (later_words signs 1 count e') k

line_in_range : (base : ℕ) (t : List ℕ) (l : Option Line) → line_of t ≡ l → placed_in_range (named base l t)
line_in_range base t (Some (Data s)) e = words_from_in_range s.words (base + s.first) (drop 9 t) (data_bytes_there t s e)
line_in_range base t (Some (Upper b)) e = none_in_range
line_in_range base t (Some End) e = none_in_range
line_in_range base t None e = none_in_range

lines_in_range : (turn : Option Turn) (words : List (ℕ × ℕ)) (rest : List ℕ) (more : Text) → placed_in_range words → placed_in_range (words_in more)
    → placed_in_range (words_in (then_lines turn words rest more))
lines_in_range None words rest more p q = none_in_range
lines_in_range (Some Ended) words rest more p q = go (eqb (length rest) 0)
  where
    go : (b : Bool) → placed_in_range (words_in (cond b (Ok []) (Err 2)))
    go true = none_in_range
    go false = none_in_range
lines_in_range (Some (On base)) words rest (Ok more) p q = append_in_range words more p q
lines_in_range (Some (On base)) words rest (Err n) p q = none_in_range

in_range_in : (k room base : ℕ) (t : List ℕ) → placed_in_range (words_in (text_in k room base t))
unfolding text_in
in_range_in zero room base t = none_in_range
in_range_in (suc k) room base t =
    let turn = turn_of room base (line_of t) in
    let rest = drop (size_of t) t in
    lines_in_range turn (named base (line_of t) t) rest (text_in k room (base_after turn) rest)
    (line_in_range base t (line_of t) refl)
    (in_range_in k room (base_after turn) rest)

-- Every word that a text names is one of 32 bits.
pub named_in_range : (room base : ℕ) (text : List ℕ) → placed_in_range (words_in (text_of room base text))
unfolding text_of
named_in_range room base text = in_range_in (suc (length text)) room base text

set_in_range : (main : List ℕ) (place word : ℕ) → in_range main → word < 2 ^ 32 → in_range (set main place word)
set_in_range [] place word p q k = p k
set_in_range (w ∷ main) zero word p q zero = q
set_in_range (w ∷ main) zero word p q (suc k) = p (suc k)
set_in_range (w ∷ main) (suc place) word p q zero = p 0
set_in_range (w ∷ main) (suc place) word p q (suc k) = set_in_range main place word (λ j. p (suc j)) q k

words_in_range : (words : List (ℕ × ℕ)) (main : List ℕ) → placed_in_range words → in_range main → in_range (stored words main)
words_in_range [] main p q = q
words_in_range (w ∷ words) main p q = words_in_range words (set main w.0 w.1) (λ j. p (suc j)) (set_in_range main w.0 w.1 q (p 0))

pub stored_in_range : (main text : List ℕ) → in_range main → in_range (stored (words_in (text_of (length main) 0 text)) main)
stored_in_range main text p = words_in_range (words_in (text_of (length main) 0 text)) main (named_in_range (length main) 0 text) p

pub stored_length : (words : List (ℕ × ℕ)) (main : List ℕ) → length (stored words main) ≡ length main
stored_length [] main = refl
stored_length (w ∷ words) main = stored_length words (set main w.0 w.1) ∙ length-set main w.0 w.1

-- A refused import leaves main.
pub refused_leaves : (refusal : ImportRefusal) (text main : List ℕ) → main_after (Err refusal) text main ≡ main
refused_leaves refusal text main = refl

-- Whatever an import answers, main's words are of 32 bits after it if they were before it.
pub after_in_range : (answer : Result ℕ ImportRefusal) (text main : List ℕ) → in_range main → in_range (main_after answer text main)
after_in_range (Ok count) text main p = stored_in_range main text p
after_in_range (Err refusal) text main p = rw (refused_leaves refusal text main) p

-- And main is as long as it was.
pub after_length : (answer : Result ℕ ImportRefusal) (text main : List ℕ) → length (main_after answer text main) ≡ length main
after_length (Ok count) text main = stored_length (words_in (text_of (length main) 0 text)) main
after_length (Err refusal) text main = ap length (refused_leaves refusal text main)

-- The same of the call.
pub imported_in_range : {main text after : List ℕ} {r : Result ℕ ImportRefusal} → Imports main text r after → in_range main → in_range after
imported_in_range {main} {text} i p = rw i.main_is (after_in_range (import_answer (length main) text) text main p)

pub imported_length : {main text after : List ℕ} {r : Result ℕ ImportRefusal} → Imports main text r after → length after ≡ length main
imported_length {main} {text} i = ap length i.main_is ∙ after_length (import_answer (length main) text) text main
