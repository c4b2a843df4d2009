-- The import (document 02, W4): a text judged line by line, the words that it names, and main after it.
-- Assumes nothing.
use Rattle.std.specs.Prelude.{ℕ, zero, suc, ◌+◌, ◌*◌, ◌≡◌, Bool, true, cond, ◌||◌, List, [], ◌∷◌, ◌++◌, leb, ltb, eqb, length, drop, set, Option, Some, None, Result, Ok, Err}
use Rattle.intel_hex.specs.Digits.{byte}
use Rattle.intel_hex.specs.Lines.{size_of, line_of}
use Rattle.intel_hex.specs.declared.lines.Line.{Line}
use Rattle.intel_hex.specs.declared.lines.Line.TheVariants.{Data, Upper, End}
use Rattle.intel_hex.specs.declared.importing.Turn.{Turn}
use Rattle.intel_hex.specs.declared.importing.Turn.TheVariants.{On, Ended}
use Rattle.text.specs.declared.read.BadLine.{BadLine}
use Rattle.intel_hex.specs.declared.importing.ImportRefusal.{ImportRefusal}
use Rattle.intel_hex.specs.declared.importing.ImportRefusal.TheVariants.{MainTooLong, BadText}

-- A word's four bytes, the high one first.
unfoldable pub word_of : List ℕ → ℕ
word_of signs = ((byte signs * 256 + byte (drop 2 signs)) * 256 + byte (drop 4 signs)) * 256 + byte (drop 6 signs)

-- k words from a place of main on, each with its place.
abbrev pub words_from : ℕ → ℕ → List ℕ → List (ℕ × ℕ)
words_from zero place signs = []
words_from (suc k) place signs = (place, word_of signs) ∷ words_from k (suc place) (drop 8 signs)

-- The words that a line names, where the 64 KiB of the last type 04 record start at `base`.
abbrev pub named : ℕ → Option Line → List ℕ → List (ℕ × ℕ)
named base (Some (Data s)) line = words_from s.words (base + s.first) (drop 9 line)
named base (Some (Upper b)) line = []
named base (Some End) line = []
named base None line = []

-- Whether main has every word that a line names.
abbrev pub has_words : ℕ → ℕ → Line → Bool
has_words room base (Data s) = eqb s.words 0 || leb (base + s.first + s.words) room
has_words room base (Upper b) = true
has_words room base End = true

-- How a text goes on after a line, if the line is good: with the start of the 64 KiB that count from there, or at its end.
abbrev pub turn_of : ℕ → ℕ → Option Line → Option Turn
turn_of room base (Some (Data s)) = cond (has_words room base (Data s)) (Some (On base)) None
turn_of room base (Some (Upper b)) = Some (On b)
turn_of room base (Some End) = Some Ended
turn_of room base None = None

abbrev pub base_after : Option Turn → ℕ
base_after (Some (On base)) = base
base_after (Some Ended) = 0
base_after None = 0

-- The words that a text names, in order, or its first bad line from 1.
abbrev pub Text : Type 0
Text = Result (List (ℕ × ℕ)) ℕ

-- A good line that names these words, then the text after it.
abbrev pub after_line : List (ℕ × ℕ) → Text → Text
after_line words (Ok more) = Ok (words ++ more)
after_line words (Err n) = Err (suc n)

-- A line by its turn: the words that it names, the bytes after it, and what they are as a text.
abbrev pub then_lines : Option Turn → List (ℕ × ℕ) → List ℕ → Text → Text
then_lines None words rest more = Err 1
then_lines (Some Ended) words rest more = cond (eqb (length rest) 0) (Ok []) (Err 2)
then_lines (Some (On base)) words rest more = after_line words more

-- A text of fewer than k bytes.
unfoldable pub text_in : ℕ → ℕ → ℕ → List ℕ → Text
text_in zero room base text = Err 1
text_in (suc k) room base text =
    let turn = turn_of room base (line_of text) in
    let rest = drop (size_of text) text in
    let more = text_in k room (base_after turn) rest in
    then_lines turn (named base (line_of text) text) rest more

-- A text for a main of `room` words, where the 64 KiB at `base` count first.
unfoldable pub text_of : ℕ → ℕ → List ℕ → Text
text_of room base text = text_in (suc (length text)) room base text

-- Words put into main one after the other: of a word named twice the last stays.
abbrev pub stored : List (ℕ × ℕ) → List ℕ → List ℕ
stored [] main = main
stored (w ∷ words) main = stored words (set main w.0 w.1)

abbrev pub words_in : Text → List (ℕ × ℕ)
words_in (Ok words) = words
words_in (Err n) = []

abbrev pub verdict : Text → Result Unit BadLine
verdict (Ok words) = Ok tt
verdict (Err n) = Err (record { 0 = n })

-- No byte of the trail is in use after a good text.
abbrev pub answer : Result Unit BadLine → Result ℕ ImportRefusal
answer (Ok u) = Ok 0
answer (Err line) = Err (BadText line.0)

-- The answer for a main of `room` words: refusals 2 and 12, in this order.
unfoldable pub import_answer : ℕ → List ℕ → Result ℕ ImportRefusal
import_answer room text = cond (ltb 1048576 room) (Err MainTooLong) (answer (verdict (text_of room 0 text)))

-- A refused import writes no word.
abbrev pub main_after : Result ℕ ImportRefusal → List ℕ → List ℕ → List ℕ
main_after (Ok count) text main = stored (words_in (text_of (length main) 0 text)) main
main_after (Err refusal) text main = main

-- History starts again with an empty trail after an accepted import; a refused one leaves the caller's count.
abbrev pub used_after : Result ℕ ImportRefusal → ℕ → ℕ
used_after (Ok count) used = count
used_after (Err refusal) used = used

-- What importing a text into main answers, the count of trail bytes in use that it leaves the caller, whatever that was, and main after it.
pub record Imports (main text : List ℕ) (r : Result ℕ ImportRefusal) (after : List ℕ) : Type 0 where
  pub answer_is : r ≡ import_answer (length main) text
  pub used_is : (used : ℕ) → used_after r used ≡ used_after (import_answer (length main) text) used
  pub main_is : after ≡ main_after (import_answer (length main) text) text main
