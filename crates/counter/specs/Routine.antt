-- A routine as text (document 01, "The counter program"): lines of eight hex digits and a line feed, loaded from main address 0.
-- Assumes nothing.
use Rattle.std.specs.Prelude.{ℕ, zero, suc, ◌+◌, ◌*◌, ◌≡◌, cond, List, [], ◌∷◌, ◌++◌, ltb, eqb, length, drop, Option, Some, None, Result, Ok, Err}
use Prim.Native.Char.{code}
use Rattle.text.specs.Digits.{digit_value}
use Rattle.text.specs.declared.read.BadLine.{BadLine}

-- A line of which k digits and the line feed are still to come, after digits of value v.
abbrev pub line_after : ℕ → ℕ → List ℕ → Option ℕ
line_after zero v [] = None
line_after zero v (b ∷ text) = cond (eqb b (code "\n")) (Some v) None
line_after (suc k) v [] = None
line_after (suc k) v (b ∷ text) =
    cond (ltb (digit_value b) 16) (line_after k (v * 16 + digit_value b) text) None

abbrev pub first_line : List ℕ → Option ℕ
first_line text = line_after 8 0 text

-- The words of a text, or the first bad line from 1.
abbrev pub Routine : Type 0
Routine = Result (List ℕ) ℕ

-- A line, and then the routine of the lines after it.
abbrev pub then_lines : Option ℕ → Routine → Routine
then_lines None rest = Err 1
then_lines (Some w) (Ok ws) = Ok (w ∷ ws)
then_lines (Some w) (Err n) = Err (suc n)

-- The routine of a text where main has room for so many words.
unfoldable pub routine_of : ℕ → List ℕ → Routine
routine_of zero [] = Ok []
routine_of zero (b ∷ text) = Err 1
routine_of (suc room) [] = Ok []
routine_of (suc room) (b ∷ text) = then_lines (first_line (b ∷ text)) (routine_of room (drop 9 (b ∷ text)))

abbrev pub answer : Routine → Result ℕ BadLine
answer (Ok ws) = Ok (length ws)
answer (Err n) = Err (record { 0 = n })

-- The words stand in main from address 0 on, and its other words are as before; a bad text writes none.
abbrev pub main_after : Routine → List ℕ → List ℕ
main_after (Ok ws) main = ws ++ drop (length ws) main
main_after (Err n) main = main

-- What loading a text into main answers, and main after it.
pub record Loads (text main : List ℕ) (r : Result ℕ BadLine) (after : List ℕ) : Type 0 where
  pub answer_is : r ≡ answer (routine_of (length main) text)
  pub main_is : after ≡ main_after (routine_of (length main) text) main
