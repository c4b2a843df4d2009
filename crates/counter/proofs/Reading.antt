-- Each turn of a reader decides what the definition decides there: a law for each way that a line, and then a routine, can go on.
-- Assumes nothing.
use Prim.Native.Nat.{ℕ, zero, suc, ◌+◌, ◌*◌, ◌-◌, ◌<◌, ◌≤◌}
use Rattle.std.specs.Prelude.{Option, Some, None, Result, Ok, Err}
use mathlib.Core.Path.{◌≡◌, refl, ap, sym, ◌∙◌}
use mathlib.Core.Bool.{Bool, true, false}
use mathlib.Core.List.{List, [], ◌∷◌, ◌++◌}
use native.Mathlib.Omega.{arith}
use native.Mathlib.Numerals.{add-one, sub-one}
use lib.Dec.{ltb}
use lib.ListN.{length, get_or, take, drop, set, length-append, length-drop}
use lib.Seq.{drop-cons, take-suc, append_snoc, set_at, take_all, length-take-le}
use borrow.Author.Tests.{lt-ltb, le-ltb}
use Rattle.text.specs.Digits.{digit_value}
use Rattle.counter.specs.Routine.{line_after, first_line, Routine, then_lines, routine_of, answer, main_after, Loads}
use Rattle.text.specs.declared.read.BadLine.{BadLine}

module _ (text : List ℕ) (at k v : ℕ) (more : at < length text) where
  pub no_digit : 16 ≤ digit_value (get_or text at 0) → line_after (suc k) v (drop at text) ≡ None
  no_digit h = rw (drop-cons text at 0 more, le-ltb (digit_value (get_or text at 0)) 16 h)

  pub one_digit : digit_value (get_or text at 0) < 16
      → line_after (suc k) v (drop at text) ≡ line_after k (v * 16 + digit_value (get_or text at 0)) (drop (at + 1) text)
  one_digit h = rw (drop-cons text at 0 more, lt-ltb (digit_value (get_or text at 0)) 16 h, add-one)

-- Two constructors are never equal: `cc` makes 0 ≡ 1 of it, and anything follows.
clash : {A : Type 0} → ◌≡◌ {A = ℕ} 0 1 → A
clash z = absurd (omega arith)

pub not_ill_formed : {A : Type 0} {l : Option ℕ} {w : ℕ} → l ≡ Some w → l ≡ None → A
not_ill_formed e f = clash (cc)

pub same_word : {l : Option ℕ} {v w : ℕ} → l ≡ Some v → l ≡ Some w → v ≡ w
same_word e f = cc

-- A well-formed line has its k digits and the line feed.
line_has : (k v : ℕ) (text : List ℕ) (w : ℕ) → line_after k v text ≡ Some w → suc k ≤ length text
line_has zero v [] w e = clash (cc)
line_has zero v (b ∷ text) w e = omega arith
line_has (suc k) v [] w e = clash (cc)
line_has (suc k) v (b ∷ text) w e = go (ltb (digit_value b) 16) refl (line_has k (v * 16 + digit_value b) text w)
  where
    go : (t : Bool)
        → ltb (digit_value b) 16 ≡ t
        → (line_after k (v * 16 + digit_value b) text ≡ Some w → suc k ≤ length text)
        → suc (suc k) ≤ suc (length text)
    go true h has = omega (arith, has (rw h at e))
    go false h has =
        let f : None ≡ Some w = rw h at e in
        clash (cc)

-- A text that ends among the digits or before the line feed is none.
pub too_short : (k v : ℕ) (text : List ℕ) → length text ≤ k → line_after k v text ≡ None
too_short zero v [] h = refl
too_short zero v (b ∷ text) h = absurd (omega arith)
too_short (suc k) v [] h = refl
too_short (suc k) v (b ∷ text) h = go (ltb (digit_value b) 16) refl (too_short k (v * 16 + digit_value b) text (omega arith))
  where
    go : (t : Bool) → ltb (digit_value b) 16 ≡ t → line_after k (v * 16 + digit_value b) text ≡ None → line_after (suc k) v (b ∷ text) ≡ None
    go true e short = rw e short
    go false e short = rw e

pub nine_bytes : (text : List ℕ) (w : ℕ) → first_line text ≡ Some w → 9 ≤ length text
nine_bytes text w e = line_has 8 0 text w e

-- What a read of the rest of a text gives: the part `&text[at..]` is all that is left.
pub line_of_rest : {r : Option ℕ} (at : ℕ) (text : List ℕ) → r ≡ first_line (take (length text - at) (drop at text)) → r ≡ first_line (drop at text)
line_of_rest at text e = rw (take_all (length text - at) (drop at text) (rw length-drop (omega arith))) at e

pub no_line : (room : ℕ) (text : List ℕ) → length text ≡ 0 → routine_of room text ≡ Ok []
unfolding routine_of
no_line zero [] h = refl
no_line (suc room) [] h = refl
no_line room (b ∷ text) h = absurd (omega arith)

pub line_too_many : (text : List ℕ) → 0 < length text → routine_of 0 text ≡ Err 1
unfolding routine_of
line_too_many [] h = absurd (omega arith)
line_too_many (b ∷ text) h = refl

pub ill_formed_line : (room : ℕ) (text : List ℕ) → 0 < length text → first_line text ≡ None → routine_of room text ≡ Err 1
unfolding routine_of
ill_formed_line zero text h e = line_too_many text h
ill_formed_line (suc room) [] h e = absurd (omega arith)
ill_formed_line (suc room) (b ∷ text) h e = rw e

pub one_line : (room : ℕ) (text : List ℕ) (w : ℕ) → first_line text ≡ Some w → routine_of (suc room) text ≡ then_lines (Some w) (routine_of room (drop 9 text))
unfolding routine_of
one_line room [] w e = clash (cc)
one_line room (b ∷ text) w e = rw e

abbrev bad : ℕ → Result ℕ BadLine
bad n = Err (record { 0 = n })

-- The answer for lines that come after k others.
abbrev pub after_lines : ℕ → Result ℕ BadLine → Result ℕ BadLine
after_lines k (Ok n) = Ok (k + n)
after_lines k (Err b) = bad (k + b.0)

pub after_none : (r : Result ℕ BadLine) → r ≡ after_lines 0 r
after_none (Ok n) = ap Ok (omega arith)
after_none (Err b) = ap bad (omega arith)

pub after_one : (k w : ℕ) (r : Routine) → after_lines k (answer (then_lines (Some w) r)) ≡ after_lines (k + 1) (answer r)
after_one k w (Ok ws) = ap Ok (omega arith)
after_one k w (Err n) = ap bad (omega arith)

-- The words of a routine; a bad text has none.
abbrev pub words_in : Routine → List ℕ
words_in (Ok ws) = ws
words_in (Err n) = []

pub good_text : (r : Routine) (n : ℕ) → answer r ≡ Ok n → (r ≡ Ok (words_in r)) × (length (words_in r) ≡ n)
good_text (Ok ws) n e = (refl, cc)
good_text (Err k) n e = clash (cc)

pub good_main : (r : Routine) (n : ℕ) (main : List ℕ) → answer r ≡ Ok n → main_after r main ≡ words_in r ++ drop n main
good_main (Ok ws) n main e =
    let l : length ws ≡ n = cc in
    rw l
good_main (Err k) n main e = clash (cc)

pub bad_main : (r : Routine) (b : BadLine) (main : List ℕ) → answer r ≡ Err b → main ≡ main_after r main
bad_main (Ok ws) b main e = clash (cc)
bad_main (Err k) b main e = refl

-- One word more in main, after j of them.
pub next_word : (ws main : List ℕ) (j : ℕ) → j < length ws → j < length main
    → set (take j ws ++ drop j main) j (get_or ws j 0) ≡ take (j + 1) ws ++ drop (j + 1) main
next_word ws main j g h =
    rw (add-one, take-suc ws j 0, append_snoc, drop-cons main j 0)
    (set_at (take j ws) (get_or main j 0) (drop (suc j) main) (get_or ws j 0) j (length-take-le j ws (omega arith)))

-- The first of a routine's words is that of the first line, and the others are those of the lines after it.
pub first_word : (room : ℕ) (text ws : List ℕ)
    → routine_of room text ≡ Ok ws
    → 0 < length ws
    → (first_line text ≡ Some (get_or ws 0 0)) × (routine_of (room - 1) (drop 9 text) ≡ Ok (drop 1 ws)) × (0 < room)
unfolding routine_of
first_word room text [] e h = absurd (omega arith)
first_word zero [] (w ∷ ws) e h = clash (cc)
first_word zero (b ∷ text) (w ∷ ws) e h = clash (cc)
first_word (suc room) [] (w ∷ ws) e h = clash (cc)
first_word (suc room) (b ∷ text) (w ∷ ws) e h = go (first_line (b ∷ text)) (routine_of room (drop 9 (b ∷ text))) refl refl e
  where
    go : (l : Option ℕ) (r : Routine)
        → first_line (b ∷ text) ≡ l
        → routine_of room (drop 9 (b ∷ text)) ≡ r
        → then_lines l r ≡ Ok (w ∷ ws)
        → (first_line (b ∷ text) ≡ Some w) × (routine_of (suc room - 1) (drop 9 (b ∷ text)) ≡ Ok (drop 1 (w ∷ ws))) × (0 < suc room)
    go None r f g q = clash (cc)
    go (Some v) (Err n) f g q = clash (cc)
    go (Some v) (Ok vs) f g q =
        let i : Ok vs ≡ Ok ws = cc in
        (cc, rw sub-one (g ∙ i), omega arith)

pub words_fit : (room : ℕ) (text ws : List ℕ) → routine_of room text ≡ Ok ws → length ws ≤ room
words_fit room text [] e = omega arith
words_fit room text (w ∷ ws) e =
    let f = first_word room text (w ∷ ws) e (omega arith) in
    omega (arith, f.2, words_fit (room - 1) (drop 9 text) ws f.1)

-- The words loaded are within main. The two laws are what a part `&main[..n]` asks.
module _ {text main after : List ℕ} {r : Result ℕ BadLine} {n : ℕ} (e : r ≡ Ok n) (loads : Loads text main r after) where
  pub loaded_within : n ≤ length after
  loaded_within =
      let routine = routine_of (length main) text in
      let a : answer routine ≡ Ok n = sym loads.answer_is ∙ e in
      omega (
        arith,
        (good_text routine n a).1,
        ap length (loads.main_is ∙ good_main routine n main a),
        length-append (words_in routine) (drop n main),
      )

  pub loaded_count : n ≡ length (take n after)
  loaded_count = sym (length-take-le n after loaded_within)

-- The first bad line is at most the one after those that main has room for.
bad_within : (room : ℕ) (text : List ℕ) (n : ℕ) → routine_of room text ≡ Err n → n ≤ suc room
unfolding routine_of
bad_within zero [] n e = clash (cc)
bad_within zero (b ∷ text) n e =
    let k : 1 ≡ n = cc in
    omega arith
bad_within (suc room) [] n e = clash (cc)
bad_within (suc room) (b ∷ text) n e =
    go (first_line (b ∷ text)) (routine_of room (drop 9 (b ∷ text))) e (bad_within room (drop 9 (b ∷ text)))
  where
    go : (l : Option ℕ) (r : Routine) → then_lines l r ≡ Err n → ((m : ℕ) → r ≡ Err m → m ≤ suc room) → n ≤ suc (suc room)
    go None r q ih =
        let k : 1 ≡ n = cc in
        omega arith
    go (Some w) (Ok ws) q ih = clash (cc)
    go (Some w) (Err m) q ih =
        let k : suc m ≡ n = cc in
        omega (arith, ih m refl)

pub bad_line_within : {text main after : List ℕ} {r : Result ℕ BadLine} {b : BadLine} → r ≡ Err b → Loads text main r after → b.0 ≤ suc (length main)
bad_line_within {text} {main} {after} {r} {b} e loads = go (routine_of (length main) text) refl
  where
    go : (x : Routine) → routine_of (length main) text ≡ x → b.0 ≤ suc (length main)
    go (Ok ws) q =
        let f : Ok (length ws) ≡ Err b = sym (loads.answer_is ∙ ap answer q) ∙ e in
        clash (cc)
    go (Err m) q =
        let f : bad m ≡ Err b = sym (loads.answer_is ∙ ap answer q) ∙ e in
        let k : m ≡ b.0 = cc in
        omega (arith, bad_within (length main) text m q)
