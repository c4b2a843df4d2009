-- A text is bad at exactly one line: the lines before it are good, and that one is at fault or stands after the end record.
-- Assumes nothing.
use Prim.Native.Nat.{ℕ, zero, suc, ◌<◌}
use mathlib.Core.Path.{◌≡◌, refl, sym, ◌∙◌}
use mathlib.Core.Bool.{Bool, true, false, cond}
use mathlib.Core.List.{List, []}
use native.Mathlib.Omega.{arith}
use lib.Dec.{eqb}
use Rattle.std.specs.Prelude.{Option, Some, None, Ok, Err}
use lib.ListN.{length, drop, length-drop}
use borrow.Author.Tests.{eqb-false}
use Rattle.intel_hex.specs.Lines.{size_of, line_of}
use Rattle.intel_hex.specs.Imported.{named, turn_of, Text, after_line, text_of, verdict}
use Rattle.intel_hex.specs.declared.importing.Turn.{Turn}
use Rattle.intel_hex.specs.declared.importing.Turn.TheVariants.{On, Ended}
use Rattle.intel_hex.proofs.Texts.{on_within, size_some, text_bad, ended_more, text_ended, text_on, not_good}

-- Line n of a text, from 1, is the first bad one, where the 64 KiB at `base` count first.
pub data BadAt (room : ℕ) : ℕ → List ℕ → ℕ → Type 0 where
  at_fault : {base : ℕ} {t : List ℕ} → turn_of room base (line_of t) ≡ None → BadAt room base t 1
  after_end : {base : ℕ} {t : List ℕ} → turn_of room base (line_of t) ≡ Some Ended → (length t ≡ size_of t → ⊥) → BadAt room base t 2
  later : {base b n : ℕ} {t : List ℕ} → turn_of room base (line_of t) ≡ Some (On b) → BadAt room b (drop (size_of t) t) n → BadAt room base t (suc n)

pub bad_at_is_bad : {room base n : ℕ} {t : List ℕ} → BadAt room base t n → text_of room base t ≡ Err n
bad_at_is_bad (at_fault {base = base} {t = t} e) = text_bad _ base t e
bad_at_is_bad (after_end {base = base} {t = t} e g) = ended_more _ base t e g
bad_at_is_bad (later {base = base} {t = t} e l) = text_on _ base t e ∙ rw (bad_at_is_bad l)

same_number : {m n : ℕ} → ◌≡◌ {A = Text} (Err m) (Err n) → m ≡ n
same_number e = cc

-- The first bad line is one line.
pub one_first_bad_line : {room base m n : ℕ} {t : List ℕ} → BadAt room base t m → BadAt room base t n → m ≡ n
one_first_bad_line a b = same_number (sym (bad_at_is_bad a) ∙ bad_at_is_bad b)

found : (k room base : ℕ) (t : List ℕ) (n : ℕ) → length t < k → text_of room base t ≡ Err n → BadAt room base t n
found zero room base t n h e = absurd (omega arith)
found (suc k) room base t n h e = go (turn_of room base (line_of t)) refl (λ b m. found k room b (drop (size_of t) t) m)
  where
    go : (turn : Option Turn) → turn_of room base (line_of t) ≡ turn
        → ((b m : ℕ) → length (drop (size_of t) t) < k → text_of room b (drop (size_of t) t) ≡ Err m → BadAt room b (drop (size_of t) t) m)
        → BadAt room base t n
    go None q more =
        let s : 1 ≡ n = same_number (sym (text_bad room base t q) ∙ e) in
        rw (← s) (at_fault q)
    go (Some Ended) q more = ended (eqb (length (drop (size_of t) t)) 0) refl (sym (text_ended room base t q) ∙ e)
      where
        ended : (b : Bool) → eqb (length (drop (size_of t) t)) 0 ≡ b → ◌≡◌ {A = Text} (cond b (Ok []) (Err 2)) (Err n) → BadAt room base t n
        ended true g f = cc
        ended false g f =
            let s : 2 ≡ n = same_number f in
            let d = length-drop (size_of t) t in
            rw (← s) (after_end q (λ z. eqb-false (length (drop (size_of t) t)) 0 g (omega arith)))
    go (Some (On b)) q more = on (text_of room b (drop (size_of t) t)) refl (sym (text_on room base t q) ∙ e)
      where
        on : (x : Text) → text_of room b (drop (size_of t) t) ≡ x → after_line (named base (line_of t) t) x ≡ Err n → BadAt room base t n
        on (Ok ws) g f = cc
        on (Err m) g f =
            let s : suc m ≡ n = same_number f in
            let w = on_within room base t q in
            let z = size_some t in
            let d = length-drop (size_of t) t in
            rw (← s) (later q (more b m (omega arith) g))

-- A refused text has its first bad line there: the answer is right.
pub bad_is_bad_at : (room base : ℕ) (t : List ℕ) (n : ℕ) → text_of room base t ≡ Err n → BadAt room base t n
bad_is_bad_at room base t n e = found (suc (length t)) room base t n (omega arith) e

-- A good text has no bad line.
pub good_has_none : {room base n : ℕ} {t : List ℕ} → verdict (text_of room base t) ≡ Ok tt → BadAt room base t n → ⊥
good_has_none v b = not_good (bad_at_is_bad b) v

-- A text that is not good has a first bad line.
pub not_good_has_one : (room base : ℕ) (t : List ℕ) → (verdict (text_of room base t) ≡ Ok tt → ⊥) → (n : ℕ) × BadAt room base t n
not_good_has_one room base t g = go (text_of room base t) refl
  where
    go : (x : Text) → text_of room base t ≡ x → (n : ℕ) × BadAt room base t n
    go (Ok words) e = absurd (g (rw e))
    go (Err n) e = (n, bad_is_bad_at room base t n e)
