-- A word is listed as WORD exactly if it always halts or its ignored bits are not zero (`word_exactly`): the definition's branches, one by one. Then the counts.
-- Assumes nothing.
use Prim.Native.Nat.{ℕ, zero, suc, ◌+◌, ◌*◌, ◌^◌}
use mathlib.Core.Path.{◌≡◌, refl}
use mathlib.Core.Bool.{Bool, true, false, not, cond, ◌||◌}
use lib.Dec.{eqb, leb}
use Rattle.report.specs.Parts.{of, always_halts, comparison, write, rsf, dsf, fsf, addr}
use Rattle.language.specs.declared.forms.Form.{Form}
use Rattle.language.specs.declared.forms.Form.TheVariants.{Word, Comparison, Write, Shift, Unary, Binary}
use Rattle.language.specs.Line.{ignoring, function_form, form}

abbrev pub is_word : Form → Bool
is_word Word = true
is_word Comparison = false
is_word Write = false
is_word Shift = false
is_word Unary = false
is_word Binary = false

-- The bits of a word that its instruction ignores.
abbrev pub ignored : ℕ → ℕ
ignored w =
    cond (of comparison w) (dsf w)
    (cond (of write w) (fsf w)
    (cond (eqb (fsf w) 12) (addr w)
    (cond (leb (fsf w) 3) (rsf w) 0)))

unless_zero : (bits : ℕ) (t : Form) → is_word t ≡ false → is_word (ignoring bits t) ≡ not (eqb bits 0)
unless_zero bits t e = go (eqb bits 0) refl
  where
    go : (b : Bool) → eqb bits 0 ≡ b → is_word (ignoring bits t) ≡ not (eqb bits 0)
    go true h = rw h e
    go false h = rw h

branches : (h c w s u : Bool) (d f a r : ℕ)
    → is_word (cond h Word (cond c (ignoring d Comparison) (cond w (ignoring f Write) (cond s (ignoring a Shift) (cond u (ignoring r Unary) Binary)))))
    ≡ (h || not (eqb (cond c d (cond w f (cond s a (cond u r 0)))) 0))
branches true c w s u d f a r = refl
branches false true w s u d f a r = unless_zero d Comparison refl
branches false false true s u d f a r = unless_zero f Write refl
branches false false false true u d f a r = unless_zero a Shift refl
branches false false false false true d f a r = unless_zero r Unary refl
branches false false false false false d f a r = refl

pub word_exactly : (w : ℕ) → is_word (form w) ≡ (of always_halts w || not (eqb (ignored w) 0))
unfolding form function_form
word_exactly w =
    branches (of always_halts w) (of comparison w) (of write w) (eqb (fsf w) 12) (leb (fsf w) 3) (dsf w) (fsf w) (addr w) (rsf w)

-- How many numbers below n pass the test.
abbrev pub counted : (ℕ → Bool) → ℕ → ℕ
counted f zero = 0
counted f (suc n) =
    let rest = counted f n in
    cond (f n) (suc rest) rest

-- Of the 4,096 heads (bits 31-20) 820 are named whatever addr is, and the 48 shifts at addr 0 alone.
pub named_at_1 : counted (λ k. not (is_word (form (k * 2 ^ 20 + 1)))) 4096 ≡ 820
unfolding form function_form
named_at_1 = refl

pub named_at_0 : counted (λ k. not (is_word (form (k * 2 ^ 20)))) 4096 ≡ 868
unfolding form function_form
named_at_0 = refl
