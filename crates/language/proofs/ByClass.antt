-- The form of a word, by its class: what the class table says is what the tests of the definition say, by one computation each over the 1,024 classes.
-- Assumes nothing.
use Prim.Native.Nat.{ℕ, ◌≤◌}
use mathlib.Core.Path.{◌≡◌, refl, ap, sym, ◌∙◌}
use mathlib.Core.Bool.{Bool, true, false, cond, ◌&&◌}
use lib.Dec.{eqb, leb}
use native.Mathlib.Omega.{arith}
use borrow.Author.Tests.{eq-eqb, ne_eqb, le-leb, lt-leb}
use Rattle.report.specs.Parts as parts
use Rattle.report.specs.Parts.{of, always_halts, comparison, write}
use Rattle.report.proofs.Finite.{over}
use Rattle.instruction.specs.declared.Fields.{Fields}
use Rattle.instruction.specs.Fields.{Fielded, fields_of}
use Rattle.instruction.specs.Classes.{class_by, class_of_word}
use Rattle.instruction.proofs.FieldsOf.{fields_are}
use Rattle.language.specs.declared.forms.Form.{Form}
use Rattle.language.specs.declared.forms.Form.TheVariants.{Word, Comparison, Write}
use Rattle.language.specs.Line.{ignoring, function_form, form}

-- ---- the tests

-- Class 1 is that of the words that always halt.
pub halts_class : (w : ℕ) → of always_halts w ≡ eqb (class_of_word w) 1
unfolding class_by
halts_class w = over always_halts (λ m d c f. eqb (class_by m d c f) 1) tt w

pub comparison_class : (w : ℕ) → of comparison w ≡ eqb (class_of_word w) 0
unfolding class_by
comparison_class w = over comparison (λ m d c f. eqb (class_by m d c f) 0) tt w

write_test : (w : ℕ) → (leb 2 (class_of_word w) && of write w) ≡ (leb 2 (class_of_word w) && leb (class_of_word w) 3)
unfolding class_by
write_test w =
    over (λ m d c f. leb 2 (class_by m d c f) && write m d c f) (λ m d c f. leb 2 (class_by m d c f) && leb (class_by m d c f) 3) tt w

pub write_class : (w : ℕ) → 2 ≤ class_of_word w → of write w ≡ leb (class_of_word w) 3
write_class w h = rw (le-leb 2 (class_of_word w) h) at (write_test w)

-- ---- the form by the class

-- The first of the tests that holds decides.
abbrev chosen : Bool → Bool → Bool → Form → Form → Form → Form
chosen halting comparing writing c w r = cond halting Word (cond comparing c (cond writing w r))

choice : {a b c d e f : Bool} → a ≡ d → b ≡ e → c ≡ f → (x y z : Form) → chosen a b c x y z ≡ chosen d e f x y z
choice p q r x y z = rw (p, q, r)

by_class : (w : ℕ) (d e f : Bool)
    → of always_halts w ≡ d
    → of comparison w ≡ e
    → of write w ≡ f
    → form w ≡ chosen d e f (ignoring (parts.dsf w) Comparison) (ignoring (parts.fsf w) Write) (function_form (fields_of w))
unfolding form
by_class w d e f p q r =
    choice p q r (ignoring (parts.dsf w) Comparison) (ignoring (parts.fsf w) Write) (function_form (fields_of w))

module _ (w : ℕ) where
  pub comparison_form : class_of_word w ≡ 0 → form w ≡ ignoring (parts.dsf w) Comparison
  comparison_form e =
      by_class w false true (of write w)
      (halts_class w ∙ ne_eqb (class_of_word w) 1 (λ i. omega arith))
      (comparison_class w ∙ eq-eqb (class_of_word w) 0 e)
      refl

  pub word_form : class_of_word w ≡ 1 → form w ≡ Word
  word_form e = by_class w true (of comparison w) (of write w) (halts_class w ∙ eq-eqb (class_of_word w) 1 e) refl refl

  module _ (some : 2 ≤ class_of_word w) where
    no_halt : of always_halts w ≡ false
    no_halt = halts_class w ∙ ne_eqb (class_of_word w) 1 (λ i. omega arith)

    no_comparison : of comparison w ≡ false
    no_comparison = comparison_class w ∙ ne_eqb (class_of_word w) 0 (λ i. omega arith)

    pub write_form : class_of_word w ≤ 3 → form w ≡ ignoring (parts.fsf w) Write
    write_form l = by_class w false false true no_halt no_comparison (write_class w some ∙ le-leb (class_of_word w) 3 l)

    pub result_form : 4 ≤ class_of_word w → form w ≡ function_form (fields_of w)
    result_form g = by_class w false false false no_halt no_comparison (write_class w some ∙ lt-leb (class_of_word w) 3 g)

-- The same, by the fields that the code takes out of the word.
pub taken_form : {w : ℕ} {f : Fields} → Fielded w f → 4 ≤ class_of_word w → function_form f ≡ form w
taken_form {w} q g = ap function_form (fields_are q) ∙ sym (result_form w (omega arith) g)
