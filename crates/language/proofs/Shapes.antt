-- What the form of a word says of its fields: which kind of instruction it is, and that the bits which the form leaves out are zero.
-- Assumes nothing.
use Prim.Native.Nat.{ℕ, ◌≤◌}
use mathlib.Core.Path.{◌≡◌, refl, sym, subst, ◌∙◌}
use mathlib.Core.Bool.{Bool, true, false, ◌&&◌}
use native.Mathlib.Omega.{arith}
use lib.Dec.{eqb, leb}
use borrow.Author.Tests.{eqb-true, eqb-false, leb-true, leb-false, le-leb}
use Rattle.std.proofs.lemmas.Bool.{and_parts}
use Rattle.report.specs.Parts.{rsf, dsf, csf, fsf, addr}
use Rattle.report.proofs.Bits.{by_le}
use Rattle.report.proofs.Finite.{over}
use Rattle.instruction.specs.Fields.{fields_of}
use Rattle.instruction.specs.Classes.{class_by, class_of_word}
use Rattle.language.specs.declared.forms.Form.{Form}
use Rattle.language.specs.declared.forms.Form.TheVariants.{Word, Comparison, Write, Shift, Unary, Binary}
use Rattle.language.specs.Line.{ignoring, function_form, form}
use Rattle.language.proofs.ByClass.{comparison_class, comparison_form, word_form, write_form, result_form}

-- A comparison; a write; a function with its result for A, X, Y or P: a shift, one of M, one of R and M.
abbrev pub Told : Form → ℕ → Type 0
Told Word w = Unit {0}
Told Comparison w = (csf w ≡ 1) × (dsf w ≡ 0)
Told Write w = (csf w ≡ 0) × (6 ≤ dsf w) × (fsf w ≡ 0)
Told Shift w = (csf w ≡ 0) × (dsf w ≤ 5) × (fsf w ≡ 12) × (addr w ≡ 0)
Told Unary w = (csf w ≡ 0) × (dsf w ≤ 5) × (fsf w ≤ 3) × (rsf w ≡ 0)
Told Binary w = (csf w ≡ 0) × (dsf w ≤ 5) × (4 ≤ fsf w) × (fsf w ≤ 11)

-- ---- what a class says of the fields

plain_test : (w : ℕ) → (leb 2 (class_of_word w) && eqb (csf w) 0) ≡ leb 2 (class_of_word w)
unfolding class_by
plain_test w = over (λ m d c f. leb 2 (class_by m d c f) && eqb c 0) (λ m d c f. leb 2 (class_by m d c f)) tt w

write_test : (w : ℕ) → (leb 2 (class_of_word w) && leb 6 (dsf w)) ≡ (leb 2 (class_of_word w) && leb (class_of_word w) 3)
unfolding class_by
write_test w =
    over (λ m d c f. leb 2 (class_by m d c f) && leb 6 d) (λ m d c f. leb 2 (class_by m d c f) && leb (class_by m d c f) 3) tt w

result_test : (w : ℕ) → (leb 4 (class_of_word w) && (leb (dsf w) 5 && leb (fsf w) 12)) ≡ leb 4 (class_of_word w)
unfolding class_by
result_test w =
    over (λ m d c f. leb 4 (class_by m d c f) && (leb d 5 && leb f 12)) (λ m d c f. leb 4 (class_by m d c f)) tt w

plain : (w : ℕ) → 2 ≤ class_of_word w → csf w ≡ 0
plain w h = eqb-true (csf w) 0 (rw (le-leb 2 (class_of_word w) h) at (plain_test w))

writing : (w : ℕ) → 2 ≤ class_of_word w → class_of_word w ≤ 3 → 6 ≤ dsf w
writing w h l = leb-true 6 (dsf w) (rw (le-leb 2 (class_of_word w) h, le-leb (class_of_word w) 3 l) at (write_test w))

result : (w : ℕ) → 4 ≤ class_of_word w → (dsf w ≤ 5) × (fsf w ≤ 12)
result w h =
    let t : (leb (dsf w) 5 && leb (fsf w) 12) ≡ true = rw (le-leb 4 (class_of_word w) h) at (result_test w) in
    let p = and_parts (leb (dsf w) 5) (leb (fsf w) 12) t in
    (leb-true (dsf w) 5 p.0, leb-true (fsf w) 12 p.1)

-- ---- the law

told_ignoring : (w bits : ℕ) (t : Form) → (bits ≡ 0 → Told t w) → Told (ignoring bits t) w
told_ignoring w bits t h = go (eqb bits 0) refl
  where
    go : (b : Bool) → eqb bits 0 ≡ b → Told (ignoring bits t) w
    go true e = rw e (h (eqb-true bits 0 e))
    go false e = rw e tt

told_function : (w : ℕ) → csf w ≡ 0 → dsf w ≤ 5 → fsf w ≤ 12 → Told (function_form (fields_of w)) w
unfolding function_form
told_function w c d l = go (eqb (fsf w) 12) refl
  where
    few : (fsf w ≡ 12 → ⊥) → (b : Bool) → leb (fsf w) 3 ≡ b → eqb (fsf w) 12 ≡ false → Told (function_form (fields_of w)) w
    few n true e g = rw (g, e) (told_ignoring w (rsf w) Unary (λ z. (c, d, leb-true (fsf w) 3 e, z)))
    few n false e g =
        let more = leb-false (fsf w) 3 e in
        rw (g, e) (c, d, omega arith, omega arith)

    go : (b : Bool) → eqb (fsf w) 12 ≡ b → Told (function_form (fields_of w)) w
    go true e = rw e (told_ignoring w (addr w) Shift (λ z. (c, d, eqb-true (fsf w) 12 e, z)))
    go false e = few (eqb-false (fsf w) 12 e) (leb (fsf w) 3) refl e

pub told : (w : ℕ) → Told (form w) w
told w =
    by_le (class_of_word w) 1
    (λ h. by_le (class_of_word w) 0 (λ g. zero (omega arith)) (λ g. one (omega arith)))
    (λ h. by_le (class_of_word w) 3 (λ g. some h g) (λ g. many h g))
  where
    zero : class_of_word w ≡ 0 → Told (form w) w
    zero e =
        subst (λ t. Told t w) (sym (comparison_form w e))
        (told_ignoring w (dsf w) Comparison (λ z. (eqb-true (csf w) 1 (comparison_class w ∙ rw e), z)))

    one : class_of_word w ≡ 1 → Told (form w) w
    one e = subst (λ t. Told t w) (sym (word_form w e)) tt

    some : 2 ≤ class_of_word w → class_of_word w ≤ 3 → Told (form w) w
    some h g =
        subst (λ t. Told t w) (sym (write_form w h g))
        (told_ignoring w (fsf w) Write (λ z. (plain w h, writing w h g, z)))

    many : 2 ≤ class_of_word w → 4 ≤ class_of_word w → Told (form w) w
    many h g =
        let r = result w g in
        subst (λ t. Told t w) (sym (result_form w h g)) (told_function w (plain w h) r.0 r.1)
