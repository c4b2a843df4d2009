-- What the names of a line say of a step (`names_say`): the first name is that of the word's class, and the part of document 01's order that the
-- step comes to is the one of that class. So what is named CMP is compared, MEM and IO write, and so on for each of the ten classes.
-- Assumes nothing.
use Prim.Native.Nat.{ℕ, zero, suc, ◌<◌}
use mathlib.Core.Path.{◌≡◌, refl, ap, sym, subst, ◌∙◌}
use mathlib.Core.Bool.{Bool, true, false, not, cond, ◌&&◌, ◌||◌}
use mathlib.Core.List.{List, [], ◌∷◌}
use native.Mathlib.Omega.{arith}
use lib.Dec.{eqb, ltb}
use lib.ListN.{get_or}
use borrow.Author.Tests.{eqb-true, ltb-true}
use Rattle.report.specs.Parts.{Part, halts, compares, writes, skips, computes, part_by, msf, dsf, csf, fsf, of, top, bad, always_halts, comparison, write, shift, skip}
use Rattle.report.proofs.Finite.{over}
use Rattle.instruction.specs.Fields.{fields_of}
use Rattle.instruction.specs.Classes.{class_by, class_of_word}
use Rattle.instruction.proofs.Decision.{decided, decided_is}
use Rattle.text.specs.Text.{text}
use Rattle.language.specs.declared.forms.Form.{Form}
use Rattle.language.specs.declared.forms.Form.TheVariants.{Word, Comparison, Write, Shift, Unary, Binary}
use Rattle.language.specs.Names.{split, class_name, destination_name, function_name, shift_name, comparison_name}
use Rattle.language.specs.Line.{fields_by, fields, form}
use Rattle.language.proofs.ByClass.{comparison_class}
use Rattle.language.proofs.Shapes.{Told, told}
use Rattle.language.proofs.Exactly.{is_word, ignored, word_exactly}
use Rattle.language.proofs.Unique.{one_number, one_function, one_shift, one_comparison, key}

-- ---- the first name

-- The class of a write or of a result, by dsf: those of A, X, Y, P, PB, PN, IO, MEM.
abbrev class_to : ℕ → ℕ
class_to d = get_or (4 ∷ 5 ∷ 6 ∷ 7 ∷ 8 ∷ 9 ∷ 3 ∷ 2 ∷ []) d 0

-- Whether it always halts, or the class is the one of its destination.
class_test : (w : ℕ) → (of always_halts w || (eqb (csf w) 1 || eqb (class_of_word w) (class_to (dsf w)))) ≡ true
unfolding class_by
class_test w = over (λ m d c f. always_halts m d c f || (eqb c 1 || eqb (class_by m d c f) (class_to d))) (λ m d c f. true) tt w

left_over : {a b c : Bool} → (a || (b || c)) ≡ true → a ≡ false → b ≡ false → c ≡ true
left_over h p q = rw (p, q) at h

destination_class : (w : ℕ) → of always_halts w ≡ false → csf w ≡ 0 → class_of_word w ≡ class_to (dsf w)
destination_class w h c =
    eqb-true (class_of_word w) (class_to (dsf w)) (left_over (class_test w) h (ap (λ (t : ℕ). eqb t 1) c))

same_name : (d : ℕ) → d < 8 → destination_name d ≡ class_name (class_to d)
unfolding destination_name class_name split
same_name zero h = refl
same_name (suc zero) h = refl
same_name (suc (suc zero)) h = refl
same_name (suc (suc (suc zero))) h = refl
same_name (suc (suc (suc (suc zero)))) h = refl
same_name (suc (suc (suc (suc (suc zero))))) h = refl
same_name (suc (suc (suc (suc (suc (suc zero)))))) h = refl
same_name (suc (suc (suc (suc (suc (suc (suc zero))))))) h = refl
same_name (suc (suc (suc (suc (suc (suc (suc (suc d)))))))) h = absurd (omega arith)

comparison_named : (w : ℕ) → csf w ≡ 1 → text "CMP" ≡ class_name (class_of_word w)
unfolding class_name split
comparison_named w c = ap class_name (sym (eqb-true (class_of_word w) 0 (sym (comparison_class w) ∙ ap (λ (t : ℕ). eqb t 1) c)))

abbrev first : List (List ℕ) → List ℕ
first ts = get_or ts 0 []

named_by_form : (w : ℕ) (t : Form) → Told t w → is_word t ≡ false → of always_halts w ≡ false
    → first (fields_by t w (fields_of w)) ≡ class_name (class_of_word w)
unfolding fields_by
named_by_form w Word i n h = cc
named_by_form w Comparison i n h = comparison_named w i.0
named_by_form w Write i n h = same_name (dsf w) (omega arith) ∙ ap class_name (sym (destination_class w h i.0))
named_by_form w Shift i n h = same_name (dsf w) (omega arith) ∙ ap class_name (sym (destination_class w h i.0))
named_by_form w Unary i n h = same_name (dsf w) (omega arith) ∙ ap class_name (sym (destination_class w h i.0))
named_by_form w Binary i n h = same_name (dsf w) (omega arith) ∙ ap class_name (sym (destination_class w h i.0))

-- A word that is not listed as WORD does not always halt.
named_goes_on : (w : ℕ) → is_word (form w) ≡ false → of always_halts w ≡ false
named_goes_on w n = left (of always_halts w) (not (eqb (ignored w) 0)) (sym (word_exactly w) ∙ n)
  where
    left : (a b : Bool) → (a || b) ≡ false → a ≡ false
    left true b e = e
    left false b e = refl

-- The first name of a named word is that of its class.
pub named_by_class : (w : ℕ) → is_word (form w) ≡ false → first (fields w) ≡ class_name (class_of_word w)
named_by_class w n = named_by_form w (form w) (told w) n (named_goes_on w n)

-- ---- the part of the order

-- The part that a class stands for, where P is not at the top and the address is not bad. PB is skipped while B is clear, PN while it is set.
abbrev pub part_named : Bool → ℕ → Part
part_named b k =
    get_or (compares ∷ halts ∷ writes ∷ writes ∷ computes ∷ computes ∷ computes ∷ computes ∷ cond b computes skips ∷ cond b skips computes ∷ []) k halts

ten : (w : ℕ) → class_of_word w < 10
unfolding class_by
ten w = ltb-true (class_of_word w) 10 (over (λ m d c f. ltb (class_by m d c f) 10) (λ m d c f. true) tt w)

part_of : (k : ℕ) (twelve b : Bool) → k < 10 → decided k twelve false false b ≡ part_named b k
unfolding decided
part_of zero t b h = refl
part_of (suc zero) t b h = refl
part_of (suc (suc zero)) t b h = refl
part_of (suc (suc (suc zero))) t b h = refl
part_of (suc (suc (suc (suc zero)))) t b h = refl
part_of (suc (suc (suc (suc (suc zero))))) t b h = refl
part_of (suc (suc (suc (suc (suc (suc zero)))))) t b h = refl
part_of (suc (suc (suc (suc (suc (suc (suc zero))))))) t b h = refl
part_of (suc (suc (suc (suc (suc (suc (suc (suc zero)))))))) t true h = refl
part_of (suc (suc (suc (suc (suc (suc (suc (suc zero)))))))) t false h = refl
part_of (suc (suc (suc (suc (suc (suc (suc (suc (suc zero))))))))) t true h = refl
part_of (suc (suc (suc (suc (suc (suc (suc (suc (suc zero))))))))) t false h = refl
part_of (suc (suc (suc (suc (suc (suc (suc (suc (suc (suc k)))))))))) t b h = absurd (omega arith)

class_part : (w p at : ℕ) (b : Bool) → top p ≡ false → bad at ≡ false → part_by w p at b false ≡ part_named b (class_of_word w)
class_part w p at b low near =
    decided_is w p at b
    ∙ (ap (λ (h : Bool). decided (class_of_word w) (eqb (fsf w) 12) h (bad at) b) low
    ∙ (ap (λ (h : Bool). decided (class_of_word w) (eqb (fsf w) 12) false h b) near
    ∙ part_of (class_of_word w) (eqb (fsf w) 12) b (ten w)))

-- ---- the laws

one_class : (j k : ℕ) → j < 10 → k < 10 → class_name j ≡ class_name k → j ≡ k
unfolding class_name split key
one_class j k g h q = one_number class_name 10 tt j k g h q

-- The class k is the word's, and a step of it comes to the part of that class.
pub record Says (w k : ℕ) : Type 0 where
  pub class : class_of_word w ≡ k
  pub part : (p at : ℕ) (b : Bool) → top p ≡ false → bad at ≡ false → part_by w p at b false ≡ part_named b k

-- A named word whose first name is that of class k.
pub names_say : (w k : ℕ) → k < 10 → is_word (form w) ≡ false → first (fields w) ≡ class_name k → Says w k
names_say w k h n e =
    let q : class_of_word w ≡ k = one_class (class_of_word w) k (ten w) h (sym (named_by_class w n) ∙ e) in
    record { class = q; part = λ p at b low near. class_part w p at b low near ∙ ap (part_named b) q }

-- What is named WORD for its class halts at every P, address and B.
pub word_halts : (w p at : ℕ) (b : Bool) → of always_halts w ≡ true → part_by w p at b false ≡ halts
unfolding part_by
word_halts w p at b h =
    halting (top p) (bad at && (not (of shift w) && not (of (skip b) w))) (of always_halts w)
    (cond (of comparison w) compares (cond (of write w) writes (cond (of (skip b) w) skips computes))) h
  where
    halting : (a c d : Bool) (otherwise : Part) → d ≡ true → cond (a || (c || d)) halts otherwise ≡ halts
    halting true c d otherwise e = refl
    halting false true d otherwise e = refl
    halting false false d otherwise e = rw e

-- ---- the second name: the function

-- A comparison's name, a shift's and a function's each tell their number; so IN is read from a port, CALL also leaves N in Y, and so on, as the
-- functions of `computed` and `placed` (report/specs/Parts) go by that number.
abbrev second : List (List ℕ) → List ℕ
second ts = get_or ts 1 []

pub comparison_says : (w f : ℕ) → f < 16 → form w ≡ Comparison → second (fields w) ≡ comparison_name f → fsf w ≡ f
unfolding fields_by
comparison_says w f h t e = one_comparison (fsf w) f (omega arith) h (rw t at e)

pub shift_says : (w m : ℕ) → m < 4 → form w ≡ Shift → second (fields w) ≡ shift_name m → msf w ≡ m
unfolding fields_by
shift_says w m h t e = one_shift (msf w) m (omega arith) h (rw t at e)

pub unary_says : (w f : ℕ) → f < 12 → form w ≡ Unary → second (fields w) ≡ function_name f → fsf w ≡ f
unfolding fields_by
unary_says w f h t e =
    let i : Told Unary w = subst (λ (u : Form). Told u w) t (told w) in
    one_function (fsf w) f (omega (arith, i.2)) h (rw t at e)

pub binary_says : (w f : ℕ) → f < 12 → form w ≡ Binary → second (fields w) ≡ function_name f → fsf w ≡ f
unfolding fields_by
binary_says w f h t e =
    let i : Told Binary w = subst (λ (u : Form). Told u w) t (told w) in
    one_function (fsf w) f (omega (arith, i.3)) h (rw t at e)
