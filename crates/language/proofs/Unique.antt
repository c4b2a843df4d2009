-- No two words have the same line at one address (`one_word`): the fields of a line tell its form, each name its number, and the digits the rest.
-- Assumes nothing.
use Prim.Native.Nat.{ℕ, zero, suc, ◌+◌, ◌*◌, ◌/◌, ◌^◌, ◌<◌}
use mathlib.Core.Path.{◌≡◌, refl, ap, sym, subst, ◌∙◌}
use mathlib.Core.Bool.{Bool, true, false, not, cond, ◌||◌, beq}
use mathlib.Core.List.{List, [], ◌∷◌}
use native.Mathlib.Omega.{arith}
use lib.Dec.{T, eqb, leb, eqb→eq}
use lib.ListN.{length, get_or, take, drop}
use borrow.Author.Tests.{eq-eqb, le-leb, lt-leb}
use Rattle.report.specs.Parts as parts
use Rattle.report.proofs.Finite.{all, below, same}
use Rattle.instruction.specs.Fields.{fields_of}
use Rattle.text.specs.Text.{text}
use Rattle.text.specs.Digits.{hex, number}
use Rattle.text.proofs.ReadBack.{number_again, same_digits}
use Rattle.language.specs.declared.forms.Form.{Form}
use Rattle.language.specs.declared.forms.Form.TheVariants.{Word, Comparison, Write, Shift, Unary, Binary}
use Rattle.language.specs.Names.{split, destination_name, function_name, shift_name, comparison_name, register_name}
use Rattle.language.specs.Line.{operand, fields_by, fields, form, line}
use Rattle.language.proofs.Shapes.{Told, told}
use Rattle.language.proofs.Fields.{same_fields}

-- ---- names

-- A text as one number.
unfoldable pub key : List ℕ → ℕ
key [] = 1
key (b ∷ t) = b + 256 * key t

-- Names of one kind that are the same are of the same number: computed over all pairs.
pub one_number : (t : ℕ → List ℕ) (n : ℕ)
    → T (all (λ d. all (λ e. not (eqb (key (t d)) (key (t e))) || eqb d e) n) n)
    → (d e : ℕ)
    → d < n
    → e < n
    → t d ≡ t e
    → d ≡ e
one_number t n p d e g h q =
    let f : T (not (eqb (key (t d)) (key (t e))) || eqb d e)
    = below (λ e. not (eqb (key (t d)) (key (t e))) || eqb d e) n
    (below (λ d. all (λ e. not (eqb (key (t d)) (key (t e))) || eqb d e) n) n p d g) e h
    in
    let k : eqb (key (t d)) (key (t e)) ≡ true = eq-eqb (key (t d)) (key (t e)) (ap key q) in
    eqb→eq d e (rw k at f)

one_destination : (d e : ℕ) → d < 8 → e < 8 → destination_name d ≡ destination_name e → d ≡ e
unfolding destination_name split key
one_destination d e g h q = one_number destination_name 8 tt d e g h q

pub one_function : (d e : ℕ) → d < 12 → e < 12 → function_name d ≡ function_name e → d ≡ e
unfolding function_name split key
one_function d e g h q = one_number function_name 12 tt d e g h q

pub one_shift : (d e : ℕ) → d < 4 → e < 4 → shift_name d ≡ shift_name e → d ≡ e
unfolding shift_name split key
one_shift d e g h q = one_number shift_name 4 tt d e g h q

pub one_comparison : (d e : ℕ) → d < 16 → e < 16 → comparison_name d ≡ comparison_name e → d ≡ e
unfolding comparison_name split key
one_comparison d e g h q = one_number comparison_name 16 tt d e g h q

one_register : (d e : ℕ) → d < 4 → e < 4 → register_name d ≡ register_name e → d ≡ e
unfolding register_name split key
one_register d e g h q = one_number register_name 4 tt d e g h q

-- ---- operands

kind : List ℕ → ℕ
kind t = cond (eqb (length t) 6) 0 (cond (eqb (length t) 5) 1 (cond (eqb (get_or t 6 0) 88) 2 3))

value : List ℕ → ℕ
value t = number 0 (cond (eqb (length t) 6) (drop 1 t) (take 5 t))

kind_again : (m a : ℕ) → m < 4 → kind (operand m a) ≡ m
unfolding kind operand hex
kind_again zero a h = refl
kind_again (suc zero) a h = refl
kind_again (suc (suc zero)) a h = refl
kind_again (suc (suc (suc zero))) a h = refl
kind_again (suc (suc (suc (suc m)))) a h = absurd (omega arith)

value_again : (m a : ℕ) → m < 4 → a < 2 ^ 20 → value (operand m a) ≡ a
unfolding value operand hex
value_again zero a h g = number_again 5 a g
value_again (suc zero) a h g = number_again 5 a g
value_again (suc (suc zero)) a h g = number_again 5 a g
value_again (suc (suc (suc zero))) a h g = number_again 5 a g
value_again (suc (suc (suc (suc m)))) a h g = absurd (omega arith)

one_operand : (v w : ℕ)
    → operand (parts.msf v) (parts.addr v) ≡ operand (parts.msf w) (parts.addr w)
    → (parts.msf v ≡ parts.msf w) × (parts.addr v ≡ parts.addr w)
one_operand v w e = (
  sym (kind_again (parts.msf v) (parts.addr v) (omega arith)) ∙ (ap kind e ∙ kind_again (parts.msf w) (parts.addr w) (omega arith)),
  sym (value_again (parts.msf v) (parts.addr v) (omega arith) (omega arith))
      ∙ (ap value e ∙ value_again (parts.msf w) (parts.addr w) (omega arith) (omega arith)),
)

-- ---- the form

abbrev is : List ℕ → List ℕ → Bool
is t s = eqb (key t) (key s)

abbrev writes : List ℕ → Bool
writes t = is t (text "IO") || is t (text "MEM")

abbrev shifts : List ℕ → Bool
shifts t = is t (text "ASR") || (is t (text "ROR") || (is t (text "SHLS") || is t (text "ROL")))

-- The number of the form that has such fields.
tag : List (List ℕ) → ℕ
tag [] = 0
tag (a ∷ []) = 0
tag (a ∷ b ∷ []) = 0
tag (a ∷ b ∷ c ∷ []) = cond (writes a) 2 (cond (shifts b) 3 4)
tag (a ∷ b ∷ c ∷ d ∷ ts) = cond (is a (text "CMP")) 1 5

form_at : ℕ → Form
form_at n =
    cond (eqb n 0) Word (cond (eqb n 1) Comparison (cond (eqb n 2) Write (cond (eqb n 3) Shift (cond (eqb n 4) Unary Binary))))

agree : (f g : ℕ → Bool) (n : ℕ) → T (all (λ k. beq (f k) (g k)) n) → (k : ℕ) → k < n → f k ≡ g k
agree f g n e k h = same (f k) (g k) (below (λ k. beq (f k) (g k)) n e k h)

write_names : (d : ℕ) → d < 8 → writes (destination_name d) ≡ leb 6 d
unfolding destination_name split key
write_names d h = agree (λ d. writes (destination_name d)) (λ d. leb 6 d) 8 tt d h

shift_names : (m : ℕ) → m < 4 → shifts (shift_name m) ≡ true
unfolding shift_name split key
shift_names m h = agree (λ m. shifts (shift_name m)) (λ m. true) 4 tt m h

function_names : (f : ℕ) → f < 16 → shifts (function_name f) ≡ false
unfolding function_name split key
function_names f h = agree (λ f. shifts (function_name f)) (λ f. false) 16 tt f h

result_names : (d : ℕ) → d < 8 → is (destination_name d) (text "CMP") ≡ false
unfolding destination_name split key
result_names d h = agree (λ d. is (destination_name d) (text "CMP")) (λ d. false) 8 tt d h

form_again : (w : ℕ) (t : Form) → Told t w → form_at (tag (fields_by t w (fields_of w))) ≡ t
unfolding fields_by tag form_at key
form_again w Word e = refl
form_again w Comparison e = refl
form_again w Write e = rw (write_names (parts.dsf w) (omega arith), le-leb 6 (parts.dsf w) e.1)
form_again w Shift e =
    rw (write_names (parts.dsf w) (omega arith), lt-leb 6 (parts.dsf w) (omega (arith, e.1)), shift_names (parts.msf w) (omega arith))
form_again w Unary e =
    rw (write_names (parts.dsf w) (omega arith), lt-leb 6 (parts.dsf w) (omega (arith, e.1)), function_names (parts.fsf w) (omega arith))
form_again w Binary e = rw (result_names (parts.dsf w) (omega arith))

same_form : (v w : ℕ) → fields v ≡ fields w → form v ≡ form w
same_form v w e =
    sym (form_again v (form v) (told v)) ∙ (ap (λ ts. form_at (tag ts)) e ∙ form_again w (form w) (told w))

-- ---- the word

abbrev build : ℕ → ℕ → ℕ → ℕ → ℕ → ℕ → ℕ
build r m d c f a = 1073741824 * r + (268435456 * m + (33554432 * d + (16777216 * c + (1048576 * f + a))))

-- Each field is what the quotient above it leaves.
summed : {w u x y z t r : ℕ} (m d c f a : ℕ)
    → w ≡ 1048576 * u + a
    → u ≡ 16 * x + f
    → x ≡ 2 * y + c
    → y ≡ 8 * z + d
    → z ≡ 4 * t + m
    → r ≡ t
    → w ≡ build r m d c f a
summed m d c f a p q r s t u = omega arith

rebuilt : (w : ℕ) → w < 2 ^ 32 → w ≡ build (parts.rsf w) (parts.msf w) (parts.dsf w) (parts.csf w) (parts.fsf w) (parts.addr w)
rebuilt w h =
    let p : w ≡ 1048576 * (w / 1048576) + parts.addr w = omega arith in
    let q : w / 1048576 ≡ 16 * (w / 16777216) + parts.fsf w = omega arith in
    let r : w / 16777216 ≡ 2 * (w / 33554432) + parts.csf w = omega arith in
    let s : w / 33554432 ≡ 8 * (w / 268435456) + parts.dsf w = omega arith in
    let t : w / 268435456 ≡ 4 * (w / 1073741824) + parts.msf w = omega arith in
    let u : parts.rsf w ≡ w / 1073741824 = omega arith in
    summed (parts.msf w) (parts.dsf w) (parts.csf w) (parts.fsf w) (parts.addr w) p q r s t u

same_build : {r m d c f a i j k l n o : ℕ} → r ≡ i → m ≡ j → d ≡ k → c ≡ l → f ≡ n → a ≡ o → build r m d c f a ≡ build i j k l n o
same_build p q r s t u = rw (p, q, r, s, t, u)

two_heads : {a b d e : List ℕ} → ◌≡◌ {A = List (List ℕ)} (a ∷ b ∷ []) (d ∷ e ∷ []) → (a ≡ d) × (b ≡ e)
two_heads q = (cc, cc)

three_heads : {a b c d e f : List ℕ} → ◌≡◌ {A = List (List ℕ)} (a ∷ b ∷ c ∷ []) (d ∷ e ∷ f ∷ []) → (a ≡ d) × (b ≡ e) × (c ≡ f)
three_heads q = (cc, cc, cc)

four_heads : {a b c x d e f y : List ℕ}
    → ◌≡◌ {A = List (List ℕ)} (a ∷ b ∷ c ∷ x ∷ []) (d ∷ e ∷ f ∷ y ∷ [])
    → (a ≡ d) × (b ≡ e) × (c ≡ f) × (x ≡ y)
four_heads q = (cc, cc, cc, cc)

module _ (v w : ℕ) (g : v < 2 ^ 32) (h : w < 2 ^ 32) where
  built : parts.rsf v ≡ parts.rsf w
      → parts.msf v ≡ parts.msf w
      → parts.dsf v ≡ parts.dsf w
      → parts.csf v ≡ parts.csf w
      → parts.fsf v ≡ parts.fsf w
      → parts.addr v ≡ parts.addr w
      → v ≡ w
  built p q r s t u = rebuilt v g ∙ (same_build p q r s t u ∙ sym (rebuilt w h))

  by_form : (t : Form) → Told t v → Told t w → fields_by t v (fields_of v) ≡ fields_by t w (fields_of w) → v ≡ w
  unfolding fields_by
  by_form Word i j e = same_digits 8 v w g h (two_heads e).1
  by_form Comparison i j e =
      let p = four_heads e in
      let o = one_operand v w p.3 in
      built (one_register (parts.rsf v) (parts.rsf w) (omega arith) (omega arith) p.2) o.0 (i.1 ∙ sym j.1) (i.0 ∙ sym j.0)
      (one_comparison (parts.fsf v) (parts.fsf w) (omega arith) (omega arith) p.1) o.1
  by_form Write i j e =
      let p = three_heads e in
      let o = one_operand v w p.2 in
      built (one_register (parts.rsf v) (parts.rsf w) (omega arith) (omega arith) p.1) o.0
      (one_destination (parts.dsf v) (parts.dsf w) (omega arith) (omega arith) p.0) (i.0 ∙ sym j.0) (i.2 ∙ sym j.2) o.1
  by_form Shift i j e =
      let p = three_heads e in
      built (one_register (parts.rsf v) (parts.rsf w) (omega arith) (omega arith) p.2)
      (one_shift (parts.msf v) (parts.msf w) (omega arith) (omega arith) p.1)
      (one_destination (parts.dsf v) (parts.dsf w) (omega arith) (omega arith) p.0) (i.0 ∙ sym j.0) (i.2 ∙ sym j.2) (i.3 ∙ sym j.3)
  by_form Unary i j e =
      let p = three_heads e in
      let o = one_operand v w p.2 in
      built (i.3 ∙ sym j.3) o.0
      (one_destination (parts.dsf v) (parts.dsf w) (omega arith) (omega arith) p.0) (i.0 ∙ sym j.0)
      (one_function (parts.fsf v) (parts.fsf w) (omega (arith, i.2)) (omega (arith, j.2)) p.1) o.1
  by_form Binary i j e =
      let p = four_heads e in
      let o = one_operand v w p.3 in
      built (one_register (parts.rsf v) (parts.rsf w) (omega arith) (omega arith) p.2) o.0
      (one_destination (parts.dsf v) (parts.dsf w) (omega arith) (omega arith) p.0) (i.0 ∙ sym j.0)
      (one_function (parts.fsf v) (parts.fsf w) (omega (arith, i.3)) (omega (arith, j.3)) p.1) o.1

  pub one_word : (address : ℕ) → line address v ≡ line address w → v ≡ w
  one_word address e =
      let q = same_fields address v w e in
      let f = same_form v w q in
      by_form (form w) (subst (λ t. Told t v) f (told v)) (told w) (rw f at q)
