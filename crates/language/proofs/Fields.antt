-- The fields of a line can be told from its bytes: no field holds a blank, so the line split at its blanks is its fields.
-- Assumes nothing.
use Prim.Native.Nat.{ℕ, zero, suc, ◌+◌, ◌-◌, ◌/◌, ◌%◌, ◌<◌}
use Prim.Native.Char.{code}
use mathlib.Core.Path.{◌≡◌, refl, ap, sym, ◌∙◌}
use mathlib.Core.Bool.{Bool, true, false, not, ◌&&◌}
use mathlib.Core.List.{List, [], ◌∷◌, ◌++◌}
use native.Mathlib.Omega.{arith}
use lib.Dec.{T, ltb, eqb}
use lib.ListN.{length, take, drop, length-append}
use lib.Seq.{take_at, drop_at}
use borrow.Author.Tests.{ne_eqb}
use Rattle.std.specs.Cmp.Derive.{both_true as both}
use Rattle.report.specs.Parts as parts
use Rattle.report.proofs.Finite.{all, below}
use Rattle.instruction.specs.Fields.{fields_of}
use Rattle.text.specs.Text.{text}
use Rattle.text.specs.Digits.{digit, hex}
use Rattle.language.specs.declared.forms.Form.{Form}
use Rattle.language.specs.declared.forms.Form.TheVariants.{Word, Comparison, Write, Shift, Unary, Binary}
use Rattle.language.specs.Names.{split, destination_name, function_name, shift_name, comparison_name, register_name}
use Rattle.language.specs.Line.{operand, fields_by, fields, form, spaced, line}

holds : (b : Bool) → T b → b ≡ true
holds true t = refl
holds false t = absurd t

-- ---- no blank

unfoldable blankless : List ℕ → Bool
blankless [] = true
blankless (b ∷ t) = not (eqb b (code " ")) && blankless t

unfoldable all_blankless : List (List ℕ) → Bool
all_blankless [] = true
all_blankless (t ∷ ts) = blankless t && all_blankless ts

blankless_append : (s t : List ℕ) → blankless s ≡ true → blankless t ≡ true → blankless (s ++ t) ≡ true
unfolding blankless
blankless_append [] t p q = q
blankless_append (b ∷ s) t p q = go (eqb b 32) refl (blankless_append s t)
  where
    go : (x : Bool) → eqb b 32 ≡ x → (blankless s ≡ true → blankless t ≡ true → blankless (s ++ t) ≡ true) → blankless ((b ∷ s) ++ t) ≡ true
    go true e more = let f : false ≡ true = rw e at p in rw e f
    go false e more = rw e (more (rw e at p) q)

blankless_digit : (d : ℕ) → blankless (digit d ∷ []) ≡ true
unfolding blankless
blankless_digit d = go (ltb d 10) refl
  where
    go : (t : Bool) → ltb d 10 ≡ t → blankless (digit d ∷ []) ≡ true
    go true e = rw (e, ne_eqb (48 + d) 32 (λ z. omega arith))
    go false e = rw (e, ne_eqb (65 + (d - 10)) 32 (λ z. omega arith))

blankless_hex : (k n : ℕ) → blankless (hex k n) ≡ true
unfolding hex blankless
blankless_hex zero n = refl
blankless_hex (suc k) n = blankless_append (hex k (n / 16)) (digit (n % 16) ∷ []) (blankless_hex k (n / 16)) (blankless_digit (n % 16))

blankless_name : (t : ℕ → List ℕ) (n : ℕ) → T (all (λ k. blankless (t k)) n) → (k : ℕ) → k < n → blankless (t k) ≡ true
blankless_name t n e k h = holds (blankless (t k)) (below (λ k. blankless (t k)) n e k h)

blankless_operand : (m a : ℕ) → blankless (operand m a) ≡ true
unfolding operand blankless
blankless_operand m a = first (eqb m 0) (eqb m 1) (eqb m 2) refl refl refl
  where
    first : (x y z : Bool) → eqb m 0 ≡ x → eqb m 1 ≡ y → eqb m 2 ≡ z → blankless (operand m a) ≡ true
    first true y z e f g = rw e (blankless_append (text "#") (hex 5 a) refl (blankless_hex 5 a))
    first false true z e f g = rw (e, f) (blankless_hex 5 a)
    first false false true e f g = rw (e, f, g) (blankless_append (hex 5 a) (text "+X") (blankless_hex 5 a) refl)
    first false false false e f g = rw (e, f, g) (blankless_append (hex 5 a) (text "+Y") (blankless_hex 5 a) refl)

free_word : blankless (text "WORD") ≡ true
unfolding blankless
free_word = refl

free_compare : blankless (text "CMP") ≡ true
unfolding blankless
free_compare = refl

module _ (w : ℕ) where
  free_destination : blankless (destination_name (parts.dsf w)) ≡ true
  unfolding destination_name split blankless
  free_destination = blankless_name destination_name 8 tt (parts.dsf w) (omega arith)

  free_function : blankless (function_name (parts.fsf w)) ≡ true
  unfolding function_name split blankless
  free_function = blankless_name function_name 16 tt (parts.fsf w) (omega arith)

  free_shift : blankless (shift_name (parts.msf w)) ≡ true
  unfolding shift_name split blankless
  free_shift = blankless_name shift_name 4 tt (parts.msf w) (omega arith)

  free_comparison : blankless (comparison_name (parts.fsf w)) ≡ true
  unfolding comparison_name split blankless
  free_comparison = blankless_name comparison_name 16 tt (parts.fsf w) (omega arith)

  free_register : blankless (register_name (parts.rsf w)) ≡ true
  unfolding register_name split blankless
  free_register = blankless_name register_name 4 tt (parts.rsf w) (omega arith)

  free_operand : blankless (operand (parts.msf w) (parts.addr w)) ≡ true
  free_operand = blankless_operand (parts.msf w) (parts.addr w)

  free : (t : Form) → all_blankless (fields_by t w (fields_of w)) ≡ true
  unfolding fields_by all_blankless
  free Word = both free_word (both (blankless_hex 8 w) refl)
  free Comparison = both free_compare (both free_comparison (both free_register (both free_operand refl)))
  free Write = both free_destination (both free_register (both free_operand refl))
  free Shift = both free_destination (both free_shift (both free_register refl))
  free Unary = both free_destination (both free_function (both free_operand refl))
  free Binary = both free_destination (both free_function (both free_register (both free_operand refl)))

-- ---- split at the blanks

split_append : (t r : List ℕ) (ts : List (List ℕ)) → blankless t ≡ true → split r ≡ [] ∷ ts → split (t ++ r) ≡ t ∷ ts
unfolding blankless split
split_append [] r ts p e = e
split_append (b ∷ t) r ts p e = go (eqb b 32) refl (split_append t r ts)
  where
    go : (x : Bool) → eqb b 32 ≡ x → (blankless t ≡ true → split r ≡ [] ∷ ts → split (t ++ r) ≡ t ∷ ts) → split ((b ∷ t) ++ r) ≡ (b ∷ t) ∷ ts
    go true h more = let f : false ≡ true = rw h at p in cc
    go false h more = rw (h, more (rw h at p) e)

split_spaced : (ts : List (List ℕ)) → all_blankless ts ≡ true → split (spaced ts) ≡ [] ∷ ts
unfolding all_blankless split spaced
split_spaced [] e = refl
split_spaced (t ∷ ts) e = go (blankless t) refl (split_spaced ts)
  where
    go : (x : Bool) → blankless t ≡ x → (all_blankless ts ≡ true → split (spaced ts) ≡ [] ∷ ts) → split (spaced (t ∷ ts)) ≡ [] ∷ t ∷ ts
    go true h more = rw (split_append t (spaced ts) ts h (more (rw h at e)))
    go false h more = let f : false ≡ true = rw h at e in cc

-- ---- the law

same_tail : (b : ℕ) (s t : List ℕ) → s ++ (b ∷ []) ≡ t ++ (b ∷ []) → s ≡ t
same_tail b s t e =
    let n : length s ≡ length t = omega (arith, ap length e, length-append s (b ∷ []), length-append t (b ∷ [])) in
    sym (take_at s (b ∷ []) (length t) n) ∙ (ap (take (length t)) e ∙ take_at t (b ∷ []) (length t) refl)

same_head : (p s t : List ℕ) → p ++ s ≡ p ++ t → s ≡ t
same_head p s t e = sym (drop_at p s (length p) refl) ∙ (ap (drop (length p)) e ∙ drop_at p t (length p) refl)

-- Words with the same line at an address have the same fields.
pub same_fields : (address v w : ℕ) → line address v ≡ line address w → fields v ≡ fields w
unfolding line
same_fields address v w e =
    let s : spaced (fields v) ≡ spaced (fields w)
    = same_head (hex 5 address) (spaced (fields v)) (spaced (fields w))
    (same_tail 10 (hex 5 address ++ spaced (fields v)) (hex 5 address ++ spaced (fields w)) e)
    in
    let q : [] ∷ fields v ≡ [] ∷ fields w
    = sym (split_spaced (fields v) (free v (form v))) ∙ (ap split s ∙ split_spaced (fields w) (free w (form w)))
    in
    ap (drop 1) q
