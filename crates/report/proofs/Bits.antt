-- From lists of bits to arithmetic: what V, EL, SEG, CONS and the bitwise functions are of BITS n w, for every width n.
-- Assumes nothing.
use mathlib.Core.Path.{◌≡◌, refl, sym, ap, ap₂, ◌∙◌}
use mathlib.Core.Bool.{Bool, true, false, ◌&&◌, ◌||◌}
use mathlib.Core.List.{map}
use Prim.Native.Nat.{ℕ, zero, suc, min, ◌+◌, ◌-◌, ◌*◌, ◌/◌, ◌%◌, ◌^◌, ◌<◌, ◌≤◌}
use native.Mathlib.Nat.{div-div-eq-div-mul, mod-lt}
use native.Mathlib.Omega.{arith}
use lib.Dec.{eqb, leb}
use lib.ListN.{length}
use lib.Pow.{pow_pos, pow-add, mod-pow-add}
use lib.Bits.{bit_and, bit_or, and_block, or_block}
use borrow.Author.Tests.{leb-true, leb-false, le-leb, lt-leb, eq-eqb, ne_eqb}
use Rattle.report.specs.AnnexA.{EL, SEG, «V», BV, BITS, MAP2, NOT, CONS}

-- two ways, by a test
way : {P : Type 0} (a b : ℕ) (t : Bool) → leb a b ≡ t → (a ≤ b → P) → (b < a → P) → P
way a b true e f g = f (leb-true a b e)
way a b false e f g = g (leb-false a b e)

pub by_le : {P : Type 0} (a b : ℕ) → (a ≤ b → P) → (b < a → P) → P
by_le a b f g = way a b (leb a b) refl f g

-- bit k of w
abbrev pub bit_of : ℕ → ℕ → Bool
bit_of k w = eqb (w / 2 ^ k % 2) 1

pub bit : (x : ℕ) → BV (eqb (x % 2) 1) ≡ x % 2
bit x = by_le 1 (x % 2) (λ h. ap BV (eq-eqb (x % 2) 1 (omega arith)) ∙ omega arith) (λ h. ap BV (ne_eqb (x % 2) 1 (omega arith)) ∙ omega arith)

pub length_bits : (n w : ℕ) → length (BITS n w) ≡ n
unfolding BITS
length_bits zero w = refl
length_bits (suc n) w = ap suc (length_bits n w)

-- one bit more
mod_more : (n w : ℕ) → (w / 2 ^ n % 2) * 2 ^ n + w % 2 ^ n ≡ w % 2 ^ suc n
mod_more n w = sym (mod-pow-add w 1 n) ∙ ap (λ (k : ℕ). w % 2 ^ k) (omega arith)

pub v_bits : (n w : ℕ) → «V» (BITS n w) ≡ w % 2 ^ n
unfolding «V» BITS
v_bits zero w = omega arith
v_bits (suc n) w = simp (length_bits n w, bit, v_bits n w) (mod_more n w)

pub v_cons : (b : Bool) (n w : ℕ) → «V» (CONS b (BITS n w)) ≡ BV b * 2 ^ n + w % 2 ^ n
unfolding «V»
v_cons b n w = simp (length_bits n w, v_bits)

pub el_bits : (k n w : ℕ) → k < n → EL k (BITS n w) ≡ bit_of k w
unfolding EL BITS
el_bits k zero w h = let z : ⊥ = omega arith in absurd z
el_bits k (suc n) w h =
    by_le n k
    (λ g. let e : k ≡ n = omega arith in simp (length_bits n w, eq-eqb k n e) (ap (λ (i : ℕ). bit_of i w) (sym e)))
    (λ g. simp (length_bits n w, ne_eqb k n (omega arith)) (el_bits k n w g))

-- 2 ^ i and 2 ^ (n - i)
shifted : (i n w : ℕ) → i ≤ n → w / 2 ^ i / 2 ^ (n - i) ≡ w / 2 ^ n
shifted i n w h = div-div-eq-div-mul w (2 ^ i) (2 ^ (n - i)) ∙ ap (λ (x : ℕ). w / x) (sym (pow-add 2 i (n - i)) ∙ ap (λ (x : ℕ). 2 ^ x) (omega arith))

pub seg_bits : (i j n w : ℕ) → SEG (i, j) (BITS n w) ≡ BITS (min n (suc j) - i) (w / 2 ^ i)
unfolding SEG BITS
seg_bits i j zero w = let e : min 0 (suc j) - i ≡ 0 = omega arith in rw e
seg_bits i j (suc n) w =
    by_le i n
    (λ h. by_le n j
    (λ k.
    let e : min n (suc j) - i ≡ n - i = omega arith in
    let f : min (suc n) (suc j) - i ≡ suc (n - i) = omega arith in
    simp (length_bits n w, le-leb i n h, le-leb n j k, seg_bits i j n w, e, f, shifted i n w h))
    (λ k.
    let e : min n (suc j) - i ≡ min (suc n) (suc j) - i = omega arith in
    simp (length_bits n w, le-leb i n h, lt-leb n j k, seg_bits i j n w, e)))
    (λ h.
    let e : min n (suc j) - i ≡ min (suc n) (suc j) - i = omega arith in
    simp (length_bits n w, lt-leb i n h, seg_bits i j n w, e))

pub v_seg : (i j n w : ℕ) → j < n → «V» (SEG (i, j) (BITS n w)) ≡ w / 2 ^ i % 2 ^ (j + 1 - i)
v_seg i j n w h = ap «V» (seg_bits i j n w) ∙ (v_bits (min n (suc j) - i) (w / 2 ^ i) ∙ ap (λ (k : ℕ). w / 2 ^ i % 2 ^ k) (omega arith))

-- the bits turned
pub v_not : (n w : ℕ) → «V» (map NOT (BITS n w)) + w % 2 ^ n ≡ 2 ^ n - 1
unfolding «V» BITS
v_not zero w = omega arith
v_not (suc n) w =
    simp (length_not n w)
    (by_le 1 (w / 2 ^ n % 2)
    (λ h.
    let e : w / 2 ^ n % 2 ≡ 1 = omega arith in
    let m : w % 2 ^ suc n ≡ 2 ^ n + w % 2 ^ n = omega (arith, mod_more n w, ap (λ (x : ℕ). x * 2 ^ n) e) in
    simp (eq-eqb (w / 2 ^ n % 2) 1 e, m) (omega (arith, v_not n w, pow_pos n)))
    (λ h.
    let e : w / 2 ^ n % 2 ≡ 0 = omega arith in
    let m : w % 2 ^ suc n ≡ w % 2 ^ n = omega (arith, mod_more n w, ap (λ (x : ℕ). x * 2 ^ n) e) in
    simp (ne_eqb (w / 2 ^ n % 2) 1 (omega arith), m) (omega (arith, v_not n w, pow_pos n))))
  where
    length_not : (n w : ℕ) → length (map NOT (BITS n w)) ≡ n
    length_not zero w = refl
    length_not (suc n) w = ap suc (length_not n w)

-- the bits of two words, two by two, for an operation on numbers that goes by blocks
module _ (f : Bool → Bool → Bool) (op : ℕ → ℕ → ℕ) (none : op 0 0 ≡ 0) (one : (a b : Bool) → BV (f a b) ≡ op (BV a) (BV b))
    (block : (k a b r s : ℕ) → r < 2 ^ k → s < 2 ^ k → op (a * 2 ^ k + r) (b * 2 ^ k + s) ≡ op a b * 2 ^ k + op r s) where
  length_two : (n v w : ℕ) → length (MAP2 f (BITS n v) (BITS n w)) ≡ n
  unfolding BITS
  length_two zero v w = refl
  length_two (suc n) v w = ap suc (length_two n v w)

  pub v_two : (n v w : ℕ) → «V» (MAP2 f (BITS n v) (BITS n w)) ≡ op (v % 2 ^ n) (w % 2 ^ n)
  unfolding «V» BITS
  v_two zero v w = sym none ∙ ap₂ op (omega arith) (omega arith)
  v_two (suc n) v w =
      simp (length_two n v w, v_two n v w, one, bit)
      (sym (block n (v / 2 ^ n % 2) (w / 2 ^ n % 2) (v % 2 ^ n) (w % 2 ^ n) (mod-lt v (pow_pos n)) (mod-lt w (pow_pos n))) ∙ ap₂ op (mod_more n v) (mod_more n w))

and_one : (a b : Bool) → BV (a && b) ≡ bit_and (BV a) (BV b)
and_one true true = refl
and_one true false = refl
and_one false true = refl
and_one false false = refl

or_one : (a b : Bool) → BV (a || b) ≡ bit_or (BV a) (BV b)
or_one true true = refl
or_one true false = refl
or_one false true = refl
or_one false false = refl

pub v_and : (n v w : ℕ) → «V» (MAP2 (λ (a b : Bool). a && b) (BITS n v) (BITS n w)) ≡ bit_and (v % 2 ^ n) (w % 2 ^ n)
v_and n v w = v_two (λ (a b : Bool). a && b) bit_and refl and_one and_block n v w

pub v_or : (n v w : ℕ) → «V» (MAP2 (λ (a b : Bool). a || b) (BITS n v) (BITS n w)) ≡ bit_or (v % 2 ^ n) (w % 2 ^ n)
v_or n v w = v_two (λ (a b : Bool). a || b) bit_or refl or_one or_block n v w

-- ---- the members that section 3 names

pub el_0 : (w : ℕ) → EL 0 (BITS 32 w) ≡ bit_of 0 w
el_0 w = el_bits 0 32 w (omega arith)

pub el_31 : (w : ℕ) → EL 31 (BITS 32 w) ≡ bit_of 31 w
el_31 w = el_bits 31 32 w (omega arith)

pub el_31_34 : (w : ℕ) → EL 31 (BITS 34 w) ≡ bit_of 31 w
el_31_34 w = el_bits 31 34 w (omega arith)

pub el_32_34 : (w : ℕ) → EL 32 (BITS 34 w) ≡ bit_of 32 w
el_32_34 w = el_bits 32 34 w (omega arith)

pub bit_small : (b : Bool) → BV b ≤ 1
bit_small true = omega arith
bit_small false = omega arith
