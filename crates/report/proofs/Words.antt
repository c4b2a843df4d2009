-- Pages 10 and 12: the functions that trim, pad, extend, shift and invert words, each in arithmetic. Each is the dictionary of Bits read once.
-- Assumes nothing.
use mathlib.Core.Path.{◌≡◌, ap, ap₂, ◌∙◌}
use mathlib.Core.Bool.{Bool, true, false, cond}
use Prim.Native.Nat.{ℕ, ◌+◌, ◌-◌, ◌*◌, ◌/◌, ◌%◌, ◌^◌, ◌<◌}
use native.Mathlib.Nat.{mod-eq_of_lt}
use native.Mathlib.Omega.{arith}
use lib.Dec.{eqb}
use lib.Bits.{bit_and, bit_or, and_lt, or_lt}
use Rattle.report.specs.AnnexA.{BV, BITS, NOT33, NOT32, ◌AND32◌, ◌OR32◌}
use Rattle.report.specs.Section3.{TRIM32TO20, TRIM34TO32, PAD20TO32, SIGNEXT, RIGHT, LEFT, RIGHTARITH, NEG}
use Rattle.report.proofs.Bits.{bit_of, bit_small, v_bits, v_cons, el_31, seg_bits, v_seg, v_not, v_and, v_or}

-- a word of 32 bits with its top bit said twice
abbrev pub extended : ℕ → ℕ
extended v = BV (bit_of 31 v) * 2 ^ 32 + v

-- NEG of a word of 33 bits
abbrev pub negated : ℕ → ℕ
negated m = cond (eqb m 0) 0 (2 ^ 33 - 1 - m + 1)

pub trim32_is : (v : ℕ) → TRIM32TO20 v ≡ v % 2 ^ 20
unfolding TRIM32TO20
trim32_is v = ap (λ (x : ℕ). x % 2 ^ 20) (v_seg 0 19 32 v (omega arith)) ∙ omega arith

pub trim34_is : (v : ℕ) → TRIM34TO32 v ≡ v % 2 ^ 32
unfolding TRIM34TO32 BITS
trim34_is v = ap (λ (x : ℕ). x % 2 ^ 32) (v_bits 32 v) ∙ omega arith

pub pad_is : (v : ℕ) → v < 2 ^ 20 → PAD20TO32 v ≡ v
unfolding PAD20TO32
pad_is v h = omega arith

pub signext_is : (v : ℕ) → v < 2 ^ 32 → SIGNEXT v ≡ extended v
unfolding SIGNEXT
signext_is v h =
    let e : v % 2 ^ 32 ≡ v = omega arith in
    simp (v_cons, el_31, e) (omega (arith, bit_small (bit_of 31 v)))

pub right_is : (b : Bool) (r : ℕ) → r < 2 ^ 32 → RIGHT (b, r) ≡ BV b * 2 ^ 31 + r / 2
unfolding RIGHT
right_is b r h = simp (seg_bits, v_cons) (omega (arith, bit_small b))

pub rightarith_is : (r : ℕ) → r < 2 ^ 32 → RIGHTARITH r ≡ BV (bit_of 31 r) * 2 ^ 31 + r / 2
unfolding RIGHTARITH
rightarith_is r h = simp (seg_bits, v_cons, el_31) (omega (arith, bit_small (bit_of 31 r)))

pub left_is : (r : ℕ) (b : Bool) → LEFT (r, b) ≡ (r + r + BV b) % 2 ^ 32
unfolding LEFT BITS
left_is r true = ap (λ (x : ℕ). (x + x + 1) % 2 ^ 32) (v_bits 31 r) ∙ omega arith
left_is r false = ap (λ (x : ℕ). (x + x) % 2 ^ 32) (v_bits 31 r) ∙ omega arith

pub not33_is : (m : ℕ) → m < 2 ^ 33 → NOT33 m ≡ 2 ^ 33 - 1 - m
unfolding NOT33
not33_is m h = let e = v_not 33 m in omega arith

pub not32_is : (m : ℕ) → m < 2 ^ 32 → NOT32 m ≡ 2 ^ 32 - 1 - m
unfolding NOT32
not32_is m h = let e = v_not 32 m in omega arith

pub and32_is : (v w : ℕ) → v < 2 ^ 32 → w < 2 ^ 32 → v AND32 w ≡ bit_and v w
unfolding ◌AND32◌
and32_is v w h k =
    ap (λ (x : ℕ). x % 2 ^ 32) (v_and 32 v w ∙ ap₂ bit_and (mod-eq_of_lt h) (mod-eq_of_lt k)) ∙ mod-eq_of_lt (and_lt 32 v w h k)

pub or32_is : (v w : ℕ) → v < 2 ^ 32 → w < 2 ^ 32 → v OR32 w ≡ bit_or v w
unfolding ◌OR32◌
or32_is v w h k =
    ap (λ (x : ℕ). x % 2 ^ 32) (v_or 32 v w ∙ ap₂ bit_or (mod-eq_of_lt h) (mod-eq_of_lt k)) ∙ mod-eq_of_lt (or_lt 32 v w h k)

pub neg_is : (m : ℕ) → m < 2 ^ 33 → NEG m ≡ negated m
unfolding NEG
neg_is m h = simp (not33_is m h)

pub signext_lt : (v : ℕ) → v < 2 ^ 32 → extended v < 2 ^ 33
signext_lt v h = omega (arith, bit_small (bit_of 31 v))
