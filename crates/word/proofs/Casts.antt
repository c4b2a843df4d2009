-- A word as a signed number, the way the code makes it: what an i32 or an i64 holds is the number, since it fits.
-- Assumes nothing.
use Rattle.std.proofs.Common.{◌≡◌, ℕ, zero, suc, ◌+◌, ◌-◌, ◌*◌, ◌/◌, ◌%◌, ◌^◌, ◌<◌, ℤ, pos, negsuc, ◌+ℤ◌, ◌-ℤ◌, neg_ℤ, sym, ap, ◌∙◌, subst, arith, to_z-of_z, w32, w64, SFits, to_z, of_z, le-ltb, lt-ltb}
use lib.IntN.{sub_ℕ}
use lib.Signed.{mag, shr_z, mag_shr}
use mir.Facts.{sfits_widen}
use mir.ValLaws.{sfits_le}
use Rattle.report.specs.Parts.{signed}
use Rattle.report.specs.Section3.{RIGHTARITH}
use Rattle.report.proofs.Bits.{by_le, bit}
use Rattle.report.proofs.Words.{rightarith_is}
use Rattle.report.proofs.AnnexB.{signed_low, signed_high}

-- ---- sums and differences of two signed words fit 64 bits

mag_subℕ : (a b k : ℕ) → a < k → b < k → mag (sub_ℕ a b) < k
mag_subℕ a b k h g =
    by_le b a (λ l. simp (le-ltb a b l) (omega arith)) (λ l. simp (lt-ltb a b l) (omega arith))

mag_sum : (a b : ℤ) → mag a < 2 ^ 31 → mag b < 2 ^ 33 → mag (a +ℤ b) < 2 ^ 63
mag_sum (pos a) (pos b) h g = omega arith
mag_sum (pos a) (negsuc b) h g = mag_subℕ a (suc b) (2 ^ 63) (omega arith) (omega arith)
mag_sum (negsuc a) (pos b) h g = mag_subℕ b (suc a) (2 ^ 63) (omega arith) (omega arith)
mag_sum (negsuc a) (negsuc b) h g = omega arith

mag_neg : (b : ℤ) → mag b < 2 ^ 31 → mag (neg_ℤ b) < 2 ^ 33
mag_neg (pos zero) h = omega arith
mag_neg (pos (suc b)) h = omega arith
mag_neg (negsuc b) h = omega arith

pub signed_fits : (r : ℕ) → r < 2 ^ 32 → SFits w32 (signed r)
signed_fits r h =
    by_le (2 ^ 31) r (λ a. rw (signed_high r a h) (record { sfits = omega arith })) (λ a. rw (signed_low r a) (record { sfits = omega arith }))

-- a signed word is what is read back from its bits
pub back64 : (z : ℤ) (r : ℕ) → z ≡ signed r → r < 2 ^ 32 → to_z w64 (of_z w64 z) ≡ signed r
back64 z r e h = ap (λ (y : ℤ). to_z w64 (of_z w64 y)) e ∙ to_z-of_z {w = w64} (sfits_widen {w = w32} {w' = w64} tt (signed_fits r h))

pub back32 : (z : ℤ) (r : ℕ) → z ≡ signed r → r < 2 ^ 32 → to_z w32 (of_z w32 z) ≡ signed r
back32 z r e h = ap (λ (y : ℤ). to_z w32 (of_z w32 y)) e ∙ to_z-of_z {w = w32} (signed_fits r h)

module _ (a b : ℤ) (r m : ℕ) (ea : a ≡ signed r) (eb : b ≡ signed m) (hr : r < 2 ^ 32) (hm : m < 2 ^ 32) where
  pub sum_is : to_z w64 (of_z w64 a) +ℤ to_z w64 (of_z w64 b) ≡ signed r +ℤ signed m
  sum_is = ap (λ (z : ℤ). z +ℤ to_z w64 (of_z w64 b)) (back64 a r ea hr) ∙ ap (λ (z : ℤ). signed r +ℤ z) (back64 b m eb hm)

  pub dif_is : to_z w64 (of_z w64 a) -ℤ to_z w64 (of_z w64 b) ≡ signed r -ℤ signed m
  dif_is = ap (λ (z : ℤ). z -ℤ to_z w64 (of_z w64 b)) (back64 a r ea hr) ∙ ap (λ (z : ℤ). signed r -ℤ z) (back64 b m eb hm)

  pub sum_fits : SFits w64 (to_z w64 (of_z w64 a) +ℤ to_z w64 (of_z w64 b))
  sum_fits = subst (SFits w64) (sym sum_is) (record { sfits = mag_sum (signed r) (signed m) (signed_fits r hr).sfits (omega (arith, (signed_fits m hm).sfits)) })

  pub dif_fits : SFits w64 (to_z w64 (of_z w64 a) -ℤ to_z w64 (of_z w64 b))
  dif_fits = subst (SFits w64) (sym dif_is) (record { sfits = mag_sum (signed r) (neg_ℤ (signed m)) (signed_fits r hr).sfits (mag_neg (signed m) (signed_fits m hm).sfits) })

  pub sum_back : to_z w64 (of_z w64 (to_z w64 (of_z w64 a) +ℤ to_z w64 (of_z w64 b))) ≡ signed r +ℤ signed m
  sum_back = to_z-of_z {w = w64} sum_fits ∙ sum_is

  pub dif_back : to_z w64 (of_z w64 (to_z w64 (of_z w64 a) -ℤ to_z w64 (of_z w64 b))) ≡ signed r -ℤ signed m
  dif_back = to_z-of_z {w = w64} dif_fits ∙ dif_is

-- ---- the shift that copies the sign

arith_is : (r : ℕ) → r < 2 ^ 32 → RIGHTARITH r ≡ r / 2 ^ 31 % 2 * 2 ^ 31 + r / 2
arith_is r h = rightarith_is r h ∙ ap (λ (x : ℕ). x * 2 ^ 31 + r / 2) (bit (r / 2 ^ 31))

halved : (r : ℕ) → r < 2 ^ 32 → of_z w32 (shr_z (signed r) 2) ≡ RIGHTARITH r
halved r h =
    by_le (2 ^ 31) r
    (λ a.
    let p : (2 ^ 32 - suc r) / 2 + r / 2 ≡ 2 ^ 31 - 1 = omega arith in
    let q : r / 2 ^ 31 % 2 ≡ 1 = omega arith in
    let u : 1 * 2 ^ 31 + r / 2 ≡ 2 ^ 32 - suc ((2 ^ 32 - suc r) / 2) = omega arith in
    rw (signed_high r a h) (sym (arith_is r h ∙ (ap (λ (x : ℕ). x * 2 ^ 31 + r / 2) q ∙ u))))
    (λ a. rw (signed_low r a) (sym (arith_is r h ∙ omega arith)))

pub shift_is : (z : ℤ) (r : ℕ) → z ≡ signed r → r < 2 ^ 32 → of_z w32 (to_z w32 (of_z w32 (shr_z (to_z w32 (of_z w32 z)) 2))) ≡ RIGHTARITH r
shift_is z r e h =
    ap (λ (y : ℤ). of_z w32 (to_z w32 (of_z w32 (shr_z y 2)))) (back32 z r e h)
    ∙ (ap (of_z w32) (to_z-of_z {w = w32} (sfits_le {w = w32} {y = shr_z (signed r) 2} {z = signed r} (mag_shr (signed r) 2) (signed_fits r h))) ∙ halved r h)
