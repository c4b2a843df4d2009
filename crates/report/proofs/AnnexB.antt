-- Annex B: what ADD32, SUB32 and COMPARE mean as numbers. The words are taken by their signs, as the annex takes them, and the sum or
-- difference of the extended words by the stretch of 2^31 numbers in which it lies, which says bits 31 and 32.
-- Assumes nothing.
use mathlib.Core.Path.{◌≡◌, refl, sym, ap, ◌∙◌}
use mathlib.Core.Bool.{Bool, true, false, or-false, ◌||◌}
use Prim.Native.Nat.{ℕ, zero, suc, ◌+◌, ◌-◌, ◌*◌, ◌/◌, ◌%◌, ◌^◌, ◌<◌, ◌≤◌}
use native.Mathlib.Omega.{arith}
use lib.Dec.{eqb, leb, ltb}
use borrow.Author.Tests.{lt-ltb, le-ltb, le-leb, lt-leb, eq-eqb, ne_eqb}
use lib.IntN.{pos, negsuc, sub_ℕ, ◌+ℤ◌, ◌-ℤ◌}
use lib.Signed.{lt_z}
use Rattle.report.specs.AnnexA.{◌XOR◌}
use Rattle.report.specs.Section3.{ADD32, SUB32}
use Rattle.report.specs.Parts.{signed, overflows}
use Rattle.report.proofs.Bits.{by_le, bit, bit_of, el_31, el_31_34, el_32_34}
use Rattle.report.proofs.Words.{extended, negated, trim34_is, signext_is, signext_lt, neg_is}

-- two tests that are true together
pub same_test : (p q a b : ℕ) → (a ≤ b → p < q) → (b < a → q ≤ p) → ltb p q ≡ leb a b
same_test p q a b f g = by_le a b (λ h. lt-ltb p q (f h) ∙ sym (le-leb a b h)) (λ h. le-ltb p q (g h) ∙ sym (lt-leb a b h))

-- a bit is the test a ≤ b
pub bit_le : (x a b : ℕ) → (a ≤ b → x ≡ 1) → (b < a → x ≡ 1 → ⊥) → eqb x 1 ≡ leb a b
bit_le x a b f g = by_le a b (λ h. eq-eqb x 1 (f h) ∙ sym (le-leb a b h)) (λ h. ne_eqb x 1 (g h) ∙ sym (lt-leb a b h))

xor_bits : (a b : ℕ) → ◌XOR◌ (eqb (a % 2) 1) (eqb (b % 2) 1) ≡ eqb ((a + b) % 2) 1
xor_bits a b =
    by_le 1 (a % 2)
    (λ h. by_le 1 (b % 2)
    (λ k. simp (eq-eqb (a % 2) 1 (omega arith), eq-eqb (b % 2) 1 (omega arith)) (sym (ne_eqb ((a + b) % 2) 1 (omega arith))))
    (λ k. simp (eq-eqb (a % 2) 1 (omega arith), ne_eqb (b % 2) 1 (omega arith)) (sym (eq-eqb ((a + b) % 2) 1 (omega arith)))))
    (λ h. by_le 1 (b % 2)
    (λ k. simp (ne_eqb (a % 2) 1 (omega arith), eq-eqb (b % 2) 1 (omega arith)) (sym (eq-eqb ((a + b) % 2) 1 (omega arith))))
    (λ k. simp (ne_eqb (a % 2) 1 (omega arith), ne_eqb (b % 2) 1 (omega arith)) (sym (ne_eqb ((a + b) % 2) 1 (omega arith)))))

-- The sum and the difference of the extended words, and what ADD32 and SUB32 read off them.
abbrev sum : ℕ → ℕ → ℕ
sum r m = (extended r + extended m) % 2 ^ 34

abbrev difference : ℕ → ℕ → ℕ
difference r m = (extended r + negated (extended m)) % 2 ^ 34

abbrev carried : ℕ → ℕ → ℕ → Bool
carried s r m = ◌XOR◌ (bit_of 32 s) (◌XOR◌ (bit_of 31 r) (bit_of 31 m))

abbrev overflowed : ℕ → Bool
overflowed s = ◌XOR◌ (bit_of 32 s) (bit_of 31 s)

-- the two halves of the words: the extended word, and its top bit
record Ext (v x s : ℕ) : Type 0 where
  word : extended v ≡ x
  top : v / 2 ^ 31 ≡ s

low : (v : ℕ) → v < 2 ^ 31 → Ext v v 0
low v h = record { word = ap (λ (x : ℕ). x * 2 ^ 32 + v) (bit (v / 2 ^ 31)) ∙ omega arith; top = omega arith }

high : (v : ℕ) → 2 ^ 31 ≤ v → v < 2 ^ 32 → Ext v (2 ^ 32 + v) 1
high v h k = record { word = ap (λ (x : ℕ). x * 2 ^ 32 + v) (bit (v / 2 ^ 31)) ∙ omega arith; top = omega arith }

-- the four pairs of signs
signs : {P : Type 0} (r m : ℕ) → (r < 2 ^ 31 → m < 2 ^ 31 → P) → (r < 2 ^ 31 → 2 ^ 31 ≤ m → P) → (2 ^ 31 ≤ r → m < 2 ^ 31 → P) → (2 ^ 31 ≤ r → 2 ^ 31 ≤ m → P) → P
signs r m f g h k = by_le (2 ^ 31) r (λ a. by_le (2 ^ 31) m (λ b. k a b) (λ b. h a b)) (λ a. by_le (2 ^ 31) m (λ b. g a b) (λ b. f a b))

-- the bit that CARRY is, and the bit that OFLO is, of a sum of two extended words
abbrev carry_bit : ℕ → ℕ → ℕ
carry_bit s t = (s % 2 ^ 34 / 2 ^ 32 + t) % 2

abbrev oflo_bit : ℕ → ℕ
oflo_bit s = (s % 2 ^ 34 / 2 ^ 32 + s % 2 ^ 34 / 2 ^ 31) % 2

module _ {r m x y s t : ℕ} (ex : Ext r x s) (ey : Ext m y t) where
  value_is : sum r m % 2 ^ 32 ≡ (x + y) % 2 ^ 34 % 2 ^ 32
  value_is = simp (ex.word, ey.word)

  carry_is : carried (sum r m) r m ≡ eqb (carry_bit (x + y) (s + t)) 1
  carry_is = simp (ex.word, ey.word, xor_bits) (simp (ex.top, ey.top))

  oflo_is : overflowed (sum r m) ≡ eqb (oflo_bit (x + y)) 1
  oflo_is = simp (ex.word, ey.word, xor_bits)

-- the numbers of the two halves
pub signed_low : (v : ℕ) → v < 2 ^ 31 → signed v ≡ pos v
signed_low v h = simp (lt-ltb v (2 ^ 31) h)

pub signed_high : (v : ℕ) → 2 ^ 31 ≤ v → v < 2 ^ 32 → signed v ≡ negsuc (2 ^ 32 - suc v)
signed_high v h k = simp (le-ltb v (2 ^ 31) h, lt-ltb v (2 ^ 32) k)

inside : (a b : ℕ) → a < 2 ^ 31 + b → b ≤ 2 ^ 31 + a → overflows (sub_ℕ a b) ≡ false
inside a b h k =
    by_le b a
    (λ g. simp (le-ltb a b g) (lt-leb (2 ^ 31) (a - b) (omega arith)))
    (λ g. simp (lt-ltb a b g) (ap (λ (t : Bool). t || false) (lt-leb (2 ^ 31) (b - suc a) (omega arith))))

-- a sum lies in the k-th stretch of 2 ^ 31 numbers: OFLO is bit 0 of k with bit 1 of k
record In (s k : ℕ) : Type 0 where
  small : k < 8
  from : k * 2 ^ 31 ≤ s
  upto : s < k * 2 ^ 31 + 2 ^ 31

abbrev code : ℕ → Bool
code k = eqb ((k / 2 + k) % 2) 1

oflo_in : (s k : ℕ) → In s k → eqb (oflo_bit s) 1 ≡ code k
oflo_in s k h =
    let p : s % 2 ^ 34 ≡ s = omega arith in
    let q : s / 2 ^ 31 ≡ k = omega arith in
    let o : s / 2 ^ 32 ≡ k / 2 = omega arith in
    simp (p, q, o)

oflo_le : (s i j a b : ℕ) → code i ≡ true → code j ≡ false → (a ≤ b → In s i) → (b < a → In s j) → eqb (oflo_bit s) 1 ≡ leb a b
oflo_le s i j a b p q f g =
    by_le a b (λ h. oflo_in s i (f h) ∙ (p ∙ sym (le-leb a b h))) (λ h. oflo_in s j (g h) ∙ (q ∙ sym (lt-leb a b h)))

oflo_none : (s i j b : ℕ) → code i ≡ false → code j ≡ false → (b ≤ s → In s i) → (s < b → In s j) → eqb (oflo_bit s) 1 ≡ false
oflo_none s i j b p q f g = by_le b s (λ h. oflo_in s i (f h) ∙ p) (λ h. oflo_in s j (g h) ∙ q)

module _ (r m : ℕ) (hr : r < 2 ^ 32) (hm : m < 2 ^ 32) where
  pub add_value : sum r m % 2 ^ 32 ≡ (r + m) % 2 ^ 32
  add_value =
      signs r m
      (λ a b. value_is (low r a) (low m b) ∙ omega arith)
      (λ a b. value_is (low r a) (high m b hm) ∙ omega arith)
      (λ a b. value_is (high r a hr) (low m b) ∙ omega arith)
      (λ a b. value_is (high r a hr) (high m b hm) ∙ omega arith)

  pub add_carry : carried (sum r m) r m ≡ leb (2 ^ 32) (r + m)
  add_carry =
      signs r m
      (λ a b. carry_is (low r a) (low m b) ∙ bit_le (carry_bit (r + m) 0) (2 ^ 32) (r + m) (omega arith) (omega arith))
      (λ a b. carry_is (low r a) (high m b hm) ∙ bit_le (carry_bit (r + (2 ^ 32 + m)) 1) (2 ^ 32) (r + m) (omega arith) (omega arith))
      (λ a b. carry_is (high r a hr) (low m b) ∙ bit_le (carry_bit (2 ^ 32 + r + m) 1) (2 ^ 32) (r + m) (omega arith) (omega arith))
      (λ a b. carry_is (high r a hr) (high m b hm) ∙ bit_le (carry_bit (2 ^ 32 + r + (2 ^ 32 + m)) 2) (2 ^ 32) (r + m) (omega arith) (omega arith))

  pub add_overflow : overflowed (sum r m) ≡ overflows (signed r +ℤ signed m)
  add_overflow =
      signs r m
      (λ a b. rw (signed_low r a, signed_low m b)
      (oflo_is (low r a) (low m b) ∙ oflo_le (r + m) 1 0 (2 ^ 31) (r + m) refl refl (omega arith) (omega arith)))
      (λ a b. rw (signed_low r a, signed_high m b hm)
      (oflo_is (low r a) (high m b hm) ∙ (oflo_none (r + (2 ^ 32 + m)) 4 3 (2 ^ 33) refl refl (omega arith) (omega arith) ∙ sym (inside r (suc (2 ^ 32 - suc m)) (omega arith) (omega arith)))))
      (λ a b. rw (signed_high r a hr, signed_low m b)
      (oflo_is (high r a hr) (low m b) ∙ (oflo_none (2 ^ 32 + r + m) 4 3 (2 ^ 33) refl refl (omega arith) (omega arith) ∙ sym (inside m (suc (2 ^ 32 - suc r)) (omega arith) (omega arith)))))
      (λ a b. rw (signed_high r a hr, signed_high m b hm)
      (oflo_is (high r a hr) (high m b hm)
      ∙ (oflo_le (2 ^ 32 + r + (2 ^ 32 + m)) 6 7 (2 ^ 31) (suc (2 ^ 32 - suc r + (2 ^ 32 - suc m))) refl refl (omega arith) (omega arith)
      ∙ sym (or-false (leb (2 ^ 31) (suc (2 ^ 32 - suc r + (2 ^ 32 - suc m))))))))

-- ---- the difference

-- the 33 low bits of a difference are those of x + (2 ^ 33 - e)
neg_zero : (e : ℕ) → e ≡ 0 → negated e ≡ 0
neg_zero e h = simp (eq-eqb e 0 h)

neg_more : (e : ℕ) → 1 ≤ e → e < 2 ^ 33 → negated e ≡ 2 ^ 33 - e
neg_more e h k = simp (ne_eqb e 0 (omega arith)) (omega arith)

neg_bits : (x e : ℕ) → x < 2 ^ 33 → e < 2 ^ 33 → (x + negated e) % 2 ^ 34 % 2 ^ 33 ≡ (x + (2 ^ 33 - e)) % 2 ^ 33
neg_bits x e hx he =
    by_le 1 e
    (λ h. rw (neg_more e h he) (omega arith))
    (λ h. rw (neg_zero e (omega arith)) (omega arith))

-- bits 32 and 31, and the low word, lie in the 33 low bits
top_bit : (s : ℕ) → s / 2 ^ 32 % 2 ≡ s % 2 ^ 33 / 2 ^ 32
top_bit s = omega arith

next_bit : (s : ℕ) → s / 2 ^ 31 % 2 ≡ s % 2 ^ 33 / 2 ^ 31 % 2
next_bit s = omega arith

low_word : (s : ℕ) → s % 2 ^ 32 ≡ s % 2 ^ 33 % 2 ^ 32
low_word s = omega arith

module _ {r m x e s t : ℕ} (ex : Ext r x s) (ey : Ext m e t) (hx : x < 2 ^ 33) (he : e < 2 ^ 33) where
  dif_33 : difference r m % 2 ^ 33 ≡ (x + (2 ^ 33 - e)) % 2 ^ 33
  dif_33 = simp (ex.word, ey.word) (neg_bits x e hx he)

  dif_32 : difference r m / 2 ^ 32 % 2 ≡ (x + (2 ^ 33 - e)) / 2 ^ 32 % 2
  dif_32 = top_bit (difference r m) ∙ (ap (λ (u : ℕ). u / 2 ^ 32) dif_33 ∙ sym (top_bit (x + (2 ^ 33 - e))))

  dif_31 : difference r m / 2 ^ 31 % 2 ≡ (x + (2 ^ 33 - e)) / 2 ^ 31 % 2
  dif_31 = next_bit (difference r m) ∙ (ap (λ (u : ℕ). u / 2 ^ 31 % 2) dif_33 ∙ sym (next_bit (x + (2 ^ 33 - e))))

  sub_value_is : difference r m % 2 ^ 32 ≡ (x + (2 ^ 33 - e)) % 2 ^ 32
  sub_value_is = low_word (difference r m) ∙ (ap (λ (u : ℕ). u % 2 ^ 32) dif_33 ∙ sym (low_word (x + (2 ^ 33 - e))))

  module _ (k : ℕ) (h : In (x + (2 ^ 33 - e)) k) where
    at_31 : (x + (2 ^ 33 - e)) / 2 ^ 31 ≡ k
    at_31 = omega arith

    at_32 : (x + (2 ^ 33 - e)) / 2 ^ 32 ≡ k / 2
    at_32 = omega arith

    less_at : bit_of 32 (difference r m) ≡ eqb (k / 2 % 2) 1
    less_at = ap (λ (b : ℕ). eqb b 1) (dif_32 ∙ ap (λ (b : ℕ). b % 2) at_32)

    oflo_at : overflowed (difference r m) ≡ code k
    oflo_at = ap (λ (b : ℕ). ◌XOR◌ (eqb b 1) (bit_of 31 (difference r m))) dif_32
        ∙ (ap (λ (b : ℕ). ◌XOR◌ (eqb ((x + (2 ^ 33 - e)) / 2 ^ 32 % 2) 1) (eqb b 1)) dif_31
        ∙ (xor_bits ((x + (2 ^ 33 - e)) / 2 ^ 32) ((x + (2 ^ 33 - e)) / 2 ^ 31) ∙ simp (at_32, at_31)))

    borrow_at : carried (difference r m) r m ≡ eqb ((k / 2 + (s + t)) % 2) 1
    borrow_at = ap (λ (b : ℕ). ◌XOR◌ (eqb b 1) (◌XOR◌ (bit_of 31 r) (bit_of 31 m))) dif_32
        ∙ simp (xor_bits) (simp (ex.top, ey.top, at_32))

-- what LESS, OFLO and BORROW are where the difference lies in the k-th stretch and o of the words are negative
record Dif (r m k o : ℕ) : Type 0 where
  less_k : bit_of 32 (difference r m) ≡ eqb (k / 2 % 2) 1
  oflo_k : overflowed (difference r m) ≡ code k
  borrow_k : carried (difference r m) r m ≡ eqb ((k / 2 + o) % 2) 1

dif : {r m x e s t : ℕ} → Ext r x s → Ext m e t → x < 2 ^ 33 → e < 2 ^ 33 → (k : ℕ) → In (x + (2 ^ 33 - e)) k → Dif r m k (s + t)
dif ex ey hx he k h = record { less_k = less_at ex ey hx he k h; oflo_k = oflo_at ex ey hx he k h; borrow_k = borrow_at ex ey hx he k h }

-- the difference of two naturals as integers
minus : (a b : ℕ) → pos a -ℤ pos b ≡ sub_ℕ a b
minus a zero = simp (le-ltb a 0 (omega arith)) (ap pos (omega arith))
minus a (suc b) = refl

negsuc_minus : (a b : ℕ) → negsuc a -ℤ pos b ≡ negsuc (a + b)
negsuc_minus a zero = simp (lt-ltb 0 (suc a) (omega arith)) (ap negsuc (omega arith))
negsuc_minus a (suc b) = ap negsuc (omega arith)

module _ (r m : ℕ) (hr : r < 2 ^ 32) (hm : m < 2 ^ 32) where
  pub sub_value : difference r m % 2 ^ 32 ≡ (r + (2 ^ 32 - m)) % 2 ^ 32
  sub_value =
      signs r m
      (λ a b. sub_value_is (low r a) (low m b) (omega arith) (omega arith) ∙ omega arith)
      (λ a b. sub_value_is (low r a) (high m b hm) (omega arith) (omega arith) ∙ omega arith)
      (λ a b. sub_value_is (high r a hr) (low m b) (omega arith) (omega arith) ∙ omega arith)
      (λ a b. sub_value_is (high r a hr) (high m b hm) (omega arith) (omega arith) ∙ omega arith)

  -- the eight ways: the two signs, and on which side of a multiple of 2 ^ 31 the difference lies
  difs : {P : Type 0} →
      (r < 2 ^ 31 → m < 2 ^ 31 → m ≤ r → Dif r m 4 0 → P) → (r < 2 ^ 31 → m < 2 ^ 31 → r < m → Dif r m 3 0 → P) →
      (r < 2 ^ 31 → 2 ^ 31 ≤ m → 2 ^ 31 + m ≤ r + 2 ^ 32 → Dif r m 1 1 → P) → (r < 2 ^ 31 → 2 ^ 31 ≤ m → r + 2 ^ 32 < 2 ^ 31 + m → Dif r m 0 1 → P) →
      (2 ^ 31 ≤ r → m < 2 ^ 31 → 2 ^ 31 + m ≤ r → Dif r m 7 1 → P) → (2 ^ 31 ≤ r → m < 2 ^ 31 → r < 2 ^ 31 + m → Dif r m 6 1 → P) →
      (2 ^ 31 ≤ r → 2 ^ 31 ≤ m → m ≤ r → Dif r m 4 2 → P) → (2 ^ 31 ≤ r → 2 ^ 31 ≤ m → r < m → Dif r m 3 2 → P) → P
  difs f1 f2 f3 f4 f5 f6 f7 f8 =
      signs r m
      (λ a b. by_le m r
      (λ h. f1 a b h (dif (low r a) (low m b) (omega arith) (omega arith) 4 (omega arith)))
      (λ h. f2 a b h (dif (low r a) (low m b) (omega arith) (omega arith) 3 (omega arith))))
      (λ a b. by_le (2 ^ 31 + m) (r + 2 ^ 32)
      (λ h. f3 a b h (dif (low r a) (high m b hm) (omega arith) (omega arith) 1 (omega arith)))
      (λ h. f4 a b h (dif (low r a) (high m b hm) (omega arith) (omega arith) 0 (omega arith))))
      (λ a b. by_le (2 ^ 31 + m) r
      (λ h. f5 a b h (dif (high r a hr) (low m b) (omega arith) (omega arith) 7 (omega arith)))
      (λ h. f6 a b h (dif (high r a hr) (low m b) (omega arith) (omega arith) 6 (omega arith))))
      (λ a b. by_le m r
      (λ h. f7 a b h (dif (high r a hr) (high m b hm) (omega arith) (omega arith) 4 (omega arith)))
      (λ h. f8 a b h (dif (high r a hr) (high m b hm) (omega arith) (omega arith) 3 (omega arith))))

  pub sub_borrow : carried (difference r m) r m ≡ ltb r m
  sub_borrow =
      difs
      (λ a b h d. d.borrow_k ∙ sym (le-ltb r m h))
      (λ a b h d. d.borrow_k ∙ sym (lt-ltb r m h))
      (λ a b h d. d.borrow_k ∙ sym (lt-ltb r m (omega arith)))
      (λ a b h d. d.borrow_k ∙ sym (lt-ltb r m (omega arith)))
      (λ a b h d. d.borrow_k ∙ sym (le-ltb r m (omega arith)))
      (λ a b h d. d.borrow_k ∙ sym (le-ltb r m (omega arith)))
      (λ a b h d. d.borrow_k ∙ sym (le-ltb r m h))
      (λ a b h d. d.borrow_k ∙ sym (lt-ltb r m h))

  pub sub_less : bit_of 32 (difference r m) ≡ lt_z (signed r) (signed m)
  sub_less =
      difs
      (λ a b h d. rw (signed_low r a, signed_low m b) (d.less_k ∙ sym (le-ltb r m h)))
      (λ a b h d. rw (signed_low r a, signed_low m b) (d.less_k ∙ sym (lt-ltb r m h)))
      (λ a b h d. rw (signed_low r a, signed_high m b hm) d.less_k)
      (λ a b h d. rw (signed_low r a, signed_high m b hm) d.less_k)
      (λ a b h d. rw (signed_high r a hr, signed_low m b) d.less_k)
      (λ a b h d. rw (signed_high r a hr, signed_low m b) d.less_k)
      (λ a b h d. rw (signed_high r a hr, signed_high m b hm) (d.less_k ∙ sym (le-ltb (2 ^ 32 - suc m) (2 ^ 32 - suc r) (omega arith))))
      (λ a b h d. rw (signed_high r a hr, signed_high m b hm) (d.less_k ∙ sym (lt-ltb (2 ^ 32 - suc m) (2 ^ 32 - suc r) (omega arith))))

  pub sub_overflow : overflowed (difference r m) ≡ overflows (signed r -ℤ signed m)
  sub_overflow =
      difs
      (λ a b h d. rw (signed_low r a, signed_low m b, minus) (d.oflo_k ∙ sym (inside r m (omega arith) (omega arith))))
      (λ a b h d. rw (signed_low r a, signed_low m b, minus) (d.oflo_k ∙ sym (inside r m (omega arith) (omega arith))))
      (λ a b h d. rw (signed_low r a, signed_high m b hm) (d.oflo_k ∙ sym (le-leb (2 ^ 31) (r + suc (2 ^ 32 - suc m)) (omega arith))))
      (λ a b h d. rw (signed_low r a, signed_high m b hm) (d.oflo_k ∙ sym (lt-leb (2 ^ 31) (r + suc (2 ^ 32 - suc m)) (omega arith))))
      (λ a b h d. rw (signed_high r a hr, signed_low m b, negsuc_minus) (d.oflo_k ∙ sym (ap (λ (t : Bool). t || false) (lt-leb (2 ^ 31) (2 ^ 32 - suc r + m) (omega arith)))))
      (λ a b h d. rw (signed_high r a hr, signed_low m b, negsuc_minus) (d.oflo_k ∙ sym (ap (λ (t : Bool). t || false) (le-leb (2 ^ 31) (2 ^ 32 - suc r + m) (omega arith)))))
      (λ a b h d. rw (signed_high r a hr, signed_high m b hm) (d.oflo_k ∙ sym (inside (suc (2 ^ 32 - suc m)) (suc (2 ^ 32 - suc r)) (omega arith) (omega arith))))
      (λ a b h d. rw (signed_high r a hr, signed_high m b hm) (d.oflo_k ∙ sym (inside (suc (2 ^ 32 - suc m)) (suc (2 ^ 32 - suc r)) (omega arith) (omega arith))))

  add_sum : ADD32 (r, m) ≡ (sum r m % 2 ^ 32, carried (sum r m) r m, overflowed (sum r m))
  unfolding ADD32
  add_sum = simp (signext_is r hr, signext_is m hm, trim34_is, el_31, el_31_34, el_32_34)

  sub_difference : SUB32 (r, m) ≡ (difference r m % 2 ^ 32, carried (difference r m) r m, overflowed (difference r m))
  unfolding SUB32
  sub_difference = simp (signext_is r hr, signext_is m hm, neg_is (extended m) (signext_lt m hm), trim34_is, el_31, el_31_34, el_32_34)

  -- What ADD32 and SUB32 deliver: the word, carry or borrow, and overflow exactly when the signed result leaves -2^31 to 2^31 - 1.
  pub add_is : ADD32 (r, m) ≡ ((r + m) % 2 ^ 32, leb (2 ^ 32) (r + m), overflows (signed r +ℤ signed m))
  add_is = rw (add_sum, add_value r m hr hm, add_carry r m hr hm, add_overflow r m hr hm)

  pub sub_is : SUB32 (r, m) ≡ ((r + (2 ^ 32 - m)) % 2 ^ 32, ltb r m, overflows (signed r -ℤ signed m))
  sub_is = rw (sub_difference, sub_value, sub_borrow, sub_overflow)
