-- The report's exclusive or, (r OR m) AND NOT (r AND m), is the bitwise exclusive or of numbers: bit by bit, for every width.
-- Assumes nothing.
use mathlib.Core.Path.{◌≡◌, refl, sym, ap, ◌∙◌}
use Prim.Native.Nat.{ℕ, zero, suc, min, max, ◌*◌, ◌+◌, ◌-◌, ◌/◌, ◌%◌, ◌^◌, ◌<◌, ◌≤◌}
use native.Mathlib.Omega.{arith}
use lib.Bits.{bit_and, bit_or, bit_xor, differ, and_step, or_step, xor_step, and_lt, and_block}
use Rattle.report.proofs.Bits.{by_le}

-- a bit is 0 or 1
bits : (a b : ℕ) (P : ℕ → ℕ → Type 0) → P 0 0 → P 0 1 → P 1 0 → P 1 1 → P (a % 2) (b % 2)
bits a b P p q r s =
    by_le 1 (a % 2)
    (λ h. by_le 1 (b % 2)
    (λ k. let e : a % 2 ≡ 1 = omega arith in let f : b % 2 ≡ 1 = omega arith in rw (e, f) s)
    (λ k. let e : a % 2 ≡ 1 = omega arith in let f : b % 2 ≡ 0 = omega arith in rw (e, f) r))
    (λ h. by_le 1 (b % 2)
    (λ k. let e : a % 2 ≡ 0 = omega arith in let f : b % 2 ≡ 1 = omega arith in rw (e, f) q)
    (λ k. let e : a % 2 ≡ 0 = omega arith in let f : b % 2 ≡ 0 = omega arith in rw (e, f) p))

max_bit : (a b : ℕ) → max (a % 2) (b % 2) < 2
max_bit a b = omega arith

not_min_bit : (a b : ℕ) → 1 - min (a % 2) (b % 2) < 2
not_min_bit a b = omega arith

halves : (n A i d : ℕ) → d ≡ A * 2 + i → A < n → i ≤ 1 → (n - 1 - A) * 2 + (1 - i) ≡ n * 2 - 1 - d
halves n A i d e h k = omega arith

min_bit : (a b : ℕ) → min (a % 2) (b % 2) ≤ 1
min_bit a b = omega arith

pow_two : (k : ℕ) → 2 ^ k * 2 ≡ 2 ^ suc k
pow_two k = omega arith

-- the report's exclusive or: r OR m, and not both
pub xor_by : (k a b : ℕ) → a < 2 ^ k → b < 2 ^ k → bit_xor a b ≡ bit_and (bit_or a b) (2 ^ k - 1 - bit_and a b)
xor_by zero a b ha hb =
    let e : a ≡ 0 = omega arith in
    let f : b ≡ 0 = omega arith in
    rw (e, f) refl
xor_by (suc k) a b ha hb =
    let O = bit_or (a / 2) (b / 2) in
    let A = bit_and (a / 2) (b / 2) in
    let p : a / 2 < 2 ^ k = omega arith in
    let q : b / 2 < 2 ^ k = omega arith in
    let e : (2 ^ k - 1 - A) * 2 + (1 - min (a % 2) (b % 2)) ≡ 2 ^ suc k - 1 - bit_and a b = halves (2 ^ k) A (min (a % 2) (b % 2)) (bit_and a b) (and_step a b) (and_lt k (a / 2) (b / 2) p q) (min_bit a b) ∙ ap (λ (n : ℕ). n - 1 - bit_and a b) (pow_two k) in
    xor_step a b
    ∙ (ap (λ (x : ℕ). x * 2 + differ (a % 2) (b % 2)) (xor_by k (a / 2) (b / 2) p q)
    ∙ (ap (λ (d : ℕ). bit_and O (2 ^ k - 1 - A) * 2 + d) (bits a b (λ (x y : ℕ). differ x y ≡ bit_and (max x y) (1 - min x y)) refl refl refl refl)
    ∙ (sym (and_block 1 O (2 ^ k - 1 - A) (max (a % 2) (b % 2)) (1 - min (a % 2) (b % 2)) (max_bit a b) (not_min_bit a b))
    ∙ (ap (λ (x : ℕ). bit_and x ((2 ^ k - 1 - A) * 2 + (1 - min (a % 2) (b % 2)))) (sym (or_step a b))
    ∙ ap (λ (x : ℕ). bit_and (bit_or a b) x) e))))
