-- A number's digits: those of its tenth, or sixteenth, and one more.
-- Assumes nothing.
use Prim.Native.Nat.{ℕ, zero, suc, ◌+◌, ◌*◌, ◌-◌, ◌/◌, ◌%◌, ◌^◌, ◌≤◌, ◌<◌}
use mathlib.Core.Path.{◌≡◌, refl}
use mathlib.Core.Bool.{Bool, true, false}
use mathlib.Core.List.{[], ◌∷◌, ◌++◌}
use native.Mathlib.Omega.{arith}
use native.Mathlib.Nat.{add-zero, add-suc}
use native.Mathlib.Numerals.{add-one, sub-one}
use lib.Arith.{digits_div, digits_mod, mod-mul}
use lib.Dec.{ltb}
use lib.ListN.{length, length-append}
use borrow.Author.Tests.{ltb-true, ltb-false, lt-ltb, le-ltb}
use Rattle.text.specs.Digits.{digit, decimal_in, decimal, hex}

-- The bound on the number of digits does not matter once it is large enough.
enough : (k l n : ℕ) → n ≤ k → n ≤ l → decimal_in k n ≡ decimal_in l n
unfolding decimal_in
enough zero zero n h g = refl
enough zero (suc l) n h g = rw (lt-ltb n 10 (omega arith))
enough (suc k) zero n h g = rw (lt-ltb n 10 (omega arith))
enough (suc k) (suc l) n h g = go (ltb n 10) refl (enough k l (n / 10))
  where
    go : (t : Bool)
        → ltb n 10 ≡ t
        → (n / 10 ≤ k → n / 10 ≤ l → decimal_in k (n / 10) ≡ decimal_in l (n / 10))
        → decimal_in (suc k) n ≡ decimal_in (suc l) n
    go true e same = rw e
    go false e same = rw (e, same (omega (arith, ltb-false n 10 e)) (omega (arith, ltb-false n 10 e)))

pub decimal_last : (n : ℕ) → n < 10 → decimal n ≡ digit n ∷ []
unfolding decimal decimal_in
decimal_last zero h = refl
decimal_last (suc n) h = rw (lt-ltb (suc n) 10 h)

pub decimal_more : (n : ℕ) → 10 ≤ n → decimal n ≡ decimal (n / 10) ++ (digit (n % 10) ∷ [])
unfolding decimal decimal_in
decimal_more zero h = absurd (omega arith)
decimal_more (suc n) h =
    rw (le-ltb (suc n) 10 h, enough n (suc n / 10) (suc n / 10) (omega arith) (omega arith))

pub decimal_longer : (n : ℕ) → 10 ≤ n → length (decimal n) ≡ length (decimal (n / 10)) + 1
decimal_longer n h = rw (decimal_more n h, length-append)

-- One more than the largest number of k + 1 decimal digits.
abbrev pub tens : ℕ → ℕ
tens zero = 10
tens (suc k) = 10 * tens k

decimal_length : (k n : ℕ) → n < tens k → length (decimal n) ≤ suc k
decimal_length zero n h = rw (decimal_last n h) (omega arith)
decimal_length (suc k) n h = go (ltb n 10) refl (decimal_length k (n / 10))
  where
    go : (t : Bool) → ltb n 10 ≡ t → (n / 10 < tens k → length (decimal (n / 10)) ≤ suc k) → length (decimal n) ≤ suc (suc k)
    go true e fewer = rw (decimal_last n (ltb-true n 10 e)) (omega arith)
    go false e fewer =
        rw (decimal_longer n (ltb-false n 10 e)) (omega (arith, fewer (omega arith)))

-- A number below 2^64 has at most twenty digits.
pub twenty_digits : (n : ℕ) → n < 2 ^ 64 → length (decimal n) ≤ 20
twenty_digits n h = decimal_length 19 n (omega arith)

-- So those of its tenth leave room for one more among twenty.
pub one_more_fits : (n : ℕ) → 10 ≤ n → n < 2 ^ 64 → length (decimal (n / 10)) + 1 ≤ 20
one_more_fits n g h = rw (← decimal_longer n g) (twenty_digits n h)

pub hex_length : (width n : ℕ) → length (hex width n) ≡ width
unfolding hex
hex_length zero n = refl
hex_length (suc width) n = rw (length-append, hex_length width (n / 16), add-one)

pub hex_more : (width n : ℕ) → 0 < width → hex width n ≡ hex (width - 1) (n / 16) ++ (digit (n % 16) ∷ [])
unfolding hex
hex_more zero n h = absurd (omega arith)
hex_more (suc width) n h = rw sub-one

-- One more than the largest number of k hex digits.
abbrev pub sixteens : ℕ → ℕ
sixteens zero = 1
sixteens (suc k) = 16 * sixteens k

pub sixteens_grow : (k m : ℕ) → sixteens k ≤ sixteens (k + m)
sixteens_grow k zero = rw add-zero (omega arith)
sixteens_grow k (suc m) = rw add-suc (omega (arith, sixteens_grow k m))

sixteens_some : (k : ℕ) → 0 < sixteens k
sixteens_some zero = omega arith
sixteens_some (suc k) = omega (arith, sixteens_some k)

last_digits : (k n : ℕ) → hex k n ≡ hex k (n % sixteens k)
unfolding hex
last_digits zero n = refl
last_digits (suc k) n =
    let high = n / 16 % sixteens k in
    let m : 16 * sixteens k ≡ sixteens k * 16 = omega arith in
    let low : n % 16 < 16 = omega arith in
    rw (m, mod-mul n {c = 16} (sixteens_some k) (omega arith), digits_div high low, digits_mod high low, ← last_digits k (n / 16))

-- Five hex digits are those of the low 20 bits.
pub low_bits : (n : ℕ) → hex 5 n ≡ hex 5 (n % 1048576)
low_bits n = last_digits 5 n
