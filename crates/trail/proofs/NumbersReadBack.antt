-- A number reads back whatever follows it, and what reads as a number is exactly the bytes that would be written for it:
-- by induction on the number of groups, since a number of more than one group has a later part that is not 0.
-- Assumes nothing.
use Prim.Native.Nat.{ℕ, zero, suc, ◌+◌, ◌-◌, ◌*◌, ◌/◌, ◌%◌, ◌<◌, ◌≤◌}
use mathlib.Core.Path.{◌≡◌, refl, ap, sym, ◌∙◌}
use mathlib.Core.List.{List, [], ◌∷◌, ◌++◌}
use mathlib.Core.Bool.{Bool, true, false, cond}
use native.Mathlib.Omega.{arith}
use lib.Dec.{ltb}
use borrow.Author.Tests.{ltb-true, ltb-false, lt-ltb, le-ltb, ne_eqb}
use Rattle.trail.specs.Numbers.{groups_in, groups, bytes_if, Read, got, broken, over, read_in, below, read_below, read_if, GoodIf}

-- ---- the two shapes of a number's bytes

-- Once k is at least n, it does not matter.
enough : (k l n : ℕ) → n ≤ k → n ≤ l → groups_in k n ≡ groups_in l n
unfolding groups_in
enough zero zero n h g = refl
enough zero (suc l) n h g = rw (lt-ltb n 128 (omega arith))
enough (suc k) zero n h g = rw (lt-ltb n 128 (omega arith))
enough (suc k) (suc l) n h g = go (ltb n 128) refl (enough k l (n / 128))
  where
    go : (t : Bool) → ltb n 128 ≡ t → (n / 128 ≤ k → n / 128 ≤ l → groups_in k (n / 128) ≡ groups_in l (n / 128)) → groups_in (suc k) n ≡ groups_in (suc l) n
    go true e ih = rw e
    go false e ih = rw (e, ih (omega (arith, ltb-false n 128 e)) (omega (arith, ltb-false n 128 e)))

pub groups_one : (n : ℕ) → n < 128 → groups n ≡ n ∷ []
unfolding groups groups_in
groups_one zero h = refl
groups_one (suc n) h = rw (lt-ltb (suc n) 128 h)

pub groups_more : (n : ℕ) → 128 ≤ n → groups n ≡ (128 + n % 128) ∷ groups (n / 128)
unfolding groups groups_in
groups_more zero h = absurd (omega arith)
groups_more (suc n) h =
    rw (le-ltb (suc n) 128 h, enough n (suc n / 128) (suc n / 128) (omega arith) (omega arith))

-- ---- k + 1 groups hold the numbers below cap k

abbrev pub cap : ℕ → ℕ
cap zero = 128
cap (suc k) = 128 * cap k

pub cap_low : (k : ℕ) → 128 ≤ cap k
cap_low zero = omega arith
cap_low (suc k) = omega (arith, cap_low k)

-- A number reads back, whatever follows.
pub read_groups : (k n : ℕ) (rest : List ℕ) → n < cap k → read_in k (groups n ++ rest) ≡ got n rest
read_groups zero n rest h = rw (groups_one n h, lt-ltb n 128 h)
read_groups (suc k) n rest h = go (ltb n 128) refl (read_groups k (n / 128) rest)
  where
    go : (t : Bool)
        → ltb n 128 ≡ t
        → (n / 128 < cap k → read_in k (groups (n / 128) ++ rest) ≡ got (n / 128) rest)
        → read_in (suc k) (groups n ++ rest) ≡ got n rest
    go true e ih = rw (groups_one n (ltb-true n 128 e), e)
    go false e ih =
        let l = ltb-false n 128 e in
        rw (groups_more n l, le-ltb (128 + n % 128) 128 (omega arith), lt-ltb (128 + n % 128) 256 (omega arith), ih (omega arith), ne_eqb (n / 128) 0 (omega arith))
        (ap (λ (m : ℕ). got m rest) (omega arith))

-- Some number of groups holds each number, so two numbers of the same bytes are the same.
cap_high : (n : ℕ) → n < cap n
cap_high zero = omega arith
cap_high (suc n) = omega (arith, cap_high n)

pub groups_injective : (m n : ℕ) → groups m ≡ groups n → m ≡ n
groups_injective m n e =
    let a = read_groups (m + n) m [] (omega (arith, cap_high (m + n))) in
    let b : read_in (m + n) (groups m ++ []) ≡ got n [] = rw e (read_groups (m + n) n [] (omega (arith, cap_high (m + n)))) in
    let c : got m [] ≡ got n [] = sym a ∙ b in
    cc

-- What reads as n and a rest is the bytes of n, and that rest.
pub read_only : (k : ℕ) (s : List ℕ) (n : ℕ) (rest : List ℕ) → read_in k s ≡ got n rest → (s ≡ groups n ++ rest) × (n < cap k)
read_only zero [] n rest p = let z : ◌≡◌ {A = ℕ} 0 1 = cc in absurd (omega arith)
read_only zero (b ∷ s) n rest p = go (ltb b 128) refl
  where
    go : (t : Bool) → ltb b 128 ≡ t → (b ∷ s ≡ groups n ++ rest) × (n < 128)
    go true e =
        let q : got b s ≡ got n rest = rw e at p in
        let m : b ≡ n = cc in
        let l = ltb-true b 128 e in
        (rw (groups_one n (omega arith)) (cc), omega arith)
    go false e =
        let q : broken ≡ got n rest = rw e at p in
        let z : ◌≡◌ {A = ℕ} 0 1 = cc in
        absurd (omega arith)
read_only (suc k) [] n rest p = let z : ◌≡◌ {A = ℕ} 0 1 = cc in absurd (omega arith)
read_only (suc k) (b ∷ s) n rest p = go (ltb b 128) (ltb b 256) refl refl (read_only k s)
  where
    deep : (r : Read)
        → read_in k s ≡ r
        → 128 ≤ b
        → b < 256
        → over (b - 128) r ≡ got n rest
        → ((m : ℕ) (t : List ℕ) → read_in k s ≡ got m t → (s ≡ groups m ++ t) × (m < cap k))
        → (b ∷ s ≡ groups n ++ rest) × (n < 128 * cap k)
    deep broken e l h q ih = let z : ◌≡◌ {A = ℕ} 0 1 = cc in absurd (omega arith)
    deep (got zero t) e l h q ih = let z : ◌≡◌ {A = ℕ} 0 1 = cc in absurd (omega arith)
    deep (got (suc m) t) e l h q ih =
        let w = ih (suc m) t e in
        let q' : got (b - 128 + 128 * suc m) t ≡ got n rest = rw (ne_eqb (suc m) 0 (omega arith)) at q in
        let v : b - 128 + 128 * suc m ≡ n = cc in
        let u : t ≡ rest = cc in
        let lo : 128 + n % 128 ≡ b = omega arith in
        let hi : n / 128 ≡ suc m = omega arith in
        (rw (groups_more n (omega arith), lo, hi, ← u, ← w.0), omega arith)

    go : (t u : Bool)
        → ltb b 128 ≡ t
        → ltb b 256 ≡ u
        → ((m : ℕ) (t : List ℕ) → read_in k s ≡ got m t → (s ≡ groups m ++ t) × (m < cap k))
        → (b ∷ s ≡ groups n ++ rest) × (n < 128 * cap k)
    go true u e f ih =
        let q : got b s ≡ got n rest = rw e at p in
        let m : b ≡ n = cc in
        let l = ltb-true b 128 e in
        (rw (groups_one n (omega arith)) (cc), omega (arith, cap_low k))
    go false true e f ih =
        let q : over (b - 128) (read_in k s) ≡ got n rest = rw (e, f) at p in
        deep (read_in k s) refl (ltb-false b 128 e) (ltb-true b 256 f) q ih
    go false false e f ih =
        let q : broken ≡ got n rest = rw (e, f) at p in
        let z : ◌≡◌ {A = ℕ} 0 1 = cc in
        absurd (omega arith)

-- ---- the same below a bound, and for a number that may be marked

below_groups : (bound n : ℕ) (rest : List ℕ) → bound ≤ cap 4 → n < bound → read_below bound (groups n ++ rest) ≡ got n rest
below_groups bound n rest h l = rw (read_groups 4 n rest (omega arith), lt-ltb n bound l)

below_only : (bound : ℕ) (s : List ℕ) (n : ℕ) (rest : List ℕ) → read_below bound s ≡ got n rest → (s ≡ groups n ++ rest) × (n < bound)
below_only bound s n rest p = go (read_in 4 s) refl p
  where
    at : (m : ℕ) (t : List ℕ) (b : Bool) → read_in 4 s ≡ got m t → ltb m bound ≡ b → cond b (got m t) broken ≡ got n rest → (s ≡ groups n ++ rest) × (n < bound)
    at m t true e f q =
        let v : m ≡ n = cc in
        let w : read_in 4 s ≡ got n rest = cc in
        let l = ltb-true m bound f in
        ((read_only 4 s n rest w).0, omega arith)
    at m t false e f q = let z : ◌≡◌ {A = ℕ} 0 1 = cc in absurd (omega arith)

    go : (r : Read) → read_in 4 s ≡ r → below bound r ≡ got n rest → (s ≡ groups n ++ rest) × (n < bound)
    go broken e q = let z : ◌≡◌ {A = ℕ} 0 1 = cc in absurd (omega arith)
    go (got m t) e q = at m t (ltb m bound) e refl q

pub read_bytes_if : (t : Bool) (bound n : ℕ) (rest : List ℕ) → bound ≤ cap 4 → GoodIf t bound n → read_if t bound (bytes_if t n ++ rest) ≡ got n rest
read_bytes_if true bound n rest h g = below_groups bound n rest h g
read_bytes_if false bound n rest h g = ap (λ (m : ℕ). got m rest) (sym g)

pub read_if_only : (t : Bool) (bound : ℕ) (s : List ℕ) (n : ℕ) (rest : List ℕ) → read_if t bound s ≡ got n rest → (s ≡ bytes_if t n ++ rest) × GoodIf t bound n
read_if_only true bound s n rest p = below_only bound s n rest p
read_if_only false bound s n rest p = (cc, cc)
