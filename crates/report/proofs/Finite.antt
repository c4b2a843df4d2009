-- A test that antt computes at every one of finitely many values holds of each of them. So a rule over the 1,024 classes or over flags is one computation.
-- Assumes nothing.
use mathlib.Core.Path.{◌≡◌, refl, subst}
use mathlib.Core.Bool.{Bool, true, false, ◌&&◌, beq}
use Prim.Native.Nat.{ℕ, zero, suc, ◌/◌, ◌%◌, ◌^◌, ◌<◌}
use native.Mathlib.Omega.{arith}
use lib.Dec.{T}
use Rattle.report.specs.Parts.{msf, dsf, csf, fsf, of}
use Rattle.report.proofs.Bits.{by_le}

pub both_left : (a b : Bool) → T (a && b) → T a
both_left true b t = tt
both_left false b t = t

pub both_right : (a b : Bool) → T (a && b) → T b
both_right true b t = t
both_right false b t = absurd t

pub same : (a b : Bool) → T (beq a b) → a ≡ b
same true true t = refl
same true false t = absurd t
same false true t = absurd t
same false false t = refl

-- the test passes at each number below n
abbrev pub all : (ℕ → Bool) → ℕ → Bool
all f zero = true
all f (suc n) = f n && all f n

pub below : (f : ℕ → Bool) (n : ℕ) → T (all f n) → (k : ℕ) → k < n → T (f k)
below f zero t k h = let z : ⊥ = omega arith in absurd z
below f (suc n) t k h =
    by_le n k
    (λ g. let e : n ≡ k = omega arith in subst (λ (i : ℕ). T (f i)) e (both_left (f n) (all f n) t))
    (λ g. below f n (both_right (f n) (all f n) t) k g)

-- the test passes at both flags
abbrev pub flags : (Bool → Bool) → Bool
flags f = f true && f false

pub flag : (f : Bool → Bool) → T (flags f) → (b : Bool) → T (f b)
flag f t true = both_left (f true) (f false) t
flag f t false = both_right (f true) (f false) t

-- a test on the fields, at the class k: the number of bits 29-20
abbrev pub at_class : (ℕ → ℕ → ℕ → ℕ → Bool) → ℕ → Bool
at_class t k = t (k / 256) (k / 32 % 8) (k / 16 % 2) (k % 16)

-- two tests on the fields that agree at the 1,024 classes agree at every word
pub over : (f g : ℕ → ℕ → ℕ → ℕ → Bool) → T (all (λ (k : ℕ). beq (at_class f k) (at_class g k)) 1024) → (w : ℕ) → of f w ≡ of g w
over f g t w =
    let m : w / 2 ^ 20 % 1024 / 256 ≡ msf w = omega arith in
    let d : w / 2 ^ 20 % 1024 / 32 % 8 ≡ dsf w = omega arith in
    let c : w / 2 ^ 20 % 1024 / 16 % 2 ≡ csf w = omega arith in
    let e : w / 2 ^ 20 % 1024 % 16 ≡ fsf w = omega arith in
    let k = w / 2 ^ 20 % 1024 in
    let r : at_class f k ≡ at_class g k = same _ _ (below (λ (i : ℕ). beq (at_class f i) (at_class g i)) 1024 t k (omega arith)) in
    rw (m, d, c, e) at r
