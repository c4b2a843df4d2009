-- A number that names a place is that place's, and no other's.
-- Assumes nothing.
use Prim.Native.Nat.{ℕ, ◌-◌, ◌^◌}
use mathlib.Core.Path.{◌≡◌, ap, sym}
use mathlib.Core.Bool.{Bool, true, false, cond}
use native.Mathlib.Omega.{arith}
use lib.Dec.{ltb, eqb}
use borrow.Author.Tests.{eq-eqb, eqb-true}
use Rattle.report.specs.Parts.{Where}
use Rattle.machine.specs.Held.{where_of}
use Rattle.machine.specs.declared.Place.{Place}
use Rattle.machine.specs.declared.Place.TheVariants.{Main, Port}
use Rattle.trail.specs.Records.{where_of_number}
use Rattle.seeking.specs.Seeking.{names}

pub names_where : (q : Place) (n : ℕ) → names q n ≡ true → where_of_number n ≡ where_of q
names_where (Main a) n p = go (ltb n (2 ^ 20)) p
  where
    go : (t : Bool) → cond t (eqb n a.0) false ≡ true → ◌≡◌ {A = Where} (cond t (false, n) (true, n - 2 ^ 20)) (false, a.0)
    go true e = ap (λ (k : ℕ). (false, k)) (eqb-true n a.0 e)
    go false e = let z : ◌≡◌ {A = ℕ} 0 1 = cc in absurd (omega arith)
names_where (Port a) n p = go (ltb n (2 ^ 20)) p
  where
    go : (t : Bool) → cond t false (eqb (n - 2 ^ 20) a.0) ≡ true → ◌≡◌ {A = Where} (cond t (false, n) (true, n - 2 ^ 20)) (true, a.0)
    go true e = let z : ◌≡◌ {A = ℕ} 0 1 = cc in absurd (omega arith)
    go false e = ap (λ (k : ℕ). (true, k)) (eqb-true (n - 2 ^ 20) a.0 e)

pub where_names : (q : Place) (n : ℕ) → where_of_number n ≡ where_of q → names q n ≡ true
where_names (Main a) n p = go (ltb n (2 ^ 20)) p
  where
    go : (t : Bool) → ◌≡◌ {A = Where} (cond t (false, n) (true, n - 2 ^ 20)) (false, a.0) → cond t (eqb n a.0) false ≡ true
    go true e = eq-eqb n a.0 (ap (λ (w : Where). w.1) e)
    go false e = sym (ap (λ (w : Where). w.0) e)
where_names (Port a) n p = go (ltb n (2 ^ 20)) p
  where
    go : (t : Bool) → ◌≡◌ {A = Where} (cond t (false, n) (true, n - 2 ^ 20)) (true, a.0) → cond t false (eqb (n - 2 ^ 20) a.0) ≡ true
    go true e = ap (λ (w : Where). w.0) e
    go false e = eq-eqb (n - 2 ^ 20) a.0 (ap (λ (w : Where). w.1) e)
