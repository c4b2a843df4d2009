-- What is fitted has an address of twenty bits, and a result put at its destination keeps the stores.
-- Assumes nothing.
use mathlib.Core.Path.{◌≡◌, refl}
use mathlib.Core.Bool.{Bool, true, false, cond, ◌||◌, true≢false}
use Prim.Native.Nat.{ℕ, ◌+◌, ◌%◌, ◌^◌, ◌<◌, ◌≤◌}
use native.Mathlib.Omega.{arith}
use lib.Dec.{eqb}
use lib.ListN.{length}
use borrow.Author.Tests.{ltb-true}
use Rattle.report.specs.AnnexA.{Mem}
use Rattle.report.specs.Section3.{State, Triple}
use Rattle.report.specs.Parts.{Where, fitted, placed}

pub either_false : (a b : Bool) → (a || b) ≡ false → (a ≡ false) × (b ≡ false)
either_false true b h = absurd (true≢false h)
either_false false b h = (refl, h)

pub fitted_low : (r : Mem) (q : Where) → length r.main ≤ 2 ^ 20 → length r.ports ≤ 2 ^ 20 → fitted r q ≡ true → q.1 < 2 ^ 20
unfolding fitted
fitted_low r (true, n) hm hp e = omega (arith, ltb-true n (length r.ports) e)
fitted_low r (false, n) hm hp e = omega (arith, ltb-true n (length r.main) e)

pub placed_stores : (df ff : ℕ) (r : Mem) (p a x y : ℕ) (t : Triple) → (placed df ff r p a x y t).0 ≡ r
unfolding placed
placed_stores df ff r p a x y (v, b, s) = go (eqb df 0) (eqb df 1) (eqb df 2) (eqb ff 1)
  where
    n : ℕ
    n = (p + 1) % 2 ^ 20

    stores : State → Mem
    stores q = q.0

    go : (t₀ t₁ t₂ t₃ : Bool)
        → stores (cond t₀ (r, n, v, x, y, b, s) (cond t₁ (r, n, a, v, y, b, s) (cond t₂ (r, n, a, x, v, b, s) (cond t₃ (r, v % 2 ^ 20, a, x, p + 1, b, s) (r, v % 2 ^ 20, a, x, y, b, s))))) ≡ r
    go true t₁ t₂ t₃ = refl
    go false true t₂ t₃ = refl
    go false false true t₃ = refl
    go false false false true = refl
    go false false false false = refl
