-- The record is that of an operation that changed this register, or none if the value is the same.
use mathlib.Core.Path.{◌≡◌, refl}
use mathlib.Core.Bool.{Bool, false}
use mathlib.Core.List.{List}
use Prim.Native.Nat.{ℕ, zero, suc, ◌<◌}
use native.Mathlib.Omega.{arith}
use lib.ListN.{length, get_or, set, length-set}
use Rattle.report.specs.AnnexA.{Mem}
use Rattle.trail.specs.OneChange.{Register, is_a, is_x, is_y, register_changed}
use Rattle.trail.specs.Records.{old_values}
use Rattle.trail.specs.declared.Kind.TheVariants as kind
use Rattle.std.specs.Prelude.{None}
use Rattle.step.specs.Phases.{held, alone}
use Rattle.step.specs.Finishing.{mark_weight}
use Rattle.step.proofs.Completing.{kept_same, register_values, completes_full, completes}
use Rattle.step.proofs.finish.finish_register.Goals as goal

weighs : (k : ℕ) → k < 3 → Register (mark_weight k)
weighs zero h = is_a
weighs (suc zero) h = is_x
weighs (suc (suc zero)) h = is_y
weighs (suc (suc (suc k))) h = absurd (omega arith)

-- Marked with m, the old value of register k is that of writing v to it.
changed : (g : List ℕ) (k v p₀ p : ℕ) (b₀ b stop : Bool) {m : ℕ} → length g ≡ 4 → k < 3 → (get_or g k 0 ≡ v → ⊥) → m ≡ mark_weight k
    → register_changed m p₀ b₀ false (get_or g k 0) ≡ old_values kind.Step (held g p₀ b₀ false) (held (set g k v) p b stop) None
changed g k v p₀ p b₀ b stop long low other marked = rw marked (register_values g k v p₀ p b₀ b stop (omega (arith, long)) low other)

pub add_register-requires : goal.add_register-requires
add_register-requires c =
    (c.requires.2, c.requires.1, rw c.mark_of.ensures (weighs c.args.k c.requires.0))

pub returns-in_err-used : goal.returns-in_err-used
returns-in_err-used c =
    let a = c.args in
    let old = changed a.sources.now a.k a.v a.p0 a.p a.b0 a.b a.stop c.requires.3 c.requires.0 c.if-old-v.false c.mark_of.ensures in
    (kept_same c.from_residual.result a.sources.now, λ (r : Mem). completes_full (held a.sources.now a.p0 a.b0 false) (alone (held (set a.sources.now a.k a.v) a.p a.b a.stop)) r a.trail.now a.used None _ _ _ refl old c.add_register.ensures c.in_err-used.was c.from_residual.result a.sources.now c.from_residual.ensures.1)

pub returns : goal.returns
returns c =
    let a = c.args in
    let old = changed a.sources.now a.k a.v a.p0 a.p a.b0 a.b a.stop c.requires.3 c.requires.0 c.if-old-v.false c.mark_of.ensures in (
      length-set a.sources.now a.k a.v,
      λ (r : Mem). completes (held a.sources.now a.p0 a.b0 false) (alone (held (set a.sources.now a.k a.v) a.p a.b a.stop)) r a.trail.now a.used None _ _ _ refl old c.add_register.ensures c.in_ok-used.used r c.in_ok-used.was refl,
    )
