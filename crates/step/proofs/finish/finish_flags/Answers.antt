-- The record is that of an operation that changed no register and no word.
use mathlib.Core.Path.{refl}
use mathlib.Core.List.{List}
use Prim.Native.Nat.{ℕ}
use Rattle.report.specs.AnnexA.{Mem}
use Rattle.std.specs.Prelude.{None}
use Rattle.step.specs.Phases.{held, alone}
use Rattle.step.proofs.Completing.{kept_values, completes_full, completes}
use Rattle.step.proofs.finish.finish_flags.Goals as goal

pub returns-in_err-used : goal.returns-in_err-used
returns-in_err-used c =
    let a = c.args in
    λ (r : Mem) (g : List ℕ). completes_full (held g a.p0 a.b0 _) (alone (held g a.p a.b a.stop)) r a.trail.now a.used None _ _ _ refl (kept_values g a.p0 a.p a.b0 a.b a.stop None) c.add_flags.ensures c.in_err-used.was c.from_residual.result g c.from_residual.ensures.1

pub returns : goal.returns
returns c =
    let a = c.args in
    λ (r : Mem) (g : List ℕ). completes (held g a.p0 a.b0 _) (alone (held g a.p a.b a.stop)) r a.trail.now a.used None _ _ _ refl (kept_values g a.p0 a.p a.b0 a.b a.stop None) c.add_flags.ensures c.in_ok-used.used r c.in_ok-used.was refl
