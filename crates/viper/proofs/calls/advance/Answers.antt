-- Each turn is a step of the run, and each way out of the loop is one of its endings.
use mathlib.Core.Path.{◌≡◌, refl, ap, ◌∙◌}
use mathlib.Core.Bool.{false}
use Rattle.std.specs.Prelude.{Result}
use Rattle.machine.specs.Held.{ram}
use Rattle.step.specs.Phases.{held}
use Rattle.step.specs.Finishing.{came}
use Rattle.step.specs.declared.finish.Next.{Next}
use Rattle.step.specs.declared.finish.Undone.{Undone}
use Rattle.step.specs.declared.finish.Undone.TheVariants as undone
use Rattle.viper.proofs.Stepping.{leaves_stopped, leaves_budget, leaves_undone, goes_on_after}
use Rattle.viper.proofs.calls.advance.Goals.{then-stop, else-stop+then-steps-budget, else-stop+else-steps-budget+in-Err-Unfitted, else-stop+else-steps-budget+in-Err-Full}
use Rattle.viper.proofs.calls.advance.Goals as goal

pub loop-stop-preserved : goal.loop-stop-preserved
loop-stop-preserved c =
    let o = c.step_once in
    let g = o.new.sources in
    let n = c.in-Ok.next in
    let l = c.loop-stop in
    let e : l.stop ≡ false = c.if-stop.false in
    let k = rw e at l.invariant.0 in (
      goes_on_after k refl c.if-steps-budget.false (came o.result g) (held g n.p n.b n.stop) n.used o.new.main o.new.ports o.new.trail o.ensures.1 (ap (λ (x : Result Next Undone). came x g) c.in-Ok.is),
      (rw c.in-Ok.is at o.ensures.0) ∙ l.invariant.1,
    )

pub returns : goal.returns
returns c =
    let l = c.loop-stop in
    elim c.if-stop.branch [
      | then-stop w ↦
          rw (c.machine_held.ensures, w.main-is, w.ports-is, w.trail-is, w.sources-is, w.ending-is) (leaves_stopped l.invariant.0 w.if-stop.true)
      | else-stop+then-steps-budget w ↦
          rw (c.machine_held.ensures, w.main-is, w.ports-is, w.trail-is, w.sources-is, w.ending-is) (leaves_budget l.invariant.0 w.if-stop.false w.if-steps-budget.true)
      | else-stop+else-steps-budget+in-Err-Unfitted w ↦
          let o = w.step_once in
          rw (c.machine_held.ensures, w.main-is, w.ports-is, w.trail-is, w.sources-is, w.ending-is)
          (leaves_undone l.sources l.p l.b l.stop l.invariant.0 w.if-stop.false w.if-steps-budget.false o.result w.in-Err-Unfitted.field-0 undone.Unfitted o.new.sources (ram o.new.main o.new.ports) o.new.trail o.ensures.0 o.ensures.1 w.in-Err-Unfitted.is w.in-Err-Unfitted.field-0-is)
      | else-stop+else-steps-budget+in-Err-Full w ↦
          let o = w.step_once in
          rw (c.machine_held.ensures, w.main-is, w.ports-is, w.trail-is, w.sources-is, w.ending-is)
          (leaves_undone l.sources l.p l.b l.stop l.invariant.0 w.if-stop.false w.if-steps-budget.false o.result w.in-Err-Full.field-0 undone.Full o.new.sources (ram o.new.main o.new.ports) o.new.trail o.ensures.0 o.ensures.1 w.in-Err-Full.is w.in-Err-Full.field-0-is)
    ]
