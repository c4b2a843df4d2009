-- Refusals 1 to 4, or a run of one step.
use Prim.{tt}
use mathlib.Core.Path.{◌≡◌, refl, ap}
use lib.ListN.{length}
use Rattle.std.specs.Prelude.{Ok, ◌⊎◌}
use Rattle.std.proofs.Common.{inl, inr}
use Rattle.machine.specs.declared.Ending.{Ending}
use Rattle.machine.specs.declared.Ending.TheVariants as ending
use Rattle.viper.specs.Judging.{ran_told}
use Rattle.viper.specs.Operations as operations
use Rattle.viper.proofs.Exits.{answer_by, passed, refused_first, stepped_once, step_refused}
use Rattle.viper.proofs.calls.step.Goals as goal

pub returns-in_err-judge : goal.returns-in_err-judge
returns-in_err-judge c =
    let a = c.args in
    refused_first a.m a.main.now a.ports.now a.trail.now a.used operations.step c.judge.result _ c.from_residual.result refl c.judge.ensures c.in_err-judge.was c.from_residual.ensures.1

answered_by : (e : Ending) → (e ≡ ending.Stopped) ⊎ (e ≡ ending.Budget) → answer_by e ≡ Ok tt
answered_by e h = elim h [ inl k ↦ ap answer_by k | inr k ↦ ap answer_by k ]

pub returns-in-Stopped : goal.returns-in-Stopped
returns-in-Stopped c =
    let a = c.args in
    let o = c.advance-ran in
    rw (answered_by o.result.ending c.in-Stopped.is) at
    (stepped_once a.m a.main.now a.ports.now a.trail.now a.used (passed a.m.p (length a.main.now) (length a.ports.now) (length a.trail.now) a.used c.judge.result c.judge.ensures c.in_ok-judge.was) c.if-m.false
    (ran_told o.result o.new.main o.new.ports o.new.trail) o.ensures)

pub returns-in-Unfitted : goal.returns-in-Unfitted
returns-in-Unfitted c =
    let a = c.args in
    let o = c.advance-ran in
    step_refused a.m a.main.now a.ports.now a.trail.now a.used (passed a.m.p (length a.main.now) (length a.ports.now) (length a.trail.now) a.used c.judge.result c.judge.ensures c.in_ok-judge.was) c.if-m.false (ran_told o.result o.new.main o.new.ports o.new.trail) _ _ _ o.ensures refl refl (ap answer_by c.in-Unfitted.is)

pub returns-in-Full : goal.returns-in-Full
returns-in-Full c =
    let a = c.args in
    let o = c.advance-ran in
    step_refused a.m a.main.now a.ports.now a.trail.now a.used (passed a.m.p (length a.main.now) (length a.ports.now) (length a.trail.now) a.used c.judge.result c.judge.ensures c.in_ok-judge.was) c.if-m.false (ran_told o.result o.new.main o.new.ports o.new.trail) _ _ _ o.ensures refl refl (ap answer_by c.in-Full.is)
