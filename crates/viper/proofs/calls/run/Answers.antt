-- Refusals 1 to 3, or the rule of a run.
use Rattle.viper.specs.Judging.{ran_told}
use Rattle.viper.proofs.Exits.{run_refused, run_ended}
use Rattle.viper.proofs.calls.run.Goals as goal

pub returns-in_err-judge : goal.returns-in_err-judge
returns-in_err-judge c =
    let a = c.args in
    run_refused a.m a.main.now a.ports.now a.trail.now a.used a.budget c.judge.result _ c.from_residual.result c.judge.ensures c.in_err-judge.was c.from_residual.ensures.1

pub returns : goal.returns
returns c =
    let a = c.args in
    let o = c.advance in
    run_ended a.m a.main.now a.ports.now a.trail.now a.used a.budget c.judge.result (ran_told o.result o.new.main o.new.ports o.new.trail) c.judge.ensures c.in_ok-judge.was o.ensures
