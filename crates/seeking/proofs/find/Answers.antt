use mathlib.Core.Path.{sym, ◌∙◌}
use Rattle.seeking.proofs.Walking.{goes_on}
use Rattle.seeking.proofs.find.Goals as goal

pub loop-end-preserved : goal.loop-end-preserved
loop-end-preserved c = goes_on c.loop-end.invariant c.loop-end-test.true c.in_ok-record.ensures (sym c.holds.ensures ∙ c.if-holds.false)
