use mathlib.Core.Path.{sym}
use Rattle.reading.proofs.ReadingNumbers.{the_error}
use Rattle.moving.proofs.Counting.{goes_down, goes_on, stops, ends}
use Rattle.moving.proofs.judging.count_records.Goals as goal

pub returns-in_err-used : goal.returns-in_err-used
returns-in_err-used c =
    rw (the_error c.from_residual.result c.from_residual.ensures.0) (sym (stops c.loop-used.invariant c.loop-used-test.true c.in_err-used.ensures))

pub loop-used-smaller : goal.loop-used-smaller
loop-used-smaller c = goes_down c.loop-used.invariant c.loop-used-test.true c.in_ok-used.ensures

pub loop-used-preserved : goal.loop-used-preserved
loop-used-preserved c = goes_on c.loop-used.invariant c.loop-used-test.true c.in_ok-used.ensures

pub returns : goal.returns
returns c = sym (ends c.loop-used.invariant c.loop-used-test.false)
