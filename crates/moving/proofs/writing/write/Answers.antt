use native.Mathlib.Omega.{arith}
use Rattle.moving.proofs.Backwards.{starts, reaches, asked, goes_back, ends}
use Rattle.moving.proofs.writing.write.Goals as goal

pub loop-used-init : goal.loop-used-init
loop-used-init c = starts c.requires

pub overflow_sub-start-in-loop-used : goal.overflow_sub-start-in-loop-used
overflow_sub-start-in-loop-used c = omega (arith, reaches c.loop-used.invariant c.loop-used-test.true)

pub put_record-to-requires : goal.put_record-to-requires
put_record-to-requires c = asked c.loop-used.invariant c.loop-used-test.true

pub loop-used-preserved : goal.loop-used-preserved
loop-used-preserved c = goes_back c.loop-used.invariant c.loop-used-test.true c.put_record-to.ensures

pub returns : goal.returns
returns c = ends c.loop-used.invariant c.loop-used-test.false
