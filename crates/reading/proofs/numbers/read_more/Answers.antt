use native.Mathlib.Omega.{arith}
use Rattle.reading.proofs.ReadingGroups.{starts, ran_out, one_more, too_many, too_large, ends, goes_on}
use Rattle.reading.proofs.numbers.read_more.Goals as goal

pub loop-next-init : goal.loop-next-init
loop-next-init c = starts c.args.bytes.now c.args.at c.args.end c.args.first (omega arith) (omega arith)

pub returns-then-b-eq0 : goal.returns-then-b-eq0
returns-then-b-eq0 c = too_many c.loop-next.invariant c.args.bound (omega arith) (omega arith) (omega arith) c.if-b-eq0.true

pub returns-then-n-bound : goal.returns-then-n-bound
returns-then-n-bound c = ends c.loop-next.invariant c.args.bound (omega arith) (omega arith) (omega arith) c.if-b-eq0.false (omega arith)

pub returns-then-b-lt128 : goal.returns-then-b-lt128
returns-then-b-lt128 c = too_large c.loop-next.invariant c.args.bound (omega arith) (omega arith) (omega arith) c.if-b-eq0.false (omega arith)

pub returns-then-scale-bound : goal.returns-then-scale-bound
returns-then-scale-bound c = one_more c.loop-next.invariant c.args.bound (omega arith) (omega arith)

pub loop-next-preserved : goal.loop-next-preserved
loop-next-preserved c =
    let l = c.loop-next in
    let byte = c.type_inv.bytes l.next in
    goes_on l.invariant (omega arith) (omega arith) (omega arith) (omega arith)

pub returns : goal.returns
returns c = ran_out c.loop-next.invariant c.args.bound (omega arith) (omega arith)
