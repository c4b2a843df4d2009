use native.Mathlib.Omega.{arith}
use Rattle.trail.proofs.Putting.{starts, room_left, goes_on, ends}
use Rattle.trail.proofs.numbers.put_number.Goals as goal

pub loop-left-init : goal.loop-left-init
loop-left-init c = starts c.args.bytes.now c.args.at c.args.n (omega arith) (omega arith)

pub bounds-bytes-next : goal.bounds-bytes-next
bounds-bytes-next c = omega (arith, room_left c.loop-left.invariant)

pub overflow_add-next : goal.overflow_add-next
overflow_add-next c = omega (arith, room_left c.loop-left.invariant)

pub loop-left-smaller : goal.loop-left-smaller
loop-left-smaller c = omega arith

pub loop-left-preserved : goal.loop-left-preserved
loop-left-preserved c = rw c.group.ensures (goes_on c.loop-left.invariant (omega arith))

pub overflow_cast-bytes : goal.overflow_cast-bytes
overflow_cast-bytes c = omega arith

pub bounds-bytes-next-2 : goal.bounds-bytes-next-2
bounds-bytes-next-2 c = omega (arith, room_left c.loop-left.invariant)

pub overflow_add-result : goal.overflow_add-result
overflow_add-result c = omega (arith, room_left c.loop-left.invariant)

pub returns : goal.returns
returns c = ends c.loop-left.invariant (omega arith)
