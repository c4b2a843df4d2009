-- `put_number` meets its contract: at the loop's head, what is put and the groups of `left` make up the whole. Each turn, `left` falls.
-- Assumes nothing.
use Rattle.trail.proofs.Putting.{Putting}
use Rattle.trail.proofs.numbers.put_number.Given as goal

abbrev pub invariant-loop-left : goal.invariant-loop-left
invariant-loop-left l = Putting l.initial.bytes l.at l.n l.bytes l.left l.next

abbrev pub decreases-loop-left : goal.decreases-loop-left
decreases-loop-left l = l.left
