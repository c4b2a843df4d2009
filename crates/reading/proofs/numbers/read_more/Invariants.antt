-- `read_more` meets its contract: at the loop's head, the whole number is `low`, under `scale` times what the bytes from `next` on give.
-- Each turn, one byte fewer is left.
-- Assumes nothing.
use Prim.Native.Nat.{◌-◌}
use Rattle.reading.proofs.ReadingGroups.{Reading}
use Rattle.reading.proofs.numbers.read_more.Given as goal

abbrev pub invariant-loop-next : goal.invariant-loop-next
invariant-loop-next l = Reading l.bytes l.at l.end l.first l.next l.low l.scale

abbrev pub decreases-loop-next : goal.decreases-loop-next
decreases-loop-next l = l.end - l.next
