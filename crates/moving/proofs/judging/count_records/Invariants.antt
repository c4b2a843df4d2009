-- `count_records` meets its contract: the records found and those still to be found are all, at every turn.
-- Assumes nothing.
use Rattle.moving.proofs.Counting.{Counting}
use Rattle.moving.proofs.judging.count_records.Given as goal

abbrev pub invariant-loop-used : goal.invariant-loop-used
invariant-loop-used l = Counting l.kinds l.s l.used l.n

abbrev pub decreases-loop-used : goal.decreases-loop-used
decreases-loop-used l = l.used
