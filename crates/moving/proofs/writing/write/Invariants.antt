-- `write` meets its contract: what is put and what is still to be put are the whole moved trail, at every turn.
-- Assumes nothing.
use Rattle.moving.proofs.Backwards.{Writing}
use Rattle.moving.proofs.writing.write.Given as goal

abbrev pub invariant-loop-used : goal.invariant-loop-used
invariant-loop-used l = Writing l.new l.s l.initial.out l.total l.out l.used l.to

abbrev pub decreases-loop-used : goal.decreases-loop-used
decreases-loop-used l = l.used
