-- `find` meets its contract: the records asked do not hold the place, and those still to be asked decide, at every turn.
-- Assumes nothing.
use Rattle.seeking.proofs.Walking.{Seeking}
use Rattle.seeking.proofs.find.Given as goal

abbrev pub invariant-loop-end : goal.invariant-loop-end
invariant-loop-end l =
    Seeking l.main_words l.ports_words l.trail l.used l.place l.end l.back

abbrev pub decreases-loop-end : goal.decreases-loop-end
decreases-loop-end l = l.end
