-- `put_record` meets its contract: L, the bytes before it, copied one after the other, and the kind before those.
-- Assumes nothing.
use Rattle.std.specs.Prelude.{◌+◌, length}
use Rattle.trail.proofs.Adding.{Copying}
use Rattle.moving.proofs.writing.put_record.Given as goal

abbrev pub invariant-loop-i : goal.invariant-loop-i
invariant-loop-i l = Copying l.initial.out (l.at + l.lead) l.kept (length l.kept) l.out l.i
