-- `put_if` meets its contract: by the mark, what `put_number` puts, or nothing.
-- Assumes nothing.
use Rattle.trail.proofs.Putting.{put_none}
use Rattle.trail.proofs.numbers.put_if.Goals as goal

pub returns-then-marked : goal.returns-then-marked
returns-then-marked c = rw c.if-marked.true c.put_number.ensures

pub returns : goal.returns
returns c = rw c.if-marked.false (put_none c.args.at c.args.bytes.now)
