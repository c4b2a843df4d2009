-- The bad line is at most the one after those that main has room for, so one more is a number too.
-- Assumes nothing.
use Rattle.std.proofs.Common.{arith}
use Rattle.counter.proofs.Reading.{bad_line_within}
use Rattle.who.proofs.load_and_tell.Goals as goal

pub overflow_add-n : goal.overflow_add-n
overflow_add-n g c = omega (arith, bad_line_within c.in-Err.is c.load.ensures)
