-- What is still to come has room after each text.
-- Assumes nothing.
use Rattle.std.proofs.Common.{arith, length-append}
use Rattle.text.proofs.Digits.{twenty_digits}
use Rattle.counter.proofs.lines.push_in_use.Goals as goal

pub push_decimal-requires : goal.push_decimal-requires
push_decimal-requires c = (omega arith, grind (arith, length-append, twenty_digits))

pub push_text-requires-2 : goal.push_text-requires-2
push_text-requires-2 c = (omega arith, grind (arith, length-append, twenty_digits))
