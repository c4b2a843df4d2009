-- What is still to come has room after each text.
-- Assumes nothing.
use Rattle.std.proofs.Common.{arith, length-append}
use Rattle.text.proofs.Digits.{twenty_digits}
use Rattle.counter.proofs.Lengths.{registers_length}
use Rattle.counter.proofs.lines.back_line.Goals as goal

pub push_in_use-requires : goal.push_in_use-requires
push_in_use-requires c = grind (arith, length-append, twenty_digits, registers_length)
