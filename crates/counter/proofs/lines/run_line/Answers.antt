-- What is still to come has room after each text.
-- Assumes nothing.
use Rattle.std.proofs.Common.{arith, length-append}
use Rattle.text.proofs.Digits.{twenty_digits}
use Rattle.counter.proofs.Lengths.{name_length, registers_length}
use Rattle.counter.proofs.lines.run_line.Goals as goal

pub push_text-requires-3 : goal.push_text-requires-3
push_text-requires-3 c = (omega arith, grind (arith, length-append, twenty_digits, name_length, registers_length))

pub push_registers-requires : goal.push_registers-requires
push_registers-requires c = grind (arith, length-append, twenty_digits, name_length, registers_length)

pub push_in_use-requires : goal.push_in_use-requires
push_in_use-requires c = grind (arith, length-append, twenty_digits, name_length, registers_length)
