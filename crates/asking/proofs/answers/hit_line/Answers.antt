-- What is still to come has room after each text.
-- Assumes nothing.
use Rattle.std.proofs.Common.{arith, length-append}
use Rattle.text.proofs.Digits.{twenty_digits, hex_length}
use Rattle.asking.proofs.answers.hit_line.Goals as goal

pub push_register-requires-2 : goal.push_register-requires-2
push_register-requires-2 c = (omega arith, grind (arith, length-append, twenty_digits, hex_length))

pub push_register-requires-3 : goal.push_register-requires-3
push_register-requires-3 c = (omega arith, grind (arith, length-append, twenty_digits, hex_length))

pub push_text-requires-2 : goal.push_text-requires-2
push_text-requires-2 c = (omega arith, grind (arith, length-append, twenty_digits, hex_length))
