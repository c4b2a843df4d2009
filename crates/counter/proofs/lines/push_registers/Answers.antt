-- What is still to come has room after each text.
-- Assumes nothing.
use Rattle.std.proofs.Common.{arith, ◌≡◌, ℕ, List, ◌++◌, length-append, append_assoc}
use Rattle.text.proofs.Digits.{hex_length}
use Rattle.counter.specs.Lines.{registers}
use Rattle.counter.proofs.Lengths.{flag_length}
use Rattle.counter.proofs.lines.push_registers.Goals as goal

pub push_register-requires-2 : goal.push_register-requires-2
push_register-requires-2 c = (omega arith, grind (arith, length-append, hex_length, flag_length))

pub push_register-requires-3 : goal.push_register-requires-3
push_register-requires-3 c = (omega arith, grind (arith, length-append, hex_length, flag_length))

pub push_register-requires-4 : goal.push_register-requires-4
push_register-requires-4 c = (omega arith, grind (arith, length-append, hex_length, flag_length))

pub push_flag-requires : goal.push_flag-requires
push_flag-requires c = grind (arith, length-append, hex_length, flag_length)

pub push_flag-requires-2 : goal.push_flag-requires-2
push_flag-requires-2 c = simp (
  c.push_flag.ensures,
  c.push_register-4.ensures,
  c.push_register-3.ensures,
  c.push_register-2.ensures,
  c.push_register.ensures,
  length-append,
  hex_length,
  flag_length,
) (omega arith)

-- Six texts pushed one after the other.
six : (before a b c d e f : List ℕ) {one two three four five after : List ℕ}
    → one ≡ before ++ a
    → two ≡ one ++ b
    → three ≡ two ++ c
    → four ≡ three ++ d
    → five ≡ four ++ e
    → after ≡ five ++ f
    → after ≡ before ++ (a ++ b ++ c ++ d ++ e ++ f)
six before a b c d e f g h i j k l = rw (l, k, j, i, h, g) (simp append_assoc)

pub returns : goal.returns
unfolding registers
returns c =
    six _ _ _ _ _ _ _
    c.push_register.ensures
    c.push_register-2.ensures
    c.push_register-3.ensures
    c.push_register-4.ensures
    c.push_flag.ensures
    c.push_flag-2.ensures
