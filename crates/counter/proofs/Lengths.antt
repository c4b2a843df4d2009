-- How long the texts are that a line is made of: each is a few letters and digits, all but the decimals of a fixed count.
-- Assumes nothing.
use Prim.Native.Nat.{ℕ, ◌+◌, ◌≤◌}
use mathlib.Core.Path.{◌≡◌, refl}
use mathlib.Core.Bool.{Bool, true, false}
use native.Mathlib.Omega.{arith}
use lib.ListN.{length, length-append}
use Rattle.machine.specs.declared.Machine.{Machine}
use Rattle.machine.specs.declared.Ending.{Ending}
use Rattle.machine.specs.declared.Ending.TheVariants.{Stopped, Budget, Unfitted, Full}
use Rattle.text.specs.Digits.{decimal}
use Rattle.counter.specs.Lines.{flag, name, registers, in_use}
use Rattle.text.proofs.Digits.{hex_length}

pub flag_length : (b : Bool) → length (flag b) ≡ 1
flag_length true = refl
flag_length false = refl

pub name_length : (e : Ending) → length (name e) ≤ 8
name_length Stopped = omega arith
name_length Budget = omega arith
name_length Unfitted = omega arith
name_length Full = omega arith

pub registers_length : (m : Machine) → length (registers m) ≡ 49
unfolding registers
registers_length m = simp (length-append, hex_length, flag_length)

pub in_use_length : (used : ℕ) → length (in_use used) ≡ length (decimal used) + 8
unfolding in_use
in_use_length used = simp length-append (omega arith)
