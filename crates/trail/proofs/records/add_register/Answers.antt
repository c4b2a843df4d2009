-- `add_register` meets its contract: each of the three ways adds the record that `add` would make.
-- Assumes nothing.
use mathlib.Core.Path.{ap, ◌∙◌}
use native.Mathlib.Omega.{arith}
use Rattle.trail.specs.Records.{added}
use Rattle.trail.proofs.ShortRecords.{as_register, register_few, register_closed}
use Rattle.trail.proofs.records.add_register.Goals as goal

pub overflow_add-marks : goal.overflow_add-marks
overflow_add-marks c = omega (arith, register_few c.requires.2)

pub overflow_cast-marks : goal.overflow_cast-marks
overflow_cast-marks c = omega (arith, register_few c.requires.2, c.flags.ensures)

pub returns-then-p-lt128 : goal.returns-then-p-lt128
returns-then-p-lt128 c =
    let a = c.args in
    c.add_with_p_of_one_byte.ensures
    ∙ ap (added _ _) (register_closed c.requires.2 a.p a.b a.stop a.old c.flags.ensures.0)

pub overflow_cast-marks-then-p-lt16384 : goal.overflow_cast-marks-then-p-lt16384
overflow_cast-marks-then-p-lt16384 c = omega (arith, register_few c.requires.2, c.flags.ensures)

pub returns-then-p-lt16384 : goal.returns-then-p-lt16384
returns-then-p-lt16384 c =
    let a = c.args in
    c.add_with_p_of_two_bytes.ensures
    ∙ ap (added _ _) (register_closed c.requires.2 a.p a.b a.stop a.old c.flags.ensures.0)

pub add_value-requires : goal.add_value-requires
add_value-requires c =
    omega (arith, c.requires, register_few c.requires.2, c.flags.ensures)

pub returns : goal.returns
returns c =
    let a = c.args in
    c.add_value.ensures
    ∙ ap (added _ _) (as_register c.requires.2 a.p a.b a.stop a.old c.flags.ensures.0)
