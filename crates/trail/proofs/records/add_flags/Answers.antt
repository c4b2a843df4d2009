-- `add_flags` meets its contract: the short records are those that `add` would make.
-- Assumes nothing.
use mathlib.Core.Path.{refl}
use native.Mathlib.Omega.{arith}
use Rattle.trail.proofs.NumbersReadBack.{groups_one}
use Rattle.trail.proofs.ShortRecords.{groups_two, adds_kept}
use Rattle.trail.proofs.records.add_flags.Goals as goal

pub returns-then-p-lt128 : goal.returns-then-p-lt128
returns-then-p-lt128 c =
    let a = c.args in
    adds_kept a.trail.now a.used a.p a.b a.stop
    (omega (arith, c.flags-marks.ensures.0))
    (groups_one a.p c.if-p-lt128.true)
    c.add_short.ensures

pub returns-then-p-lt16384 : goal.returns-then-p-lt16384
returns-then-p-lt16384 c =
    let a = c.args in
    adds_kept a.trail.now a.used a.p a.b a.stop
    (omega (arith, c.flags-marks.ensures.0))
    (groups_two c.if-p-lt128.false c.if-p-lt16384.true c.group.ensures)
    c.add_short-then-p-lt16384.ensures

pub returns : goal.returns
returns c =
    let a = c.args in
    adds_kept a.trail.now a.used a.p a.b a.stop
    (omega (arith, c.flags-marks.ensures.0))
    refl
    c.add_marks_and_p.ensures
