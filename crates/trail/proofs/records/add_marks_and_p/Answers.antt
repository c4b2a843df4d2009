-- `add_marks_and_p` meets its contract: the record is made whole, has at most 28 bytes, and is copied.
-- Assumes nothing.
use mathlib.Core.Path.{ap, ◌∙◌}
use native.Mathlib.Omega.{arith}
use Rattle.trail.specs.Records.{added}
use Rattle.trail.proofs.Lengths.{p_fits}
use Rattle.trail.proofs.records.add_marks_and_p.Goals as goal

pub slice_bounds-copy-end : goal.slice_bounds-copy-end
slice_bounds-copy-end c =
    let f = c.fill_marks_and_p.ensures in
    omega (arith, f.place, p_fits c.args.marks c.requires.2)

pub returns : goal.returns
returns c =
    c.copy.ensures
    ∙ ap (added _ _) c.fill_marks_and_p.ensures.bytes
