-- `add_value` meets its contract: the record is made whole, has at most 28 bytes, and is copied.
-- Assumes nothing.
use mathlib.Core.Path.{ap, ◌∙◌}
use native.Mathlib.Omega.{arith}
use Rattle.trail.specs.Records.{added}
use Rattle.trail.proofs.Lengths.{value_sizes, value_fits}
use Rattle.trail.proofs.records.add_value.Goals as goal

pub slice_bounds-copy-end : goal.slice_bounds-copy-end
slice_bounds-copy-end c =
    let f = c.fill_value.ensures in
    let z = value_sizes c.args.marks {v = c.args.v} c.requires.2 c.requires.3 (omega arith) in
    omega (arith, f.place, value_fits z)

pub returns : goal.returns
returns c =
    c.copy.ensures
    ∙ ap (added _ _) c.fill_value.ensures.bytes
