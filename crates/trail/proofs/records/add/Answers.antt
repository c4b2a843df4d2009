-- `add` meets its contract: the record is whole before room is judged.
-- Assumes nothing.
use mathlib.Core.Path.{ap, ◌∙◌}
use native.Mathlib.Omega.{arith}
use Rattle.trail.specs.Records.{added}
use Rattle.trail.proofs.Lengths.{record_count}
use Rattle.trail.proofs.records.add.Goals as goal

pub slice_bounds-copy-end : goal.slice_bounds-copy-end
slice_bounds-copy-end c =
    let f = c.fill.ensures in
    omega (arith, f.place, record_count c.args.o, c.requires.2)

pub returns : goal.returns
returns c =
    let a = c.args in
    c.copy.ensures ∙ ap (added _ _) c.fill.ensures.bytes
