-- `add_word` meets its contract: number by number.
-- Assumes nothing.
use Prim.Native.Nat.{◌^◌, ◌<◌}
use mathlib.Core.Path.{ap, ◌∙◌}
use native.Mathlib.Omega.{arith}
use Rattle.std.specs.Prelude.{Some}
use Rattle.trail.specs.Records.{added, place_number}
use Rattle.trail.proofs.Marks.{good_place}
use Rattle.trail.proofs.ShortRecords.{as_word}
use Rattle.trail.proofs.records.add_word.Goals as goal

pub add_value-requires : goal.add_value-requires
add_value-requires c =
    let a = c.args in
    let k = c.flags.ensures in
    let q : place_number a.place < 2 ^ 21 = good_place (Some (record { place = a.place; value = a.old })) c.requires.2 in
    (omega arith, omega (arith, k), omega arith, omega (arith, c.place_number.ensures))

pub returns : goal.returns
returns c =
    let a = c.args in
    c.add_value.ensures
    ∙ ap (added _ _) (as_word a.p a.b a.stop a.place a.old c.flags.ensures.0 c.place_number.ensures)
