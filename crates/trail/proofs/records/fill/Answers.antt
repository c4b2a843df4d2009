-- `fill` meets its contract: each number is put after those before it, and L after them all; the sizes of the numbers leave room for each.
-- Assumes nothing.
use mathlib.Core.Bool.{true}
use native.Mathlib.Omega.{arith}
use Rattle.trail.specs.Records.{record_in}
use Rattle.trail.proofs.Lengths.{sizes, body_sum, same_length}
use Rattle.std.proofs.Common.{◌^◌, le_refl}
use Rattle.trail.proofs.Putting.{put_then, put_count}
use Rattle.trail.proofs.records.fill.Goals as goal

pub put_number-at_p-requires : goal.put_number-at_p-requires
put_number-at_p-requires c = omega (arith, same_length c.kind_number.ensures, sizes true (le_refl (2 ^ 21)) c.requires.0)

pub put_number-at_a-requires : goal.put_number-at_a-requires
put_number-at_a-requires c = omega (arith, same_length c.kind_number.ensures, sizes true (le_refl (2 ^ 21)) c.requires.0)

pub put_if-at_x-requires : goal.put_if-at_x-requires
put_if-at_x-requires c = omega (arith, same_length c.kind_number.ensures, sizes true (le_refl (2 ^ 21)) c.requires.0)

pub put_if-at_y-requires : goal.put_if-at_y-requires
put_if-at_y-requires c = omega (arith, same_length c.kind_number.ensures, sizes true (le_refl (2 ^ 21)) c.requires.0)

pub put_if-at_place-requires : goal.put_if-at_place-requires
put_if-at_place-requires c = omega (arith, same_length c.kind_number.ensures, sizes true (le_refl (2 ^ 21)) c.requires.0)

pub put_if-at_value-requires : goal.put_if-at_value-requires
put_if-at_value-requires c = omega (arith, same_length c.kind_number.ensures, sizes true (le_refl (2 ^ 21)) c.requires.0)

pub put_if-n-requires : goal.put_if-n-requires
put_if-n-requires c = omega (arith, same_length c.kind_number.ensures, sizes true (le_refl (2 ^ 21)) c.requires.0)

pub overflow_cast-bytes : goal.overflow_cast-bytes
overflow_cast-bytes c = omega (arith, same_length c.kind_number.ensures, body_sum c.args.o, c.requires.1)

pub bounds-bytes-n : goal.bounds-bytes-n
bounds-bytes-n c = omega (arith, same_length c.kind_number.ensures, body_sum c.args.o, c.requires.1)

pub overflow_add-result : goal.overflow_add-result
overflow_add-result c = omega (arith, same_length c.kind_number.ensures, body_sum c.args.o, c.requires.1)

pub returns : goal.returns
unfolding record_in
returns c =
    rw (← c.kind_number.ensures) (put_count
    (put_then c.put_number-at_marks.ensures
    (put_then c.put_number-at_p.ensures
    (put_then c.put_number-at_a.ensures
    (put_then c.put_if-at_x.ensures
    (put_then c.put_if-at_y.ensures
    (put_then c.put_if-at_place.ensures
    (put_then c.put_if-at_value.ensures
    c.put_if-n.ensures)))))))
    (omega (arith, same_length c.kind_number.ensures, body_sum c.args.o, c.requires.1)))
