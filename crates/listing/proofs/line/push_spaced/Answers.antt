-- What is still to come has room after the fields passed.
-- Assumes nothing.
use Rattle.std.proofs.Common.{arith, length-append}
use Rattle.listing.proofs.Spacing.{field_room}
use Rattle.listing.proofs.line.push_spaced.Goals as goal

pub push-requires : goal.push-requires
push-requires c =
    let room = field_room (omega arith) c.loop-field.invariant 24 c.requires in
    (omega arith, omega arith)

pub push_text-requires : goal.push_text-requires
push_text-requires c =
    let room = field_room (omega arith) c.loop-field.invariant 24 c.requires in
    (omega arith, rw c.push.ensures (simp length-append (omega arith)))
