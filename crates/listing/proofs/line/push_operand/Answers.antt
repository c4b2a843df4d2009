-- A blank, five digits, and at most two signs: as many bytes as the operand has, and one.
-- Assumes nothing.
use Rattle.std.proofs.Common.{arith, ap, length, length-append}
use Rattle.text.proofs.Digits.{hex_length}
use Rattle.listing.proofs.line.push_operand.Goals as goal

pub push_hex-requires : goal.push_hex-requires
push_hex-requires c =
    let whole = simp (length-append, hex_length) at (ap length (c.signs.ensures.around c.args.f.addr)) in
    (omega arith, rw (c.push_text.ensures, c.push.ensures) (simp length-append (omega arith)))

pub push_text-requires-2 : goal.push_text-requires-2
push_text-requires-2 c =
    let whole = simp (length-append, hex_length) at (ap length (c.signs.ensures.around c.args.f.addr)) in
    (omega arith, rw (c.push_hex.ensures, c.push_text.ensures, c.push.ensures) (simp (length-append, hex_length) (omega arith)))
