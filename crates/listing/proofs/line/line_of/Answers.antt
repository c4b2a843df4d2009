-- There is room for the line feed.
-- Assumes nothing.
use Rattle.std.proofs.Common.{arith, length-append}
use Rattle.text.proofs.Digits.{hex_length}
use Rattle.listing.proofs.Lengths.{line_within}
use Rattle.listing.proofs.line.line_of.Goals as goal

pub push-requires : goal.push-requires
push-requires c = (
  omega arith,
  rw (c.push_fields.ensures, c.push_hex.ensures, c.new-line.ensures, c.form_of.ensures)
      (simp (length-append, hex_length) (omega (arith, line_within c.args.w))),
)
