-- An output that is too short is refused; an accepted call answers the listing's length and puts it.
-- Assumes nothing.
use native.Mathlib.Omega.{arith}
use Rattle.listing.proofs.Answers.{output_too_short, listed}
use Rattle.listing.proofs.store.list.Goals as goal

pub returns-then-length-out : goal.returns-then-length-out
returns-then-length-out c =
    output_too_short (omega (arith, c.if-main-gt-MOST.false)) (omega (arith, c.if-length-out.true, c.listing_length-length.ensures))

pub returns : goal.returns
returns c =
    let n = c.listing_length-length.ensures in
    listed (omega (arith, c.if-main-gt-MOST.false)) (omega (arith, n, c.if-length-out.false)) n c.put_listing.ensures
