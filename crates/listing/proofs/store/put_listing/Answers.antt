-- The next line stands after the first ones.
-- Assumes nothing.
use Rattle.std.proofs.Common.{arith}
use Rattle.text.proofs.Placing.{put_then}
use Rattle.listing.proofs.Lines.{next_line}
use Rattle.listing.proofs.store.put_listing.Goals as goal

pub loop-address-preserved : goal.loop-address-preserved
loop-address-preserved c =
    let l = c.loop-address in
    rw (next_line c.args.main.now l.address (omega arith), ← c.line_of.ensures, ← c.as_bytes.ensures)
    (put_then (omega arith) l.invariant c.put_text-next.ensures)
