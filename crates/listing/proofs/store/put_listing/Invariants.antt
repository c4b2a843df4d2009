-- The lines of the words passed are put.
-- Assumes nothing.
use Rattle.std.specs.Prelude.{take}
use Rattle.text.specs.Placed.{Placed}
use Rattle.listing.specs.Listing.{listing}
use Rattle.listing.proofs.store.put_listing.Given as goal

abbrev pub invariant-loop-address : goal.invariant-loop-address
invariant-loop-address l = Placed 0 (listing (take l.address l.main)) l.initial.out l.next l.out
