-- The lengths of the lines passed are summed up.
-- Assumes nothing.
use Rattle.std.specs.Prelude.{◌≡◌, length, take}
use Rattle.listing.specs.Listing.{listing}
use Rattle.listing.proofs.store.listing_length.Given as goal

abbrev pub invariant-loop-address : goal.invariant-loop-address
invariant-loop-address l = l.total ≡ length (listing (take l.address l.main))
