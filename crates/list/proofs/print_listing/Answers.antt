-- The listing's length is within the output.
-- Assumes nothing.
use Rattle.listing.proofs.Answers.{listed_within, listed_count}
use Rattle.list.proofs.print_listing.Goals as goal

pub slice_bounds-out-end : goal.slice_bounds-out-end
slice_bounds-out-end g c = listed_within c.in-Ok.is c.list.ensures

pub slice_bounds-write_all-end : goal.slice_bounds-write_all-end
slice_bounds-write_all-end g c = listed_count c.in-Ok.is c.list.ensures
