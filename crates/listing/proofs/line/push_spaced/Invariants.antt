-- The fields passed are in the line, and the others are still to come.
-- Assumes nothing.
use Rattle.listing.proofs.Spacing.{Coming}
use Rattle.listing.proofs.line.push_spaced.Given as goal

abbrev pub invariant-loop-field : goal.invariant-loop-field
invariant-loop-field l = Coming l.field-index l.fields l.initial.line l.line
