-- At the loop's head the lines passed are stored, and the text still to come is good; storing its words gives what the definition gives.
-- Assumes nothing.
use mathlib.Core.Path.{◌≡◌}
use Rattle.std.specs.Prelude.{Ok}
use lib.ListN.{length}
use Rattle.intel_hex.specs.Imported.{text_of, words_in, stored, verdict}
use Rattle.intel_hex.proofs.importing.store.Given as goal

abbrev pub invariant-loop-line : goal.invariant-loop-line
invariant-loop-line l =
    (length l.main ≡ length l.initial.main)
    × (verdict (text_of (length l.initial.main) l.base l.rest) ≡ Ok tt)
    × (stored (words_in (text_of (length l.initial.main) 0 l.text)) l.initial.main ≡ stored (words_in (text_of (length l.initial.main) l.base l.rest)) l.main)

abbrev pub decreases-loop-line : goal.decreases-loop-line
decreases-loop-line l =
    length l.rest
