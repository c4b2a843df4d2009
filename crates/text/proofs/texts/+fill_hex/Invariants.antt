-- The digits of a sixteenth stand before the last one, by the definition's own recursion; the measure is the width.
-- Assumes nothing.
use lib.ListN.{length}
use Rattle.text.proofs.texts.+fill_hex.Given as goal

abbrev pub decreases-fill_hex : goal.decreases-fill_hex
decreases-fill_hex l = length l.bytes.now
