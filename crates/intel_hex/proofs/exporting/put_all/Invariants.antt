-- At the loop's head the first type 04 record and the rows passed are put.
-- Assumes nothing.
use mathlib.Core.Path.{◌≡◌}
use mathlib.Core.List.{◌++◌}
use lib.ListN.{length}
use Rattle.intel_hex.specs.Exported.{upper_line, rows}
use Rattle.text.specs.Placed.{Placed}
use Rattle.intel_hex.proofs.exporting.put_all.Given as goal

abbrev pub invariant-loop-i : goal.invariant-loop-i
invariant-loop-i l =
    (length l.out ≡ length l.fn.out)
    × Placed 0 (upper_line 0 ++ rows 0 l.i l.main) l.fn.out l.at l.out
