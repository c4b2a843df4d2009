-- At the loop's head the verdict is that on the lines still to come, after those that are done; each way out decides the next line.
-- Assumes nothing.
use Prim.Native.Nat.{◌+◌, ◌≤◌}
use mathlib.Core.Path.{◌≡◌}
use lib.ListN.{length}
use Rattle.intel_hex.specs.Imported.{text_of, verdict}
use Rattle.intel_hex.proofs.Texts.{after_lines}
use Rattle.intel_hex.proofs.importing.judge.Given as goal

abbrev pub invariant-loop-size : goal.invariant-loop-size
invariant-loop-size l =
    (l.lines + length l.rest ≤ length l.text)
    × (verdict (text_of l.room 0 l.text) ≡ after_lines l.lines (verdict (text_of l.room l.base l.rest)))

abbrev pub decreases-loop-size : goal.decreases-loop-size
decreases-loop-size l =
    length l.rest
