-- At the loop's head the bytes passed are put.
-- Assumes nothing.
use Prim.Native.Nat.{◌+◌, ◌*◌}
use mathlib.Core.Path.{◌≡◌}
use lib.ListN.{length, take}
use Rattle.intel_hex.specs.Layout.{pairs}
use Rattle.text.specs.Placed.{Placed}
use Rattle.intel_hex.proofs.exporting.put_pairs.Given as goal

abbrev pub invariant-loop-byte : goal.invariant-loop-byte
invariant-loop-byte l =
    (length l.out ≡ length l.fn.out)
    × (l.next ≡ l.at + 2 * l.byte-index)
    × Placed l.at (pairs (take l.byte-index l.bytes)) l.fn.out l.next l.out
