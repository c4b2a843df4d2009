-- At the loop's head the bytes of the words passed are put.
-- Assumes nothing.
use Prim.Native.Nat.{◌*◌}
use mathlib.Core.Path.{◌≡◌}
use lib.ListN.{length, take}
use Rattle.intel_hex.specs.Layout.{data_bytes}
use Rattle.text.specs.Placed.{Placed}
use Rattle.intel_hex.proofs.exporting.put_words.Given as goal

abbrev pub invariant-loop-word : goal.invariant-loop-word
invariant-loop-word l =
    (length l.out ≡ length l.fn.out)
    × (l.next ≡ 4 * l.word-index)
    × Placed 0 (data_bytes (take l.word-index l.words)) l.fn.out l.next l.out
