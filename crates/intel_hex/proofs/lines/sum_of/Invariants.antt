-- At the loop's head the bytes passed are bytes and add up to `total`.
-- Assumes nothing.
use Prim.Native.Nat.{◌%◌}
use mathlib.Core.Path.{◌≡◌}
use mathlib.Core.Bool.{true}
use lib.ListN.{drop}
use Rattle.std.specs.Prelude.{sum}
use Rattle.intel_hex.specs.Lines.{bytes, all_bytes}
use Rattle.intel_hex.proofs.lines.sum_of.Given as goal

abbrev pub invariant-loop-k : goal.invariant-loop-k
invariant-loop-k l =
    (all_bytes (bytes l.k (drop 1 l.line)) ≡ true)
    × (l.total ≡ sum (bytes l.k (drop 1 l.line)) % 256)
