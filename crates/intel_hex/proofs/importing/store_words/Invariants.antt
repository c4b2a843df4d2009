-- At the loop's head the words passed are in main, and storing the others gives what the definition gives.
-- Assumes nothing.
use Prim.Native.Nat.{◌+◌, ◌*◌, ◌-◌}
use mathlib.Core.Path.{◌≡◌}
use lib.ListN.{length, drop}
use Rattle.intel_hex.specs.Imported.{words_from, stored}
use Rattle.intel_hex.proofs.importing.store_words.Given as goal

abbrev pub invariant-loop-i : goal.invariant-loop-i
invariant-loop-i l =
    (length l.main ≡ length l.initial.main)
    × (stored (words_from l.count l.place l.text) l.initial.main ≡ stored (words_from (l.count - l.i) (l.place + l.i) (drop (8 * l.i) l.text)) l.main)
