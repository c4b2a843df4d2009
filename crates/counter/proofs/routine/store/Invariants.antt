-- At the loop's head main holds the first words of the routine, and the rest of the text is the routine of the other words; so each line is well-formed.
-- Assumes nothing.
use Prim.Native.Nat.{◌*◌, ◌-◌, ◌≤◌}
use mathlib.Core.Path.{◌≡◌}
use mathlib.Core.List.{◌++◌}
use lib.ListN.{length, take, drop}
use Rattle.std.specs.Prelude.{Ok}
use Rattle.counter.specs.Routine.{routine_of}
use Rattle.counter.proofs.Reading.{words_in}
use Rattle.counter.proofs.routine.store.Given as goal

abbrev pub invariant-loop-done : goal.invariant-loop-done
invariant-loop-done l =
    let ws = words_in (routine_of (length l.initial.main) l.text) in
    (9 * l.done ≤ length l.text)
    × (l.main ≡ take l.done ws ++ drop l.done l.initial.main)
    × (routine_of (length l.initial.main - l.done) (drop (9 * l.done) l.text) ≡ Ok (drop l.done ws))
