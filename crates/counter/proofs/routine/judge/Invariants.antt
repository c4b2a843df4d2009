-- At the loop's head the answer is that of the lines still to come, after those that are done; each way out decides the next line.
-- Assumes nothing.
use Prim.Native.Nat.{◌*◌, ◌-◌, ◌≤◌}
use mathlib.Core.Path.{◌≡◌}
use lib.ListN.{length, drop}
use Rattle.counter.specs.Routine.{routine_of, answer}
use Rattle.counter.proofs.Reading.{after_lines}
use Rattle.counter.proofs.routine.judge.Given as goal

abbrev pub invariant-loop-done : goal.invariant-loop-done
invariant-loop-done l =
    (9 * l.done ≤ length l.text)
    × (l.done ≤ l.room)
    × (answer (routine_of l.room l.text) ≡ after_lines l.done (answer (routine_of (l.room - l.done) (drop (9 * l.done) l.text))))
