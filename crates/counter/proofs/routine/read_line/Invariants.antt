-- Each turn takes one digit off what the definition has still to read, and the value so far has that many digits.
-- Assumes nothing.
use Prim.Native.Nat.{◌-◌, ◌<◌}
use mathlib.Core.Path.{◌≡◌}
use lib.ListN.{drop}
use Rattle.counter.specs.Routine.{line_after}
use Rattle.text.proofs.Digits.{sixteens}
use Rattle.counter.proofs.routine.read_line.Given as goal

abbrev pub invariant-loop-digit : goal.invariant-loop-digit
invariant-loop-digit l =
    (l.word < sixteens l.digit-index)
    × (line_after l.width 0 l.text ≡ line_after (l.width - l.digit-index) l.word (drop l.digit-index l.text))
