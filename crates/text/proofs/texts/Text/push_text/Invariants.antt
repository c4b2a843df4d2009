-- The bytes so far and those of the text that are passed.
-- Assumes nothing.
use Rattle.std.proofs.Common.{◌≡◌, ◌+◌, ◌++◌, take}
use Rattle.text.proofs.texts.Text.push_text.Given as goal

abbrev pub invariant-loop-i : goal.invariant-loop-i
invariant-loop-i g l =
    (l.self-inside.used ≡ l.initial.self-inside.used)
    × (take (l.self-inside.used + l.i) l.self-inside.bytes ≡ take l.self-inside.used l.initial.self-inside.bytes ++ take l.i l.text)
