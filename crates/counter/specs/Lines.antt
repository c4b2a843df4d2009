-- The lines that bench prints (document 01, "The counter program"), byte for byte.
-- Assumes nothing.
use Rattle.std.specs.Prelude.{ℕ, Bool, true, false, List, ◌++◌}
use Rattle.machine.specs.declared.Machine.{Machine}
use Rattle.machine.specs.declared.Ending.{Ending}
use Rattle.machine.specs.declared.Ending.TheVariants.{Stopped, Budget, Unfitted, Full}
use Rattle.text.specs.Text.{text}
use Rattle.text.specs.Digits.{decimal, hex}

-- B and STOP.
abbrev pub flag : Bool → List ℕ
flag true = text "1"
flag false = text "0"

-- The run's ending.
abbrev pub name : Ending → List ℕ
name Stopped = text "stopped"
name Budget = text "budget"
name Unfitted = text "unfitted"
name Full = text "full"

-- The registers and flags. P's five digits are those of its low 20 bits.
unfoldable pub registers : Machine → List ℕ
registers m =
    (text " P " ++ hex 5 m.p)
    ++ (text " A " ++ hex 8 m.a)
    ++ (text " X " ++ hex 8 m.x)
    ++ (text " Y " ++ hex 8 m.y)
    ++ (text " B " ++ flag m.b)
    ++ (text " S " ++ flag m.stop)

-- The bytes in use.
unfoldable pub in_use : ℕ → List ℕ
in_use used = text " trail " ++ decimal used ++ text "\n"

-- The line of a run: the steps done come first.
unfoldable pub run_line : ℕ → Ending → Machine → ℕ → List ℕ
run_line steps ending m used =
    text "steps " ++ decimal steps ++ text " " ++ name ending ++ registers m ++ in_use used

-- The line after taking back: the count taken back comes first.
unfoldable pub back_line : ℕ → Machine → ℕ → List ℕ
back_line count m used = text "back " ++ decimal count ++ registers m ++ in_use used

-- The line for a bad text: n is its first bad line.
unfoldable pub bad_line : ℕ → List ℕ
bad_line n = text "line " ++ decimal n ++ text " bad\n"
