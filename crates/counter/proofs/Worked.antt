-- The worked example of document 01, "The counter program", by computation: the text is read as its four words, and both lines come out byte for byte.
-- Assumes nothing.
use Rattle.std.specs.Prelude.{Ok, Err}
use mathlib.Core.Path.{◌≡◌, refl}
use mathlib.Core.Bool.{true, false}
use mathlib.Core.List.{[], ◌∷◌}
use Rattle.machine.specs.declared.Machine.{Machine}
use Rattle.machine.specs.declared.Ending.TheVariants.{Stopped}
use Rattle.text.specs.Text.{text}
use Rattle.text.specs.Digits.{digit_value}
use Rattle.counter.specs.Routine.{routine_of}
use Rattle.text.specs.Digits.{decimal_in, decimal, hex}
use Rattle.counter.specs.Lines.{registers, in_use, run_line, back_line, bad_line}

abbrev pub stopped : Machine
stopped = record { a = 5; x = 0; y = 0; p = 4; b = true; stop = true }

abbrev pub reset : Machine
reset = record { a = 0; x = 0; y = 0; p = 0; b = false; stop = false }

pub routine_read :
    routine_of 8192 (text "00300005\n1E00000A\n01200005\n00D00000\n")
    ≡ Ok (0x00300005 ∷ 0x1E00000A ∷ 0x01200005 ∷ 0x00D00000 ∷ [])
unfolding routine_of digit_value
routine_read = refl

pub run_printed :
    run_line 4 Stopped stopped 15
    ≡ text "steps 4 stopped P 00004 A 00000005 X 00000000 Y 00000000 B 1 S 1 trail 15\n"
unfolding run_line registers in_use decimal decimal_in hex
run_printed = refl

pub back_printed :
    back_line 4 reset 0
    ≡ text "back 4 P 00000 A 00000000 X 00000000 Y 00000000 B 0 S 0 trail 0\n"
unfolding back_line registers in_use decimal decimal_in hex
back_printed = refl

-- The third line has a small letter.
pub third_line_bad : routine_of 8192 (text "00300005\n1E00000A\n0120000a\n00D00000\n") ≡ Err 3
unfolding routine_of digit_value
third_line_bad = refl

pub bad_printed : bad_line 3 ≡ text "line 3 bad\n"
unfolding bad_line decimal decimal_in
bad_printed = refl
