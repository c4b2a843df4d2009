-- Lines byte for byte, by computation: one of each form, and a WORD for each of its reasons.
-- Assumes nothing.
use mathlib.Core.Path.{◌≡◌, refl}
use Rattle.text.specs.Text.{text}
use Rattle.text.specs.Digits.{hex}
use Rattle.language.specs.Names.{split, destination_name, function_name, shift_name, comparison_name, register_name}
use Rattle.language.specs.Line.{function_form, form, operand, fields_by, spaced, line}

pub adds : line 3 0x7050000A ≡ text "00003 A ADDS X 0000A+Y\n"
unfolding line spaced fields_by form function_form operand hex split destination_name function_name register_name
adds = refl

pub load : line 0 0x00300005 ≡ text "00000 A LD #00005\n"
unfolding line spaced fields_by form function_form operand hex split destination_name function_name
load = refl

pub store : line 1 0x1E00000A ≡ text "00001 MEM A 0000A\n"
unfolding line spaced fields_by form operand hex split destination_name register_name
store = refl

pub compare_or : line 2 0xC1A00005 ≡ text "00002 CMP EQB N #00005\n"
unfolding line spaced fields_by form operand hex split comparison_name register_name
compare_or = refl

pub shift : line 4 0x40C00000 ≡ text "00004 A ASR X\n"
unfolding line spaced fields_by form function_form hex split destination_name shift_name register_name
shift = refl

-- A spare function always halts.
pub halting : line 3 0x00D00000 ≡ text "00003 WORD 00D00000\n"
unfolding line spaced fields_by form hex
halting = refl

-- The same words with one ignored bit set: rsf of LD, fsf of a write, dsf of a comparison, addr of a shift.
pub load_with_rsf : line 0 0x40300005 ≡ text "00000 WORD 40300005\n"
unfolding line spaced fields_by form function_form hex
load_with_rsf = refl

pub store_with_fsf : line 1 0x1E10000A ≡ text "00001 WORD 1E10000A\n"
unfolding line spaced fields_by form hex
store_with_fsf = refl

pub compare_with_dsf : line 2 0xC3A00005 ≡ text "00002 WORD C3A00005\n"
unfolding line spaced fields_by form hex
compare_with_dsf = refl

pub shift_with_addr : line 4 0x40C00001 ≡ text "00004 WORD 40C00001\n"
unfolding line spaced fields_by form function_form hex
shift_with_addr = refl
