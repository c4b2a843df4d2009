-- Small examples by computation, as the oracle gives them: exports byte for byte, and texts with their words or first bad line.
-- Assumes nothing.
use mathlib.Core.Path.{◌≡◌, refl}
use mathlib.Core.Bool.{true, false}
use Prim.Native.Nat.{ℕ}
use Prim.Native.Char.{code}
use Prim.Native.String.{String, [] as end, ◌∷◌ as ◌then◌}
use mathlib.Core.List.{List, [], ◌∷◌}
use Rattle.std.specs.Prelude.{Ok, Err}
use Rattle.text.specs.Digits.{digit_value}
use Rattle.intel_hex.specs.Digits.{byte_of, byte}
use Rattle.intel_hex.specs.Layout.{sum_byte, record_line}
use Rattle.intel_hex.specs.Exported.{upper_line, end_line, upper_before, rows, exported}
use Rattle.intel_hex.specs.Lines.{summed, ending_of, ending, size_of, well_formed, data_line, end_of, upper_of, by_type, layout_of, line_of}
use Rattle.intel_hex.specs.Imported.{word_of, text_in, text_of}
use Rattle.intel_hex.specs.Returns.{with_returns}

abbrev text : String → List ℕ
text end = []
text (c then s) = code c ∷ text s

pub nothing_exported : exported [] ≡ text ":020000040000FA\n:00000001FF\n"
unfolding exported rows upper_line end_line record_line sum_byte
nothing_exported = refl

pub five_words_exported :
    exported (0x00300005 ∷ 0x1E00000A ∷ 0x01200005 ∷ 0x00D00000 ∷ 0xFFFFFFFF ∷ [])
    ≡ text ":020000040000FA\n:10000000003000051E00000A0120000500D000009D\n:04001000FFFFFFFFF0\n:00000001FF\n"
unfolding exported rows upper_before upper_line end_line record_line sum_byte
five_words_exported = refl

-- A carriage return before the second line feed only.
pub one_return_put : with_returns (false ∷ true ∷ []) (text ":020000040000FA\n:00000001FF\n") ≡ text ":020000040000FA\n:00000001FF\r\n"
unfolding with_returns
one_return_put = refl

-- Two records that name word 1: both in order, the second with a carriage return.
pub named_twice :
    text_of 8 0 (text ":0400040000000001F7\n:040004000000000AEE\r\n:00000001FF\n")
    ≡ Ok ((1, 1) ∷ (1, 10) ∷ [])
unfolding text_of text_in line_of layout_of by_type data_line end_of upper_of well_formed size_of ending ending_of summed byte byte_of digit_value word_of
named_twice = refl

-- The second line's sum is wrong.
pub second_line_bad : text_of 8 0 (text ":0400040000000001F7\n:040004000000000AEF\n:00000001FF\n") ≡ Err 2
unfolding text_of text_in line_of layout_of by_type data_line end_of upper_of well_formed size_of ending ending_of summed byte byte_of digit_value word_of
second_line_bad = refl

-- No end record: the line after the last is bad.
pub no_end_record : text_of 8 0 (text ":0400040000000001F7\n") ≡ Err 2
unfolding text_of text_in line_of layout_of by_type data_line end_of upper_of well_formed size_of ending ending_of summed byte byte_of digit_value word_of
no_end_record = refl

-- Main lacks word 8.
pub word_lacking : text_of 8 0 (text ":0400200000000001DB\n:00000001FF\n") ≡ Err 1
unfolding text_of text_in line_of layout_of by_type data_line end_of upper_of well_formed size_of ending ending_of summed byte byte_of digit_value word_of
word_lacking = refl
