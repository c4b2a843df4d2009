-- The examples of document 01, "The trail" and "The counter program", computed.
-- Assumes nothing.
use Prim.Native.Nat.{ℕ, ◌+◌, ◌-◌, ◌^◌}
use mathlib.Core.Path.{◌≡◌, refl}
use mathlib.Core.List.{List, [], ◌∷◌, ◌++◌}
use Rattle.trail.specs.declared.Kind.TheVariants.{Step, Set}
use Rattle.trail.specs.declared.OldValues.{OldValues}
use Rattle.trail.specs.Numbers.{groups_in, groups, broken, read_in}
use Rattle.trail.specs.Records.{record_bytes, record_in}
use Rattle.trail.specs.Newest.{newest_fitted, newest_in, read_in_form, broken_record, read_back}

-- ---- numbers

number_128 : groups 128 ≡ 0x80 ∷ 0x01 ∷ []
unfolding groups groups_in
number_128 = refl

number_300 : groups 300 ≡ 0xAC ∷ 0x02 ∷ []
unfolding groups groups_in
number_300 = refl

number_largest : groups (2 ^ 32 - 1) ≡ 0xFF ∷ 0xFF ∷ 0xFF ∷ 0xFF ∷ 0x0F ∷ []
unfolding groups groups_in
number_largest = refl

-- 0 with a group too many.
group_too_many : read_in 4 (0x80 ∷ 0x00 ∷ []) ≡ broken
group_too_many = refl

-- ---- the trail of the counter program's example

abbrev old : ℕ → ℕ → ℕ → ℕ → ℕ → OldValues
old marks p a place value = record { kind = Step; marks = marks; p = p; a = a; x = 0; y = 0; place = place; value = value }

abbrev trail : List ℕ
trail =
    0x01 ∷ 0x01 ∷ 0x00 ∷ 0x00 ∷ 0x04 ∷ 0x01 ∷ 0x08 ∷ 0x01 ∷ 0x0A ∷ 0x00 ∷ 0x05 ∷ 0x01 ∷ 0x00 ∷ 0x02 ∷ 0x03 ∷ 0x01 ∷ 0x10 ∷ 0x03 ∷ 0x03 ∷ []

trail_made : record_bytes (old 1 0 0 0 0) ++ (record_bytes (old 8 1 0 10 0) ++ (record_bytes (old 0 2 0 0 0) ++ record_bytes (old 16 3 0 0 0))) ≡ trail
unfolding record_in groups groups_in
trail_made = refl

trail_fourth : newest_fitted 8192 256 trail 19 ≡ read_back (old 16 3 0 0 0) 15
unfolding newest_fitted newest_in read_in_form
trail_fourth = refl

trail_third : newest_fitted 8192 256 trail 15 ≡ read_back (old 0 2 0 0 0) 11
unfolding newest_fitted newest_in read_in_form
trail_third = refl

trail_second : newest_fitted 8192 256 trail 11 ≡ read_back (old 8 1 0 10 0) 5
unfolding newest_fitted newest_in read_in_form
trail_second = refl

trail_first : newest_fitted 8192 256 trail 5 ≡ read_back (old 1 0 0 0 0) 0
unfolding newest_fitted newest_in read_in_form
trail_first = refl

-- ---- broken records, and one that no operation makes

-- A is 0 with a group too many.
broken_number : newest_fitted 8192 256 (0x01 ∷ 0x01 ∷ 0x00 ∷ 0x80 ∷ 0x00 ∷ 0x05 ∷ []) 6 ≡ broken_record
unfolding newest_fitted newest_in read_in_form
broken_number = refl

-- A byte is left over.
broken_end : newest_fitted 8192 256 (0x01 ∷ 0x00 ∷ 0x02 ∷ 0x00 ∷ 0x04 ∷ []) 5 ≡ broken_record
unfolding newest_fitted newest_in read_in_form
broken_end = refl

-- Main address 10 on a board of 10 words.
broken_place : newest_fitted 10 256 trail 11 ≡ broken_record
unfolding newest_fitted newest_in read_in_form
broken_place = refl

-- All registers and a word of port 2.
all_marked : newest_fitted 8192 256 (0x04 ∷ 0x0F ∷ 0x00 ∷ 0x01 ∷ 0x02 ∷ 0x03 ∷ 0x82 ∷ 0x80 ∷ 0x40 ∷ 0x05 ∷ 0x0A ∷ []) 11
    ≡ read_back (record { kind = Set; marks = 15; p = 0; a = 1; x = 2; y = 3; place = 2 ^ 20 + 2; value = 5 }) 0
unfolding newest_fitted newest_in read_in_form
all_marked = refl

-- ---- kinds: 5, and 4 with a group too many

kind_five : newest_fitted 8192 256 (0x05 ∷ 0x00 ∷ 0x02 ∷ 0x03 ∷ []) 4 ≡ broken_record
unfolding newest_fitted newest_in read_in_form
kind_five = refl

kind_in_two_groups : newest_fitted 8192 256 (0x84 ∷ 0x00 ∷ 0x00 ∷ 0x02 ∷ 0x04 ∷ []) 5 ≡ broken_record
unfolding newest_fitted newest_in read_in_form
kind_in_two_groups = refl
