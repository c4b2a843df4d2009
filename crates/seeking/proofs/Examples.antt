-- The counter program's trail of document 01, asked for places, and trails that are broken; computed.
-- Assumes nothing.
use Prim.Native.Nat.{ℕ, ◌^◌}
use mathlib.Core.Path.{◌≡◌, refl}
use mathlib.Core.List.{List, [], ◌∷◌}
use Rattle.machine.specs.declared.Place.{Place}
use Rattle.machine.specs.declared.Place.TheVariants.{Main, Port}
use Rattle.trail.specs.declared.OldValues.{OldValues}
use Rattle.trail.specs.Newest.{newest_fitted, newest_in, read_in_form}
use Rattle.std.specs.Prelude.{Err}
use Rattle.trail.specs.declared.Kind.TheVariants.{Step}
use Rattle.seeking.specs.declared.SeekRefusal.TheVariants as refusal
use Rattle.seeking.specs.Seeking.{Sought, found, never, among, from_end, sought}

abbrev old : ℕ → ℕ → ℕ → ℕ → OldValues
old marks p place value = record { kind = Step; marks = marks; p = p; a = 0; x = 0; y = 0; place = place; value = value }

-- Four steps; the second wrote main 10.
abbrev trail : List ℕ
trail =
    0x01 ∷ 0x01 ∷ 0x00 ∷ 0x00 ∷ 0x04 ∷ 0x01 ∷ 0x08 ∷ 0x01 ∷ 0x0A ∷ 0x00 ∷ 0x05 ∷ 0x01 ∷ 0x00 ∷ 0x02 ∷ 0x03 ∷ 0x01 ∷ 0x10 ∷ 0x03 ∷ 0x03 ∷ []

abbrev asked : List ℕ → ℕ → Place → Sought
asked s used q = sought 8192 256 s used q

main_ten : asked trail 19 (Main (record { 0 = 10 })) ≡ found 3 (old 8 1 10 0)
unfolding sought from_end among newest_fitted newest_in read_in_form
main_ten = refl

-- No record holds port 10, nor main 0, though what is not marked is 0.
port_ten : asked trail 19 (Port (record { 0 = 10 })) ≡ never
unfolding sought from_end among newest_fitted newest_in read_in_form
port_ten = refl

main_zero : asked trail 19 (Main (record { 0 = 0 })) ≡ never
unfolding sought from_end among newest_fitted newest_in read_in_form
main_zero = refl

empty : asked trail 0 (Main (record { 0 = 10 })) ≡ never
unfolding sought from_end among newest_fitted newest_in read_in_form
empty = refl

too_large : asked trail 20 (Main (record { 0 = 10 })) ≡ Err refusal.CountTooLarge
unfolding sought from_end among newest_fitted newest_in read_in_form
too_large = refl

-- Port 0, whose place has the number 2^20: a step at P 5 wrote it, the port held 7. Main 2^20 is not fitted, and another place.
abbrev port : List ℕ
port = 0x01 ∷ 0x08 ∷ 0x05 ∷ 0x80 ∷ 0x80 ∷ 0x40 ∷ 0x07 ∷ 0x07 ∷ []

port_zero : asked port 8 (Port (record { 0 = 0 })) ≡ found 1 (old 8 5 (2 ^ 20) 7)
unfolding sought from_end among newest_fitted newest_in read_in_form
port_zero = refl

no_main : asked port 8 (Main (record { 0 = 2 ^ 20 })) ≡ never
unfolding sought from_end among newest_fitted newest_in read_in_form
no_main = refl

-- A broken record below: it is met if no newer record holds the place, and else not looked at.
abbrev below : List ℕ
below = 0xFF ∷ 0x01 ∷ 0x08 ∷ 0x05 ∷ 0x0A ∷ 0x07 ∷ 0x05 ∷ []

match_first : asked below 7 (Main (record { 0 = 10 })) ≡ found 1 (old 8 5 10 7)
unfolding sought from_end among newest_fitted newest_in read_in_form
match_first = refl

broken_first : asked below 7 (Main (record { 0 = 11 })) ≡ Err refusal.Broken
unfolding sought from_end among newest_fitted newest_in read_in_form
broken_first = refl
