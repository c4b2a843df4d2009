-- The fields of a well-formed line are bytes that stand in it.
-- Assumes nothing.
use Prim.Native.Nat.{ℕ, ◌+◌, ◌*◌, ◌≤◌, ◌<◌}
use mathlib.Core.Path.{◌≡◌, refl}
use mathlib.Core.Bool.{Bool, true, false}
use mathlib.Core.List.{List}
use native.Mathlib.Omega.{arith}
use lib.ListN.{drop}
use lib.Seq.{drop-drop}
use Rattle.intel_hex.specs.Digits.{byte}
use Rattle.intel_hex.specs.Lines.{count_of, signs_of, ending, well_formed}
use Rattle.intel_hex.proofs.Bytes.{each_byte}
use Rattle.intel_hex.proofs.Texts.{line_bytes, ending_some}

module _ (line : List ℕ) (w : well_formed line ≡ true) where
  field_there : (j : ℕ) → j < count_of line + 5 → byte (drop (1 + 2 * j) line) < 256
  field_there j h = rw (drop-drop (2 * j) 1 line) at (each_byte (count_of line + 5) j (drop 1 line) (line_bytes line w) h)

  pub count_there : byte (drop 1 line) < 256
  count_there = field_there 0 (omega arith)

  pub high_there : byte (drop 3 line) < 256
  high_there = field_there 1 (omega arith)

  pub low_there : byte (drop 5 line) < 256
  low_there = field_there 2 (omega arith)

  pub type_there : byte (drop 7 line) < 256
  type_there = field_there 3 (omega arith)

  -- Of two data bytes each is one.
  pub first_there : byte (drop 9 line) < 256
  first_there = field_there 4 (omega arith)

  pub second_there : count_of line ≡ 2 → byte (drop 11 line) < 256
  second_there e = field_there 5 (omega arith)

  pub ending_there : 0 < ending (drop (signs_of line) line)
  ending_there = ending_some line w

pub no_count : (line : List ℕ) → 256 ≤ byte (drop 1 line) → false ≡ well_formed line
no_count line h = go (well_formed line) refl
  where
    go : (t : Bool) → well_formed line ≡ t → false ≡ t
    go true w = absurd (omega (arith, count_there line w))
    go false w = refl
