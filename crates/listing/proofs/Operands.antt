-- An operand by msf, and how long it is.
-- Assumes nothing.
use Prim.Native.Nat.{ℕ, ◌≤◌}
use mathlib.Core.Path.{◌≡◌, refl}
use mathlib.Core.Bool.{Bool, true, false}
use mathlib.Core.List.{◌++◌}
use native.Mathlib.Omega.{arith}
use lib.Dec.{eqb}
use lib.ListN.{length, length-append}
use borrow.Author.Tests.{ne_eqb, eqb-true, eqb-false}
use Rattle.text.specs.Text.{text}
use Rattle.text.specs.Digits.{hex}
use Rattle.text.proofs.Digits.{hex_length}
use Rattle.language.specs.Line.{operand}

module _ (m a : ℕ) where
  pub constant_operand : m ≡ 0 → operand m a ≡ text "#" ++ hex 5 a
  unfolding operand
  constant_operand e = rw e

  pub direct_operand : m ≡ 1 → operand m a ≡ hex 5 a
  unfolding operand
  direct_operand e = rw e

  pub by_x_operand : m ≡ 2 → operand m a ≡ hex 5 a ++ text "+X"
  unfolding operand
  by_x_operand e = rw e

  pub by_y_operand : (m ≡ 0 → ⊥) → (m ≡ 1 → ⊥) → (m ≡ 2 → ⊥) → operand m a ≡ hex 5 a ++ text "+Y"
  unfolding operand
  by_y_operand p q r = rw (ne_eqb m 0 p, ne_eqb m 1 q, ne_eqb m 2 r)

  pub constant_length : m ≡ 0 → length (operand m a) ≡ 6
  constant_length e = rw (constant_operand e) (omega (arith, length-append (text "#") (hex 5 a), hex_length 5 a))

  pub direct_length : m ≡ 1 → length (operand m a) ≡ 5
  direct_length e = rw (direct_operand e) (hex_length 5 a)

  pub by_x_length : m ≡ 2 → length (operand m a) ≡ 7
  by_x_length e = rw (by_x_operand e) (omega (arith, length-append (hex 5 a) (text "+X"), hex_length 5 a))

  pub by_y_length : (m ≡ 0 → ⊥) → (m ≡ 1 → ⊥) → (m ≡ 2 → ⊥) → length (operand m a) ≡ 7
  by_y_length p q r = rw (by_y_operand p q r) (omega (arith, length-append (hex 5 a) (text "+Y"), hex_length 5 a))

  -- An operand has five bytes at least and seven at most.
  pub operand_bounds : (5 ≤ length (operand m a)) × (length (operand m a) ≤ 7)
  operand_bounds = first (eqb m 0) refl
    where
      third : (m ≡ 0 → ⊥) → (m ≡ 1 → ⊥) → (t : Bool) → eqb m 2 ≡ t → (5 ≤ length (operand m a)) × (length (operand m a) ≤ 7)
      third p q true e = let l = by_x_length (eqb-true m 2 e) in (omega arith, omega arith)
      third p q false e = let l = by_y_length p q (eqb-false m 2 e) in (omega arith, omega arith)

      second : (m ≡ 0 → ⊥) → (t : Bool) → eqb m 1 ≡ t → (5 ≤ length (operand m a)) × (length (operand m a) ≤ 7)
      second p true e = let l = direct_length (eqb-true m 1 e) in (omega arith, omega arith)
      second p false e = third p (eqb-false m 1 e) (eqb m 2) refl

      first : (t : Bool) → eqb m 0 ≡ t → (5 ≤ length (operand m a)) × (length (operand m a) ≤ 7)
      first true e = let l = constant_length (eqb-true m 0 e) in (omega arith, omega arith)
      first false e = second (eqb-false m 0 e) (eqb m 1) refl

  pub operand_least : 5 ≤ length (operand m a)
  operand_least = operand_bounds.0
