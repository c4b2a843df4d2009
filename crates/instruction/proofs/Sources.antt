-- The four sources A, X, Y and N are taken by their number: R by rsf, and X or Y by msf - 1.
-- Assumes nothing.
use Rattle.std.proofs.Common.{◌≡◌, ℕ, zero, suc, ◌+◌, ◌-◌, ◌%◌, ◌^◌, ◌<◌, ◌≤◌, List, get_or, sym, refl, arith}
use Rattle.report.specs.Section3.{REG}
use Rattle.report.specs.Parts as parts
use Rattle.report.proofs.Words.{pad_is}
use Rattle.report.proofs.Readings.{offset_is}
use Rattle.instruction.specs.Sources.{register_of, address_of}

-- N below 2^20 is not changed by the padding.
pub register_taken : (f : ℕ) (g : List ℕ) → f < 4 → get_or g 3 0 < 2 ^ 20 → get_or g f 0 ≡ register_of f g
unfolding REG
register_taken zero g h n = refl
register_taken (suc zero) g h n = refl
register_taken (suc (suc zero)) g h n = refl
register_taken (suc (suc (suc zero))) g h n = sym (pad_is (get_or g 3 0) n)
register_taken (suc (suc (suc (suc k)))) g h n = absurd (omega arith)

module _ (a : ℕ) (g : List ℕ) (low : a < 2 ^ 20) (x_lt : get_or g 1 0 < 2 ^ 32) (y_lt : get_or g 2 0 < 2 ^ 32) where
  pub constant_taken : (f : ℕ) → f < 2 → a ≡ address_of f a g
  unfolding parts.address
  constant_taken zero h = sym (offset_is 0 a (get_or g 1 0) (get_or g 2 0) low x_lt y_lt)
  constant_taken (suc zero) h = sym (offset_is 1 a (get_or g 1 0) (get_or g 2 0) low x_lt y_lt)
  constant_taken (suc (suc k)) h = absurd (omega arith)

  pub index_taken : (f : ℕ) → 2 ≤ f → f < 4 → (a + get_or g (f - 1) 0) % 2 ^ 32 ≡ address_of f a g
  unfolding parts.address
  index_taken zero l h = absurd (omega arith)
  index_taken (suc zero) l h = absurd (omega arith)
  index_taken (suc (suc zero)) l h = sym (offset_is 2 a (get_or g 1 0) (get_or g 2 0) low x_lt y_lt)
  index_taken (suc (suc (suc zero))) l h = sym (offset_is 3 a (get_or g 1 0) (get_or g 2 0) low x_lt y_lt)
  index_taken (suc (suc (suc (suc k)))) l h = absurd (omega arith)
