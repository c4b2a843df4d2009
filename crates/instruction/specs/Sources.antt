-- What the report's REG and OFFSET give of the four sources A, X, Y and N, held in this order.
-- Assumes nothing.
use Rattle.std.specs.Prelude.{ℕ, List, slice_index}
use Rattle.report.specs.Section3.{REG, OFFSET}

abbrev pub register_of : ℕ → List ℕ → ℕ
register_of f g = REG (f, slice_index g 0, slice_index g 1, slice_index g 2, slice_index g 3)

abbrev pub address_of : ℕ → ℕ → List ℕ → ℕ
address_of f a g = OFFSET (f, a, slice_index g 1, slice_index g 2)
