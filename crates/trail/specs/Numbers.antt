-- Document 01, "The trail": a number in groups of seven bits, low group first, top bit set on all but the last, in the fewest groups;
-- and a number read from the head of bytes.
-- Assumes nothing.
use Rattle.std.specs.Prelude.{ℕ, zero, suc, ◌+◌, ◌-◌, ◌*◌, ◌/◌, ◌%◌, ◌<◌, ◌≡◌, Bool, true, false, cond, List, [], ◌∷◌, ◌++◌, ltb, eqb, length, take}

-- ---- the bytes of a number

-- n in at most k + 1 groups.
unfoldable pub groups_in : ℕ → ℕ → List ℕ
groups_in zero n = n ∷ []
groups_in (suc k) n =
    let longer = (128 + n % 128) ∷ groups_in k (n / 128) in
    cond (ltb n 128) (n ∷ []) longer

-- n in the fewest groups: n + 1 are never too few.
unfoldable pub groups : ℕ → List ℕ
groups n = groups_in n n

-- The bytes of a number that is marked; none of one that is not.
abbrev pub bytes_if : Bool → ℕ → List ℕ
bytes_if marked n = cond marked (groups n) []

-- ---- reading a number

-- What is read: a number and the bytes after it, or that it is broken.
pub data Read : Type 0 where
  got : ℕ → List ℕ → Read
  broken : Read

-- A first group, and what the groups after it give. If they give 0, that is a group too many.
abbrev pub over : ℕ → Read → Read
over low broken = broken
over low (got high rest) = cond (eqb high 0) broken (got (low + 128 * high) rest)

-- A number of at most k + 1 groups at the head of the bytes. What is no byte is broken.
abbrev pub read_in : ℕ → List ℕ → Read
read_in zero [] = broken
read_in zero (b ∷ rest) = cond (ltb b 128) (got b rest) broken
read_in (suc k) [] = broken
read_in (suc k) (b ∷ rest) = cond (ltb b 128) (got b rest) (cond (ltb b 256) (over (b - 128) (read_in k rest)) broken)

-- The number, if it is below a bound.
abbrev pub below : ℕ → Read → Read
below bound broken = broken
below bound (got n rest) = cond (ltb n bound) (got n rest) broken

-- Five groups hold every number below 2^35.
abbrev pub read_below : ℕ → List ℕ → Read
read_below bound s = below bound (read_in 4 s)

-- A number that is marked; 0, and no byte, for one that is not.
abbrev pub read_if : Bool → ℕ → List ℕ → Read
read_if marked bound s = cond marked (read_below bound s) (got 0 s)

-- A number below its bound, if it is marked; else 0.
abbrev pub GoodIf : Bool → ℕ → ℕ → Type 0
GoodIf true bound n = n < bound
GoodIf false bound n = n ≡ 0

-- ---- what the code says of its bytes

-- The bytes s were put at the place `at`, after those that stood before it, and `next` is the place after them.
pub record Put (at : ℕ) (s old new : List ℕ) (next : ℕ) : Type 0 where
  pub place : next ≡ at + length s
  pub bytes : take next new ≡ take at old ++ s
  pub size : length new ≡ length old
