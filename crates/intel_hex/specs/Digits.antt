-- Hex digits, capitals only, and the byte that two of them stand for.
-- Assumes nothing.
use Rattle.std.specs.Prelude.{ℕ, ◌+◌, ◌*◌, ◌/◌, ◌%◌, cond, ◌&&◌, List, [], ◌∷◌, ltb, get_or, Option, Some, None}
use Rattle.text.specs.Digits.{digit, digit_value}

-- The two digits of a byte.
abbrev pub digits_of : ℕ → List ℕ
digits_of byte = digit (byte / 16 % 16) ∷ digit (byte % 16) ∷ []

-- The byte of two digits; 256 where one of them is none.
unfoldable pub byte_of : ℕ → ℕ → ℕ
byte_of high low = cond (ltb high 16 && ltb low 16) (16 * high + low) 256

-- The byte that the first two signs of a text stand for.
unfoldable pub byte : List ℕ → ℕ
byte signs = byte_of (digit_value (get_or signs 0 0)) (digit_value (get_or signs 1 0))

-- A byte, if the number is one.
abbrev pub some_byte : ℕ → Option ℕ
some_byte n = cond (ltb n 256) (Some n) None
