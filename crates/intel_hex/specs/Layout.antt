-- A record of Intel HEX: a colon, then in pairs of digits the count, the address, the type, the data and the sum.
-- Assumes nothing.
use Rattle.std.specs.Prelude.{ℕ, ◌+◌, ◌-◌, ◌/◌, ◌%◌, List, [], ◌∷◌, ◌++◌, length, sum}
use Prim.Native.Char.{code}
use Rattle.intel_hex.specs.Digits.{digits_of}

-- Bytes as pairs of digits.
abbrev pub pairs : List ℕ → List ℕ
pairs [] = []
pairs (b ∷ bytes) = digits_of b ++ pairs bytes

-- The last byte of a record: with it all bytes add up to 0 modulo 256.
unfoldable pub sum_byte : ℕ → ℕ
sum_byte total = (256 - total % 256) % 256

-- What stands before a record's data.
abbrev pub head_bytes : ℕ → ℕ → ℕ → List ℕ
head_bytes count address type = count ∷ address / 256 ∷ address % 256 ∷ type ∷ []

-- A record with these data bytes, and the line feed.
unfoldable pub record_line : ℕ → ℕ → List ℕ → List ℕ
record_line type address bytes =
    let head = head_bytes (length bytes) address type in
    (code ":" ∷ pairs head) ++ pairs bytes ++ (digits_of (sum_byte (sum head + sum bytes)) ++ (code "\n" ∷ []))

-- A word's bytes, the high one first.
abbrev pub word_bytes : ℕ → List ℕ
word_bytes w = w / 16777216 % 256 ∷ w / 65536 % 256 ∷ w / 256 % 256 ∷ w % 256 ∷ []

abbrev pub data_bytes : List ℕ → List ℕ
data_bytes [] = []
data_bytes (w ∷ words) = word_bytes w ++ data_bytes words
