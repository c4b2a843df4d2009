-- Numbers as digits: decimal and hex with A-F (document 01, "The counter program"), and what a hex digit is worth.
-- Assumes nothing.
use Rattle.std.specs.Prelude.{ℕ, zero, suc, ◌+◌, ◌*◌, ◌-◌, ◌/◌, ◌%◌, cond, ◌&&◌, List, [], ◌∷◌, ◌++◌, leb, ltb}
use Prim.Native.Char.{code}

-- The digit of a value below 16: 0-9, then A-F.
abbrev pub digit : ℕ → ℕ
digit value = cond (ltb value 10) (code "0" + value) (code "A" + (value - 10))

-- n in decimal, where k is at least n.
unfoldable pub decimal_in : ℕ → ℕ → List ℕ
decimal_in zero n = digit n ∷ []
decimal_in (suc k) n =
    let longer = decimal_in k (n / 10) ++ (digit (n % 10) ∷ []) in
    cond (ltb n 10) (digit n ∷ []) longer

-- n in decimal, with no leading zero.
unfoldable pub decimal : ℕ → List ℕ
decimal n = decimal_in n n

-- The last digits of n in hex, as many as the width says.
unfoldable pub hex : ℕ → ℕ → List ℕ
hex zero n = []
hex (suc width) n = hex width (n / 16) ++ (digit (n % 16) ∷ [])

-- The value of a hex digit, 0-9 or A-F; a byte that is none has 16.
unfoldable pub digit_value : ℕ → ℕ
digit_value b =
    cond (leb (code "0") b && leb b (code "9")) (b - code "0")
    (cond (leb (code "A") b && leb b (code "F")) (b - code "A" + 10)
    16)

-- The number that hex digits make, after digits of value v.
unfoldable pub number : ℕ → List ℕ → ℕ
number v [] = v
number v (b ∷ digits) = number (v * 16 + digit_value b) digits
