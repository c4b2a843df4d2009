-- One line of an import: a record in the standard's layout, then perhaps a carriage return, then a line feed.
-- Assumes nothing.
use Rattle.std.specs.Prelude.{ℕ, zero, suc, ◌+◌, ◌*◌, ◌/◌, ◌%◌, Bool, true, cond, ◌&&◌, List, [], ◌∷◌, leb, ltb, eqb, get_or, drop, sum, Option, Some, None}
use Prim.Native.Char.{code}
use Rattle.intel_hex.specs.Digits.{byte}
use Rattle.intel_hex.specs.declared.lines.Line.{Line}
use Rattle.intel_hex.specs.declared.lines.Line.TheVariants.{Data, Upper, End}

-- What k pairs of digits stand for; a pair that is none is 256.
abbrev pub bytes : ℕ → List ℕ → List ℕ
bytes zero signs = []
bytes (suc k) signs = byte signs ∷ bytes k (drop 2 signs)

abbrev pub all_bytes : List ℕ → Bool
all_bytes [] = true
all_bytes (b ∷ bs) = ltb b 256 && all_bytes bs

-- What bytes add up to, modulo 256; 256 where one of them is none.
unfoldable pub summed : List ℕ → ℕ
summed bs = cond (all_bytes bs) (sum bs % 256) 256

-- The fields of a record, at their places.
abbrev pub count_of : List ℕ → ℕ
count_of line = byte (drop 1 line)

abbrev pub address_of : List ℕ → ℕ
address_of line = 256 * byte (drop 3 line) + byte (drop 5 line)

abbrev pub type_of : List ℕ → ℕ
type_of line = byte (drop 7 line)

-- The signs of a record, from the colon to the sum.
abbrev pub signs_of : List ℕ → ℕ
signs_of line = 11 + 2 * count_of line

-- How many bytes end a line that has these two next: a line feed, or a carriage return and a line feed; 0 where none does.
unfoldable pub ending_of : ℕ → ℕ → ℕ
ending_of a b = cond (eqb a (code "\n")) 1 (cond (eqb a (code "\r") && eqb b (code "\n")) 2 0)

unfoldable pub ending : List ℕ → ℕ
ending rest = ending_of (get_or rest 0 0) (get_or rest 1 0)

-- That number, if there is an ending.
abbrev pub some_ending : ℕ → Option ℕ
some_ending n = cond (ltb 0 n) (Some n) None

-- The bytes of a line, its ending with them.
unfoldable pub size_of : List ℕ → ℕ
size_of line = signs_of line + ending (drop (signs_of line) line)

-- The colon, as many pairs as the count says, the sum, the ending.
unfoldable pub well_formed : List ℕ → Bool
well_formed line =
    eqb (get_or line 0 0) (code ":")
    && (eqb (summed (bytes (count_of line + 5) (drop 1 line))) 0
    && ltb 0 (ending (drop (signs_of line) line)))

-- Type 00: count and address in whole words, and not past its 64 KiB.
unfoldable pub data_line : ℕ → ℕ → Option Line
data_line count address =
    cond (eqb (count % 4) 0 && (eqb (address % 4) 0 && leb (address + count) 65536))
    (Some (Data (record { first = address / 4; words = count / 4 })))
    None

-- Type 01.
unfoldable pub end_of : ℕ → ℕ → Option Line
end_of count address = cond (eqb count 0 && eqb address 0) (Some End) None

-- Type 04: where the 64 KiB of an upper address start, in words.
unfoldable pub upper_of : ℕ → ℕ → ℕ → Option Line
upper_of count address upper = cond (eqb count 2 && eqb address 0) (Some (Upper (16384 * upper))) None

-- What a record's type says.
unfoldable pub by_type : ℕ → ℕ → ℕ → ℕ → Option Line
by_type type count address upper =
    cond (eqb type 0) (data_line count address)
    (cond (eqb type 1) (end_of count address)
    (cond (eqb type 4) (upper_of count address upper)
    None))

unfoldable pub layout_of : List ℕ → Option Line
layout_of line = by_type (type_of line) (count_of line) (address_of line) (256 * byte (drop 9 line) + byte (drop 11 line))

-- The first line of a text, if it is well-formed and its type says something.
unfoldable pub line_of : List ℕ → Option Line
line_of text = cond (well_formed text) (layout_of text) None

-- What is read of a line, and the line's bytes.
abbrev pub with_size : {A : Type 0} → List ℕ → Option A → Option (A × ℕ)
with_size line (Some a) = Some (a, size_of line)
with_size line None = None
