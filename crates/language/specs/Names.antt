-- The names of document 02, W1, in its order: of destinations, functions, shifts, comparisons and registers.
-- Assumes nothing.
use Rattle.std.specs.Prelude.{ℕ, ◌-◌, cond, List, [], ◌∷◌, ◌++◌, leb, eqb, get_or}
use Prim.Native.Char.{code}
use Prim.Native.String.{String}
use Rattle.text.specs.Text.{text}

-- A byte before the first of some texts.
abbrev pub before_first : ℕ → List (List ℕ) → List (List ℕ)
before_first b [] = (b ∷ []) ∷ []
before_first b (t ∷ ts) = (b ∷ t) ∷ ts

-- The texts between the single blanks of a text.
unfoldable pub split : List ℕ → List (List ℕ)
split [] = [] ∷ []
split (b ∷ bytes) =
    let rest = split bytes in
    cond (eqb b (code " ")) ([] ∷ rest) (before_first b rest)

abbrev pub names : String → List (List ℕ)
names s = split (text s)

-- What stands in the destination's place, by the word's class: it is compared, or always halts; it writes to main or to ports; its result goes to A, X
-- or Y, or to P always, if B or if not B.
unfoldable pub class_name : ℕ → List ℕ
class_name k = get_or (names "CMP WORD MEM IO A X Y P PB PN") k []

-- By dsf.
unfoldable pub destination_name : ℕ → List ℕ
destination_name d = get_or (names "A X Y P PB PN IO MEM") d []

-- By fsf.
unfoldable pub function_name : ℕ → List ℕ
function_name f = get_or (names "NEG CALL IN LD ADD ADDS SUB SUBS XOR AND NOR ANDN") f []

-- By msf.
unfoldable pub shift_name : ℕ → List ℕ
shift_name m = get_or (names "ASR ROR SHLS ROL") m []

-- By fsf: B is added when ORed.
unfoldable pub comparison_name : ℕ → List ℕ
comparison_name f =
    cond (leb f 7) (get_or (names "LT GE EQ NE LE GT BL BH") f [])
    (cond (leb f 15) (get_or (names "LT GE EQ NE LE GT BL BH") (f - 8) [] ++ text "B")
    [])

-- By rsf: 3 is N, not P.
unfoldable pub register_name : ℕ → List ℕ
register_name r = get_or (names "A X Y N") r []
