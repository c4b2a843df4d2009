-- Carriage returns put before the line feeds of a text (document 02, W4: a line of an import may end with both).
-- Assumes nothing.
use Rattle.std.specs.Prelude.{ℕ, Bool, false, cond, ◌&&◌, List, [], ◌∷◌, ◌++◌, eqb}
use Prim.Native.Char.{code}

abbrev pub first_choice : List Bool → Bool
first_choice [] = false
first_choice (choice ∷ choices) = choice

abbrev pub other_choices : List Bool → List Bool
other_choices [] = []
other_choices (choice ∷ choices) = choices

-- A text with a carriage return put before its first line feed if the first choice says so, before the second if the second does,
-- and so on; none where the choices end.
unfoldable pub with_returns : List Bool → List ℕ → List ℕ
with_returns choices [] = []
with_returns choices (sign ∷ text) =
    let feed = eqb sign (code "\n") in
    cond (feed && first_choice choices) (code "\r" ∷ []) [] ++ (sign ∷ with_returns (cond feed (other_choices choices) choices) text)
