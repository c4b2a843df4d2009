-- A fixed text compared with the bytes at a place.
-- Assumes nothing.
use Rattle.std.specs.Prelude.{ℕ, Bool, true, false, ◌&&◌, List, [], ◌∷◌, eqb}

-- The bytes begin with the fixed text.
unfoldable pub begins : List ℕ → List ℕ → Bool
begins [] bytes = true
begins (f ∷ fixed) [] = false
begins (f ∷ fixed) (b ∷ bytes) = eqb f b && begins fixed bytes
