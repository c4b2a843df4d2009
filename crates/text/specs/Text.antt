-- A quoted text as the list of its characters' codes, so that document 01's texts stand here as they stand there. In ASCII the codes are the bytes.
-- Assumes nothing.
use Rattle.std.specs.Prelude.{ℕ, List, [], ◌∷◌}
use Prim.Native.Char.{code}
use Prim.Native.String.{String, [] as end, ◌∷◌ as ◌then◌}

abbrev pub text : String → List ℕ
text end = []
text (c then s) = code c ∷ text s
