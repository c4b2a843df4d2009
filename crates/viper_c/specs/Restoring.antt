-- The old values of a record put back in regs, word by word.
-- Assumes nothing.
use Rattle.std.specs.Prelude.{ℕ, Bool, cond, List, [], ◌∷◌, get_or, set}
use Rattle.trail.specs.Records.{marked}
use Rattle.trail.specs.declared.OldValues.{OldValues}
use Rattle.viper_c.specs.Surface.{one_or_zero}

-- P, B and STOP.
abbrev pub flags_put : OldValues → List ℕ → List ℕ
flags_put o regs =
    get_or regs 0 0 ∷ get_or regs 1 0 ∷ get_or regs 2 0 ∷ o.p ∷ one_or_zero (marked 16 o.marks) ∷ one_or_zero (marked 32 o.marks) ∷ []

-- A word put in its place, if it is marked.
abbrev pub put_if : Bool → ℕ → ℕ → List ℕ → List ℕ
put_if t i v regs = cond t (set regs i v) regs

-- All of a record but its word.
abbrev pub all_put : OldValues → List ℕ → List ℕ
all_put o regs =
    put_if (marked 4 o.marks) 2 o.y (put_if (marked 2 o.marks) 1 o.x (put_if (marked 1 o.marks) 0 o.a (flags_put o regs)))
