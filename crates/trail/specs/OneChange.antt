-- The old values of a step, which changes at most one register or one word. Its kind is 1.
-- That they are its `old_values` is in the crate step, proofs/Completing.antt.
-- Assumes nothing.
use Rattle.std.specs.Prelude.{ℕ, Bool, false, cond, List, [], ◌∷◌, ◌++◌, eqb, length, replicate, None}
use Rattle.trail.specs.declared.Kind.TheVariants.{Step}
use Rattle.trail.specs.declared.OldValues.{OldValues}
use Rattle.trail.specs.Numbers.{groups, bytes_if}
use Rattle.trail.specs.Records.{Word, marked, marks_by, word_changed, word_place, word_value}

-- By which of A, X and Y changed, and their old value.
abbrev pub one_change : Bool → Bool → Bool → ℕ → ℕ → Bool → Bool → Word → OldValues
one_change a x y old p b stop w =
    record {
      kind = Step;
      marks = marks_by a x y (word_changed w) b stop;
      p = p;
      a = cond a old 0;
      x = cond x old 0;
      y = cond y old 0;
      place = word_place w;
      value = word_value w;
    }

-- No register changed, and perhaps a word.
abbrev pub registers_kept : ℕ → Bool → Bool → Word → OldValues
registers_kept = one_change false false false 0

-- The weights of the marks of A, X and Y.
pub data Register : ℕ → Type 0 where
  is_a : Register 1
  is_x : Register 2
  is_y : Register 4

-- One register changed, and no word.
abbrev pub register_changed : ℕ → ℕ → Bool → Bool → ℕ → OldValues
register_changed w p b stop old = one_change (eqb w 1) (eqb w 2) (eqb w 4) old p b stop None

-- A record, by the bytes before L.
abbrev pub closed : List ℕ → List ℕ
closed s = s ++ (length s ∷ [])

-- The record of one register or one word: the kind 1; the marks, which are one byte; P; the word's place, if one is marked; the value.
unfoldable pub one_value : ℕ → ℕ → ℕ → ℕ → List ℕ
one_value marks p place v = closed (1 ∷ (marks ∷ (groups p ++ (bytes_if (marked 8 marks) place ++ groups v))))

-- The kind 1 and nine bytes at the head of a record's array.
abbrev pub nine : ℕ → ℕ → ℕ → ℕ → ℕ → ℕ → ℕ → ℕ → ℕ → List ℕ
nine b0 b1 b2 b3 b4 b5 b6 b7 b8 = 1 ∷ b0 ∷ b1 ∷ b2 ∷ b3 ∷ b4 ∷ b5 ∷ b6 ∷ b7 ∷ b8 ∷ replicate 18 0
