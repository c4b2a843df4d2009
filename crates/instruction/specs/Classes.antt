-- Document 01: the ten bits 29-20 decide a word's class, by the tests of "The instruction, from the report".
-- 0 comparison, 1 always halts, 2 main write, 3 port write, 4 5 6 destination A X Y, 7 destination P always, 8 if B, 9 if not B.
-- Assumes nothing.
use Rattle.std.specs.Prelude.{◌≡◌, ℕ, ◌/◌, ◌%◌, ◌<◌, cond, List, ◌==◌, slice_index}
use Rattle.report.specs.Parts.{msf, dsf, csf, fsf, always_halts}

unfoldable pub class_by : ℕ → ℕ → ℕ → ℕ → ℕ
class_by mf df cf ff =
    cond (cf == 1) 0
    (cond (always_halts mf df cf ff) 1
    (cond (df == 7) 2
    (cond (df == 6) 3
    (cond (df == 0) 4
    (cond (df == 1) 5
    (cond (df == 2) 6
    (cond (df == 3) 7
    (cond (df == 4) 8 9))))))))

-- The class of the number k of bits 29-20.
abbrev pub class_of : ℕ → ℕ
class_of k = class_by (k / 256) (k / 32 % 8) (k / 16 % 2) (k % 16)

abbrev pub class_of_word : ℕ → ℕ
class_of_word w = class_by (msf w) (dsf w) (csf w) (fsf w)

-- A table of the 1,024 classes.
pub record Classified (t : List ℕ) : Type 0 where
  pub entry : (k : ℕ) → k < 1024 → slice_index t k ≡ class_of k
