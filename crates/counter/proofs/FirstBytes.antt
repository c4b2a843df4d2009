-- A text is judged by its first bytes: with room for n words the routine is decided by n lines of nine bytes and one byte more, which would begin a line too many.
-- Assumes nothing.
use Prim.Native.Nat.{ℕ, zero, suc, ◌+◌, ◌*◌}
use Rattle.std.specs.Prelude.{Option, None}
use mathlib.Core.Path.{◌≡◌, refl, ap}
use mathlib.Core.Bool.{cond}
use mathlib.Core.List.{List, [], ◌∷◌}
use native.Mathlib.Omega.{arith}
use native.Mathlib.Nat.{zero-add, suc-add}
use lib.Dec.{ltb}
use lib.ListN.{take, drop}
use lib.Seq.{take-nil}
use Rattle.text.specs.Digits.{digit_value}
use Rattle.counter.specs.Routine.{line_after, routine_of}

-- A line of k digits is decided by k + 1 bytes.
line_by_first : (k v m : ℕ) (text : List ℕ) → line_after k v (take (suc k + m) text) ≡ line_after k v text
line_by_first k v m [] = rw (take-nil)
line_by_first zero v m (b ∷ text) = rw (suc-add)
line_by_first (suc k) v m (b ∷ text) =
    rw suc-add
    (ap (λ (l : Option ℕ). cond (ltb (digit_value b) 16) l None) (line_by_first k (v * 16 + digit_value b) m text))

drop_of_take : (k m : ℕ) (l : List ℕ) → drop k (take (k + m) l) ≡ take m (drop k l)
drop_of_take zero m l = rw zero-add
drop_of_take (suc k) m [] = simp take-nil
drop_of_take (suc k) m (x ∷ l) = rw suc-add (drop_of_take k m l)

pub routine_by_first : (room : ℕ) (text : List ℕ) → routine_of room (take (9 * room + 1) text) ≡ routine_of room text
unfolding routine_of
routine_by_first zero [] = refl
routine_by_first zero (b ∷ text) = refl
routine_by_first (suc room) [] = rw take-nil
routine_by_first (suc room) (b ∷ text) =
    let rest = 9 * room + 1 in
    let bytes : 9 * suc room + 1 ≡ suc (8 + rest) = omega arith in
    rw (bytes, line_by_first 7 (0 + digit_value b) rest text, drop_of_take 8 rest text, routine_by_first room (drop 8 text))
