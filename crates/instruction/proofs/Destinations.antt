-- What a word's class says of its dsf and fsf: where a write or a result goes, and which functions come with a result for P.
-- Each law rests on one test, computed over the 1,024 classes.
-- Assumes nothing.
use Rattle.std.proofs.Common.{◌≡◌, ℕ, ◌+◌, ◌≤◌, true, ◌&&◌, eqb, leb, eqb-true, le-leb, leb-true}
use Rattle.report.specs.Parts.{dsf, fsf, jumping, to_p}
use Rattle.report.proofs.Finite.{over}
use Rattle.instruction.specs.Classes.{class_by, class_of_word}

-- ---- the tests: at the classes of that kind the right side holds too

write_test : (w : ℕ)
    → (leb 2 (class_of_word w) && (leb (class_of_word w) 3 && eqb (class_of_word w) 3))
    ≡ (leb 2 (class_of_word w) && (leb (class_of_word w) 3 && eqb (dsf w) 6))
unfolding class_by
write_test w =
    over (λ m d c f. leb 2 (class_by m d c f) && (leb (class_by m d c f) 3 && eqb (class_by m d c f) 3))
    (λ m d c f. leb 2 (class_by m d c f) && (leb (class_by m d c f) 3 && eqb d 6)) tt w

register_test : (w : ℕ)
    → (leb 4 (class_of_word w) && (leb (class_of_word w) 6 && eqb (dsf w + 4) (class_of_word w)))
    ≡ (leb 4 (class_of_word w) && leb (class_of_word w) 6)
unfolding class_by
register_test w =
    over (λ m d c f. leb 4 (class_by m d c f) && (leb (class_by m d c f) 6 && eqb (d + 4) (class_by m d c f)))
    (λ m d c f. leb 4 (class_by m d c f) && leb (class_by m d c f) 6) tt w

jump_from_3 : (w : ℕ) → (leb 7 (class_of_word w) && leb 3 (dsf w)) ≡ leb 7 (class_of_word w)
unfolding class_by
jump_from_3 w = over (λ m d c f. leb 7 (class_by m d c f) && leb 3 d) (λ m d c f. leb 7 (class_by m d c f)) tt w

jump_to_p_test : (w : ℕ) → (leb 7 (class_of_word w) && to_p (dsf w)) ≡ leb 7 (class_of_word w)
unfolding class_by
jump_to_p_test w = over (λ m d c f. leb 7 (class_by m d c f) && to_p d) (λ m d c f. leb 7 (class_by m d c f)) tt w

function_test : (w : ℕ)
    → (leb 7 (class_of_word w) && jumping (fsf w))
    ≡ leb 7 (class_of_word w)
unfolding class_by
function_test w =
    over (λ m d c f. leb 7 (class_by m d c f) && jumping f) (λ m d c f. leb 7 (class_by m d c f)) tt w

-- ---- the laws

-- Of the writes, class 3 is the one with dsf 6: it goes to a port.
pub write_class : (w : ℕ) → 2 ≤ class_of_word w → class_of_word w ≤ 3 → eqb (class_of_word w) 3 ≡ eqb (dsf w) 6
write_class w g h = rw (le-leb 2 (class_of_word w) g, le-leb (class_of_word w) 3 h) at (write_test w)

-- A result for A, X or Y has class 4, 5 or 6, at dsf 0, 1 or 2.
pub register_class : (w : ℕ) → 4 ≤ class_of_word w → class_of_word w ≤ 6 → dsf w + 4 ≡ class_of_word w
register_class w g h =
    eqb-true (dsf w + 4) (class_of_word w) (rw (le-leb 4 (class_of_word w) g, le-leb (class_of_word w) 6 h) at (register_test w))

-- A result for P does not go to A, X or Y.
pub jump_class : (w : ℕ) → 7 ≤ class_of_word w → 3 ≤ dsf w
jump_class w g = leb-true 3 (dsf w) (rw (le-leb 7 (class_of_word w) g) at (jump_from_3 w))

-- It has dsf 3, 4 or 5.
pub jump_to_p : (w : ℕ) → 7 ≤ class_of_word w → to_p (dsf w) ≡ true
jump_to_p w g = rw (le-leb 7 (class_of_word w) g) at (jump_to_p_test w)

-- Its function is 1, 3, 5 or 7: the others halt.
pub jump_function : (w : ℕ) → 7 ≤ class_of_word w → jumping (fsf w) ≡ true
jump_function w g = rw (le-leb 7 (class_of_word w) g) at (function_test w)
