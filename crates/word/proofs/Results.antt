-- The report's ALU where it is known that the destination is A, X or Y, or that it is P.
-- Assumes nothing.
use Rattle.std.proofs.Common.{◌≡◌, ℕ, ◌^◌, ◌<◌, Bool, true, false, ◌||◌, eqb, refl, true≢false, arith, ne_eqb, eqb-true}
use Rattle.report.specs.Section3.{ALU, INVALID}
use Rattle.report.specs.Parts.{computed, jumping, to_p}
use Rattle.report.proofs.Readings.{alu_is}

-- dsf 0, 1 and 2 are A, X and Y
pub not_p : (df : ℕ) → df < 3 → to_p df ≡ false
not_p df h = simp (ne_eqb df 3 (omega arith), ne_eqb df 4 (omega arith), ne_eqb df 5 (omega arith))

pub register_is : (ff mf df r m : ℕ) (b : Bool) → df < 3 → r < 2 ^ 32 → m < 2 ^ 32
    → ALU (ff, mf, df, r, m, b) ≡ computed ff mf false r m b
register_is ff mf df r m b h hr hm = rw (← not_p df h) (alu_is ff mf df r m b hr hm)

-- one of four tests holds; where the first, the third and the fourth do not, the second does
only_3 : (t₁ t₃ t₅ t₇ : Bool) → (t₁ || (t₃ || (t₅ || t₇))) ≡ true → t₅ ≡ false → t₇ ≡ false → t₁ ≡ false → t₃ ≡ true
only_3 true t₃ t₅ t₇ e p q z = absurd (true≢false z)
only_3 false true t₅ t₇ e p q z = refl
only_3 false false true t₇ e p q z = absurd (true≢false p)
only_3 false false false true e p q z = absurd (true≢false q)
only_3 false false false false e p q z = e

-- the functions 1 and 3 give M to P
pub jump_to_m : (ff mf df r m : ℕ) (b : Bool) → jumping ff ≡ true
    → (ff ≡ 5 → ⊥) → (ff ≡ 7 → ⊥) → to_p df ≡ true → ALU (ff, mf, df, r, m, b) ≡ (m, b, INVALID m)
unfolding ALU
jump_to_m ff mf df r m b e n5 n7 h = go (eqb ff 1) refl
  where
    go : (t : Bool) → eqb ff 1 ≡ t → ALU (ff, mf, df, r, m, b) ≡ (m, b, INVALID m)
    go true p = rw (eqb-true ff 1 p, h)
    go false p = rw (eqb-true ff 3 (only_3 (eqb ff 1) (eqb ff 3) (eqb ff 5) (eqb ff 7) e (ne_eqb ff 5 n5) (ne_eqb ff 7 n7) p), h)
