-- The sixteen names of comparisons, as the code lists them, are those of the definition.
-- Assumes nothing.
use Prim.Native.Nat.{ℕ, zero, suc, ◌≤◌}
use mathlib.Core.Path.{◌≡◌, refl, sym}
use mathlib.Core.List.{[]}
use native.Mathlib.Omega.{arith}
use lib.ListN.{get_or}
use borrow.Author.Tests.{lt-leb}
use Rattle.language.specs.Names.{names, split, comparison_name}

pub no_comparison : (f : ℕ) → 16 ≤ f → comparison_name f ≡ []
unfolding comparison_name
no_comparison f h = rw (lt-leb f 7 (omega arith), lt-leb f 15 h)

pub comparisons : (f : ℕ) → get_or (names "LT GE EQ NE LE GT BL BH LTB GEB EQB NEB LEB GTB BLB BHB") f [] ≡ comparison_name f
unfolding split comparison_name
comparisons zero = refl
comparisons (suc zero) = refl
comparisons (suc (suc zero)) = refl
comparisons (suc (suc (suc zero))) = refl
comparisons (suc (suc (suc (suc zero)))) = refl
comparisons (suc (suc (suc (suc (suc zero))))) = refl
comparisons (suc (suc (suc (suc (suc (suc zero)))))) = refl
comparisons (suc (suc (suc (suc (suc (suc (suc zero))))))) = refl
comparisons (suc (suc (suc (suc (suc (suc (suc (suc zero)))))))) = refl
comparisons (suc (suc (suc (suc (suc (suc (suc (suc (suc zero))))))))) = refl
comparisons (suc (suc (suc (suc (suc (suc (suc (suc (suc (suc zero)))))))))) = refl
comparisons (suc (suc (suc (suc (suc (suc (suc (suc (suc (suc (suc zero))))))))))) = refl
comparisons (suc (suc (suc (suc (suc (suc (suc (suc (suc (suc (suc (suc zero)))))))))))) = refl
comparisons (suc (suc (suc (suc (suc (suc (suc (suc (suc (suc (suc (suc (suc zero))))))))))))) = refl
comparisons (suc (suc (suc (suc (suc (suc (suc (suc (suc (suc (suc (suc (suc (suc zero)))))))))))))) = refl
comparisons (suc (suc (suc (suc (suc (suc (suc (suc (suc (suc (suc (suc (suc (suc (suc zero))))))))))))))) = refl
comparisons (suc (suc (suc (suc (suc (suc (suc (suc (suc (suc (suc (suc (suc (suc (suc (suc f)))))))))))))))) =
    sym (no_comparison (suc (suc (suc (suc (suc (suc (suc (suc (suc (suc (suc (suc (suc (suc (suc (suc f)))))))))))))))) (omega arith))
