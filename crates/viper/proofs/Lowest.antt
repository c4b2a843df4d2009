-- The refusal answered, from what each of the eight tests says.
-- Assumes nothing.
use Prim.{tt}
use mathlib.Core.Path.{◌≡◌, refl}
use mathlib.Core.Bool.{Bool, true, false, cond}
use Rattle.viper.specs.declared.Refusal.{Refusal}
use Rattle.viper.specs.declared.Refusal.TheVariants.{PTooLarge, StoreTooLong, CountTooLarge, Stopped, Unfitted, TrailFull, NothingInUse, BrokenRecord}
use Rattle.std.specs.Prelude.{Ok, Err}
use Rattle.viper.specs.Refusals.{when, or_else, lowest}

pub lowest_by : (f : Refusal → Bool) {t₁ t₂ t₃ t₄ t₅ t₆ t₇ t₈ : Bool} → f PTooLarge ≡ t₁ → f StoreTooLong ≡ t₂ → f CountTooLarge ≡ t₃ → f Stopped ≡ t₄
    → f Unfitted ≡ t₅ → f TrailFull ≡ t₆ → f NothingInUse ≡ t₇ → f BrokenRecord ≡ t₈
    → lowest f
    ≡ or_else (when t₁ PTooLarge) (or_else (when t₂ StoreTooLong) (or_else (when t₃ CountTooLarge) (or_else (when t₄ Stopped)
    (or_else (when t₅ Unfitted) (or_else (when t₆ TrailFull) (or_else (when t₇ NothingInUse) (when t₈ BrokenRecord)))))))
lowest_by f e₁ e₂ e₃ e₄ e₅ e₆ e₇ e₈ = rw (e₁, e₂, e₃, e₄, e₅, e₆, e₇, e₈)

-- 5 and 6, where nothing else applies
pub five_six : (u f : Bool) → or_else (when u Unfitted) (or_else (when f TrailFull) (Ok tt)) ≡ cond u (Err Unfitted) (cond f (Err TrailFull) (Ok tt))
five_six true f = refl
five_six false true = refl
five_six false false = refl
