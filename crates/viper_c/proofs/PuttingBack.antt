-- The old values of a record put back in regs are those of the machine restored, and what is known of its marks goes with what it is said to mark.
-- Assumes nothing.
use Prim.Native.Nat.{ℕ}
use mathlib.Core.Path.{◌≡◌, refl}
use mathlib.Core.Bool.{Bool, true, false, cond}
use mathlib.Core.List.{List, [], ◌∷◌}
use lib.ListN.{get_or}
use Rattle.report.specs.AnnexA.{Mem}
use Rattle.machine.specs.Held.{state, machine_of}
use Rattle.trail.specs.Records.{restored, marked}
use Rattle.trail.specs.declared.OldValues.{OldValues}
use Rattle.reading.specs.declared.short.Marked.{Marked}
use Rattle.viper.specs.Finding.{Marks}
use Rattle.viper_c.specs.Surface.{one_or_zero, machine_of_regs, regs_of_machine}
use Rattle.viper_c.specs.Restoring.{put_if, flags_put, all_put}

pub known : {k t : Marked} (marks : ℕ) → k ≡ t → Marks k marks → Marks t marks
known marks e h = rw e at h

pub all_restored : (o : OldValues) (r : Mem) (regs : List ℕ) → all_put o regs ≡ regs_of_machine (machine_of (restored o (state (machine_of_regs regs) r)))
unfolding restored
all_restored o r regs = go (marked 1 o.marks) (marked 2 o.marks) (marked 4 o.marks)
  where
    go : (ta tx ty : Bool) → put_if ty 2 o.y (put_if tx 1 o.x (put_if ta 0 o.a (flags_put o regs)))
        ≡ cond ta o.a (get_or regs 0 0) ∷ (cond tx o.x (get_or regs 1 0) ∷ (cond ty o.y (get_or regs 2 0) ∷ (o.p ∷ (one_or_zero (marked 16 o.marks) ∷ (one_or_zero (marked 32 o.marks) ∷ [])))))
    go true true true = refl
    go true true false = refl
    go true false true = refl
    go true false false = refl
    go false true true = refl
    go false true false = refl
    go false false true = refl
    go false false false = refl
