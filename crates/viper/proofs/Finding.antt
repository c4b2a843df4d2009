-- What taking back finds, by what was read of the newest record: a short one marks no word, and of A, X and Y at most one.
-- Assumes nothing.
use Prim.Native.Nat.{ℕ, ◌%◌, ◌/◌}
use Prim.{tt}
use mathlib.Core.Path.{◌≡◌, refl, ap, ◌∙◌}
use mathlib.Core.List.{List}
use native.Mathlib.Omega.{arith}
use lib.ListN.{length}
use borrow.Author.Tests.{ne_eqb}
use Rattle.report.specs.AnnexA.{Mem}
use Rattle.report.specs.Section3.{State}
use Rattle.machine.specs.Held.{ram, state, machine_of}
use Rattle.machine.specs.declared.Machine.{Machine}
use Rattle.trail.specs.Records.{restored}
use Rattle.trail.specs.declared.OldValues.{OldValues}
use Rattle.trail.specs.declared.Newest.{Newest}
use Rattle.trail.specs.declared.Broken.{Broken}
use Rattle.trail.specs.Newest.{read_back}
use Rattle.reading.specs.Finding.{MarksAlone, Holds, Says, short_record}
use Rattle.reading.specs.declared.short.MarkedRecord.{MarkedRecord}
use Rattle.viper.specs.declared.Refusal.TheVariants.{BrokenRecord}
use Rattle.std.specs.Prelude.{Result, Ok, Err, Option, Some}
use Rattle.viper.specs.Refusals.{Answer}
use Rattle.reading.specs.declared.short.Marked.{Marked}
use Rattle.reading.specs.declared.short.Marked.TheVariants as marked
use Rattle.viper.specs.Noting.{stores_restored}
use Rattle.viper.specs.Operations.{newest_of}
use Rattle.viper.specs.TakingBack.{back_outcome}
use Rattle.viper.specs.Finding.{Marks, Restores}
use Rattle.viper.specs.Judging.{first_refusals}
use Rattle.viper.specs.Told.{bench}
use Rattle.viper.proofs.Exits.{back_broken, back_ready, restored_parts, none_restored}

-- ---- what a short record marks

no_word : (k : Marked) (marks : ℕ) → MarksAlone k marks → marks / 8 % 2 ≡ 1 → ⊥
no_word marked.Nothing marks z = omega arith
no_word marked.A marks z = omega arith
no_word marked.X marks z = omega arith
no_word marked.Y marks z = omega arith
no_word marked.Any marks z = absurd z

marks_so : (k : Marked) (marks : ℕ) → MarksAlone k marks → Marks k marks
marks_so marked.Nothing marks z = z
marks_so marked.A marks z = z
marks_so marked.X marks z = z
marks_so marked.Y marks z = z
marks_so marked.Any marks z = tt

-- No refusal before 8.
module _ (m : Machine) (main ports trail : List ℕ) (used : ℕ) (a : Answer) (k : a ≡ first_refusals m.p (length main) (length ports) (length trail) used) (d : a ≡ Ok tt) (some_used : used ≡ 0 → ⊥) where
  pub restores : (x : Result Newest Broken) (o : OldValues) (n : ℕ) (t : Marked) (r : Mem) → x ≡ newest_of (bench m main ports trail used) → x ≡ read_back o n → r ≡ stores_restored o (ram main ports) → Marks t o.marks
      → Restores r (bench m main ports trail used) o n t
  restores x o n t r h z f w =
      record {
        outcome =
            ap (λ (s : State). record { answered = Ok tt; bench = record { state = s; trail = trail; used = n } })
            (restored_parts o m main ports (machine_of (restored o (state m (ram main ports)))) r refl f)
            ∙ back_ready m main ports trail used a k d some_used x h o n z;
        marks = w;
      }

  -- r is what was said of a short record.
  module _ (r : Result (Option MarkedRecord) Broken) (l : ℕ) (said : Says l r (newest_of (bench m main ports trail used))) where
    pub short_restores : (s : MarkedRecord) → r ≡ Ok (Some s) → Restores (ram main ports) (bench m main ports trail used) s.values s.left s.marked
    short_restores s e =
        let h : Holds (newest_of (bench m main ports trail used)) s = rw e at said in
        restores (newest_of (bench m main ports trail used)) s.values s.left s.marked (ram main ports) refl h.holds
        (none_restored (ram main ports) s.values (ne_eqb (s.values.marks / 8 % 2) 1 (no_word s.marked s.values.marks h.marks)))
        (marks_so s.marked s.values.marks h.marks)

    -- by what it marks: nothing, A, X or Y
    module _ (o : OldValues) (n : ℕ) where
      pub nothing_marked : r ≡ Ok (Some (short_record marked.Nothing o n)) → Restores (ram main ports) (bench m main ports trail used) o n marked.Nothing
      nothing_marked = short_restores (short_record marked.Nothing o n)

      pub a_marked : r ≡ Ok (Some (short_record marked.A o n)) → Restores (ram main ports) (bench m main ports trail used) o n marked.A
      a_marked = short_restores (short_record marked.A o n)

      pub x_marked : r ≡ Ok (Some (short_record marked.X o n)) → Restores (ram main ports) (bench m main ports trail used) o n marked.X
      x_marked = short_restores (short_record marked.X o n)

      pub y_marked : r ≡ Ok (Some (short_record marked.Y o n)) → Restores (ram main ports) (bench m main ports trail used) o n marked.Y
      y_marked = short_restores (short_record marked.Y o n)

    pub short_broken : {e : Broken} → r ≡ Err e → record { answered = Err BrokenRecord; bench = bench m main ports trail used } ≡ back_outcome (bench m main ports trail used)
    short_broken s = back_broken m main ports trail used a k d some_used (newest_of (bench m main ports trail used)) refl (rw s at said)
