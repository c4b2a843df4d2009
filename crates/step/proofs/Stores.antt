-- What is to be written has a lawful place and value; and the change finished, by the record that was added.
-- Assumes nothing.
use mathlib.Core.Path.{◌≡◌}
use mathlib.Core.Bool.{Bool, true, false, cond}
use mathlib.Core.List.{List}
use Prim.Native.Nat.{ℕ, ◌<◌, ◌^◌}
use native.Mathlib.Omega.{arith}
use lib.Dec.{eqb}
use lib.ListN.{get_or}
use Rattle.report.specs.AnnexA.{Mem}
use Rattle.report.specs.Parts.{Where, word_at}
use Rattle.machine.specs.Held.{ram, where_of}
use Rattle.machine.specs.declared.Machine.{Machine}
use Rattle.trail.specs.declared.Kind.{Kind}
use Rattle.trail.specs.Records as records
use Rattle.trail.specs.declared.OldValues.{OldValues}
use Rattle.trail.specs.declared.TrailFull.{TrailFull}
use Rattle.trail.specs.Records.{Word}
use Rattle.std.specs.Prelude.{Some, None, Result, Ok, Err}
use Rattle.step.specs.Phases as written
use Rattle.step.specs.Phases.{Written, Change}
use Rattle.step.specs.Finishing.{Addressed, changing, rewritten, left, finished}

-- ---- what is to be written

-- the record of what is to be written has a lawful place and value
pub changing_addressed : (r : Mem) (w : Written) → Addressed r w → records.Addressed (changing r w)
changing_addressed r written.Nothing h = tt
changing_addressed r (written.Word q v) h = go (eqb (word_at r (where_of q)) v)
  where
    go : (t : Bool) → records.Addressed (cond t None (Some (record { place = q; value = word_at r (where_of q) })))
    go true = tt
    go false = h.low

in_range : (main ports : List ℕ) (q : Where) → ((k : ℕ) → get_or main k 0 < 2 ^ 32) → ((k : ℕ) → get_or ports k 0 < 2 ^ 32) → word_at (ram main ports) q < 2 ^ 32
unfolding word_at
in_range main ports (true, n) hm hp = hp n
in_range main ports (false, n) hm hp = hm n

pub changing_value : (main ports : List ℕ) (w : Written) → ((k : ℕ) → get_or main k 0 < 2 ^ 32) → ((k : ℕ) → get_or ports k 0 < 2 ^ 32)
    → records.word_value (changing (ram main ports) w) < 2 ^ 32
changing_value main ports written.Nothing hm hp = omega arith
changing_value main ports (written.Word q v) hm hp = go (eqb (word_at (ram main ports) (where_of q)) v)
  where
    go : (t : Bool) → records.word_value (cond t None (Some (record { place = q; value = word_at (ram main ports) (where_of q) }))) < 2 ^ 32
    go true = omega arith
    go false = in_range main ports (where_of q) hm hp

-- ---- the last phase

module _ (k : Kind) (m : Machine) (c : Change) (r : Mem) (t : List ℕ) (used : ℕ) (w : Word) (o : OldValues) (a : Result ℕ TrailFull) (t' : List ℕ)
    (hw : w ≡ changing r c.written) (ho : o ≡ records.old_values k m c.machine w) (ha : (a, t') ≡ records.added t used (records.record_bytes o)) where
  pub finish_full : {x : TrailFull} → a ≡ Err x → left (Err x) r t' ≡ finished k m c r t used
  unfolding finished
  finish_full e = rw (← hw, ← ho, ← ha, e)

  pub finish_done : (n : ℕ) (r' : Mem) → a ≡ Ok n → r' ≡ rewritten r c.written → left (Ok n) r' t' ≡ finished k m c r t used
  unfolding finished
  finish_done n r' e h = rw (← hw, ← ho, ← ha, e, h)
