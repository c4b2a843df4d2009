-- What reset and force share: the machine changes, the stores do not, and the record of the change goes to the trail; and what taking back does to the stores.
-- Assumes nothing.
use Rattle.std.specs.Prelude.{ℕ, ◌+◌, ◌-◌, ◌^◌, ◌≡◌, true, cond, List, leb, ltb, length, None}
use Rattle.report.specs.AnnexA.{Mem}
use Rattle.report.specs.Parts.{with_word}
use Rattle.machine.specs.Held.{state}
use Rattle.machine.specs.declared.Machine.{Machine}
use Rattle.trail.specs.declared.Kind.{Kind}
use Rattle.trail.specs.Records.{marked, where_of_number, old_values, record_bytes, put}
use Rattle.trail.specs.declared.OldValues.{OldValues}
use Rattle.viper.specs.Refusals.{Answer, when, or_else, if_done}
use Rattle.viper.specs.Operations.{Bench, Outcome}
use Rattle.step.specs.Finishing.{Fitted}
use Rattle.viper.specs.declared.Refusal.TheVariants.{PTooLarge, CountTooLarge, TrailFull}

abbrev pub noted_by : Answer → Bench → Bench → Outcome
noted_by a done b = record { answered = a; bench = if_done a done b }

unfoldable pub noted : Kind → Machine → Machine → Mem → List ℕ → ℕ → Outcome
noted k m after ram trail used =
    let r = record_bytes (old_values k m after None) in
    noted_by
    (or_else (when (leb (2 ^ 20) m.p) PTooLarge)
    (or_else (when (ltb (length trail) used) CountTooLarge)
    (when (ltb (length trail - used) (length r)) TrailFull)))
    (record { state = state after ram; trail = put trail used r; used = used + length r })
    (record { state = state m ram; trail = trail; used = used })

-- The stores with the word of a record put back.
abbrev pub stores_restored : OldValues → Mem → Mem
stores_restored o ram = cond (marked 8 o.marks) (with_word ram (where_of_number o.place) o.value) ram

-- The word of a record is fitted, if it marks one.
abbrev pub Refits : Mem → OldValues → Type 0
Refits ram o = marked 8 o.marks ≡ true → Fitted ram (where_of_number o.place)
