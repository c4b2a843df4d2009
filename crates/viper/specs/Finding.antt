-- What the code says of the newest record, once the stores are taken back: the refusal, or the old values left for the machine.
-- Assumes nothing.
use Prim.{Unit, tt}
use Rattle.std.specs.Prelude.{ℕ, ◌%◌, ◌≡◌, Result, Ok, Err}
use Rattle.report.specs.AnnexA.{Mem}
use Rattle.machine.specs.Held.{state, machine_of}
use Rattle.trail.specs.Records.{restored}
use Rattle.trail.specs.declared.OldValues.{OldValues}
use Rattle.viper.specs.Operations.{Bench}
use Rattle.viper.specs.TakingBack.{back_outcome}
use Rattle.viper.specs.declared.Refusal.{Refusal}
use Rattle.reading.specs.declared.short.Marked.{Marked}
use Rattle.reading.specs.declared.short.Marked.TheVariants as marked
use Rattle.reading.specs.declared.short.MarkedRecord.{MarkedRecord}

-- What is known of a record's marks for A, X, Y and the word.
abbrev pub Marks : Marked → ℕ → Type 0
Marks marked.Nothing marks = marks % 16 ≡ 0
Marks marked.A marks = marks % 16 ≡ 1
Marks marked.X marks = marks % 16 ≡ 2
Marks marked.Y marks = marks % 16 ≡ 4
Marks marked.Any marks = Unit {0}

-- The stores are taken back, and these old values are left for the machine.
pub record Restores (stores : Mem) (b : Bench) (o : OldValues) (left : ℕ) (k : Marked) : Type 0 where
  pub outcome : record { answered = Ok tt; bench = record { state = state (machine_of (restored o b.state)) stores; trail = b.trail; used = left } } ≡ back_outcome b
  pub marks : Marks k o.marks

-- What is found where the stores are left so: the refusal that take back answers, or those old values.
abbrev pub Finds : Result MarkedRecord Refusal → Mem → Bench → Type 0
Finds (Err r) stores b = record { answered = Err r; bench = record { state = state (machine_of b.state) stores; trail = b.trail; used = b.used } } ≡ back_outcome b
Finds (Ok f) stores b = Restores stores b f.values f.left f.marked
