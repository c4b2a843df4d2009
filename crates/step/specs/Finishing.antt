-- What the last phase does with a change: its record is added to the trail, and then its word is written.
-- Assumes nothing.
use Rattle.std.specs.Prelude.{ℕ, ◌<◌, ◌^◌, ◌≡◌, true, false, cond, List, eqb, length, Some, None, Result, Ok, Err}
use Rattle.report.specs.AnnexA.{Mem}
use Rattle.report.specs.Parts.{Where, fitted, word_at, with_word}
use Rattle.machine.specs.Held.{where_of}
use Rattle.machine.specs.declared.Machine.{Machine}
use Rattle.trail.specs.declared.Kind.{Kind}
use Rattle.trail.specs.declared.Kind.TheVariants as kind
use Rattle.trail.specs.Records.{Word, old_values, record_bytes, added}
use Rattle.trail.specs.declared.TrailFull.{TrailFull}
use Rattle.machine.specs.Held.{state}
use Rattle.machine.specs.declared.Place.{Place}
use Rattle.step.specs.declared.finish.Next.{Next}
use Rattle.step.specs.declared.finish.Undone.{Undone}
use Rattle.step.specs.declared.finish.Undone.TheVariants as undone
use Rattle.step.specs.Phases as written
use Rattle.step.specs.Phases.{held, Written, Change, Plan, Go, Lacking, planned}

-- A place that a board has, at an address of twenty bits.
pub record Fitted (ram : Mem) (q : Where) : Type 0 where
  pub has : fitted ram q ≡ true
  pub low : q.1 < 2 ^ 20

abbrev pub Addressed : Mem → Written → Type 0
Addressed ram written.Nothing = Unit {0}
Addressed ram (written.Word q v) = Fitted ram (where_of q)

-- A word with this old value, once v is written over it.
abbrev pub changed_to : Place → ℕ → ℕ → Word
changed_to q old v = cond (eqb old v) None (Some (record { place = q; value = old }))

-- The weight of the mark of the register with this number: A, X and Y are 0, 1 and 2.
abbrev pub mark_weight : ℕ → ℕ
mark_weight k = cond (eqb k 0) 1 (cond (eqb k 1) 2 4)

-- The word that changes, with its old value.
abbrev pub changing : Mem → Written → Word
changing ram written.Nothing = None
changing ram (written.Word q v) = changed_to q (word_at ram (where_of q)) v

-- The stores with the word written.
abbrev pub rewritten : Mem → Written → Mem
rewritten ram written.Nothing = ram
rewritten ram (written.Word q v) = with_word ram (where_of q) v

-- The answer, the stores and the trail.
pub record Finish : Type 0 where
  pub answered : Result ℕ TrailFull
  pub stores : Mem
  pub trail : List ℕ

abbrev pub finishing : Result ℕ TrailFull × List ℕ → Mem → Written → Finish
finishing (Err e, t) ram w = record { answered = Err e; stores = ram; trail = t }
finishing (Ok n, t) ram w = record { answered = Ok n; stores = rewritten ram w; trail = t }

unfoldable pub finished : Kind → Machine → Change → Mem → List ℕ → ℕ → Finish
finished k m c ram trail used =
    finishing (added trail used (record_bytes (old_values k m c.machine (changing ram c.written)))) ram c.written

-- What `finish` answered and left.
abbrev pub left : Result ℕ TrailFull → Mem → List ℕ → Finish
left a ram t = record { answered = a; stores = ram; trail = t }

-- ---- what became of a step

-- It was done, with the machine and the count of bytes in use after it, or why not.
pub data Came : Type 0 where
  Done : Machine → ℕ → Came
  Unfitted : Came
  NoRoom : Came

-- As the code answers it, beside the sources after it.
abbrev pub came : Result Next Undone → List ℕ → Came
came (Ok n) sources = Done (held sources n.p n.b n.stop) n.used
came (Err undone.Unfitted) sources = Unfitted
came (Err undone.Full) sources = NoRoom

-- A step leaves the number of the sources, and where it is not done A, X and Y.
abbrev pub Kept : Result Next Undone → List ℕ → List ℕ → Type 0
Kept (Ok n) old new = length new ≡ length old
Kept (Err e) old new = held old 0 false false ≡ held new 0 false false

-- The answer, the stores and the trail.
pub record End : Type 0 where
  pub answer : Came
  pub stores : Mem
  pub trail : List ℕ

abbrev pub ended : Came → Mem → List ℕ → End
ended a ram t = record { answer = a; stores = ram; trail = t }

abbrev pub answered_by : Machine → Result ℕ TrailFull → Came
answered_by m (Err e) = NoRoom
answered_by m (Ok n) = Done m n

abbrev pub ended_by : Machine → Finish → End
ended_by m f = ended (answered_by m f.answered) f.stores f.trail

-- The change finished.
abbrev pub completed : Machine → Change → Mem → List ℕ → ℕ → End
completed m c ram t used = ended_by c.machine (finished kind.Step m c ram t used)

abbrev pub by_plan : Machine → Mem → List ℕ → ℕ → Plan → End
by_plan m ram t used Lacking = ended Unfitted ram t
by_plan m ram t used (Go c) = completed m c ram t used

-- One step.
abbrev pub once : Machine → Mem → List ℕ → ℕ → End
once m ram t used = by_plan m ram t used (planned (state m ram))
