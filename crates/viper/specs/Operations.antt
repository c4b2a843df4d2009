-- Document 01: the operations step, reset, force and set a word, what each does to a bench, and when each call is refused.
-- Assumes nothing.
use Rattle.std.specs.Prelude.{ℕ, ◌+◌, ◌-◌, ◌^◌, Bool, true, false, ◌&&◌, ◌||◌, List, eqb, leb, ltb, length, Result, Ok, Err}
use Rattle.std.proofs.Math.Option.{Option, none, some}
use Rattle.report.specs.Section3.{State, NEXT}
use Rattle.report.specs.Parts.{Where, with_word, written}
use Rattle.machine.specs.Held.{where_of}
use Rattle.machine.specs.declared.Place.{Place}
use Rattle.trail.specs.declared.Kind.TheVariants as kind
use Rattle.trail.specs.declared.Kind.{Kind}
use Rattle.trail.specs.Records.{record_of, put}
use Rattle.trail.specs.Newest.{newest_fitted}
use Rattle.trail.specs.declared.Newest.{Newest}
use Rattle.trail.specs.declared.Broken.{Broken}
use Rattle.step.specs.Phases.{lacks, step_unfitted}
use Rattle.viper.specs.Refusals.{Answer, lowest, if_done}
use Rattle.viper.specs.declared.Refusal.{Refusal}
use Rattle.viper.specs.declared.Refusal.TheVariants.{PTooLarge, StoreTooLong, CountTooLarge, Stopped, Unfitted, TrailFull, NothingInUse, BrokenRecord}

-- ---- the bench

-- The machine with both stores, the lent trail, and the count of bytes in use. Bytes past the count may hold anything.
pub record Bench : Type 0 where
  pub state : State
  pub trail : List ℕ
  pub used : ℕ

-- ---- the four operations

pub data Operation : Type 0 where
  step reset force : Operation
  set_word : Place → ℕ → Operation

-- The state after an operation. A step's is the report's.
abbrev pub next : Operation → State → State
next step s = NEXT s
next reset (ram, p, a, x, y, b, stop) = (ram, 0, 0, 0, 0, false, false)
next force (ram, p, a, x, y, b, stop) = (ram, p, a, x, y, b, true)
next (set_word q v) (ram, p, a, x, y, b, stop) = (with_word ram (where_of q) v, p, a, x, y, b, stop)

-- The place whose word an operation writes.
abbrev pub writes_at : Operation → State → Option Where
writes_at step s = written s
writes_at reset s = none
writes_at force s = none
writes_at (set_word q v) s = some (where_of q)

-- Its kind (document 02, W12).
abbrev pub kind_of : Operation → Kind
kind_of step = kind.Step
kind_of reset = kind.Reset
kind_of force = kind.Force
kind_of (set_word q v) = kind.Set

-- Its record, of old values.
abbrev pub record_for : Operation → State → List ℕ
record_for e s = record_of (kind_of e) s (next e s) (writes_at e s)

-- ---- the calls, and the table of refusals

pub data Call : Type 0 where
  operate : Operation → Call
  run : ℕ → Call
  back : Call

abbrev pub lends_stores : Call → Bool
lends_stores (operate step) = true
lends_stores (operate reset) = false
lends_stores (operate force) = false
lends_stores (operate (set_word q v)) = true
lends_stores (run n) = true
lends_stores back = true

abbrev pub is_step : Call → Bool
is_step (operate step) = true
is_step (operate reset) = false
is_step (operate force) = false
is_step (operate (set_word q v)) = false
is_step (run n) = false
is_step back = false

-- The address to fetch, read or write is not fitted.
abbrev pub unfitted : Call → State → Bool
unfitted (operate step) s = step_unfitted s
unfitted (operate reset) s = false
unfitted (operate force) s = false
unfitted (operate (set_word q v)) s = lacks s.0 (some (where_of q))
unfitted (run n) s = false
unfitted back s = false

-- The new record is longer than the trail's free bytes.
abbrev pub no_room : Call → Bench → Bool
no_room (operate e) b = ltb (length b.trail - b.used) (length (record_for e b.state))
no_room (run n) b = false
no_room back b = false

abbrev pub takes_back : Call → Bool
takes_back (operate e) = false
takes_back (run n) = false
takes_back back = true

-- The newest record of a bench.
abbrev pub newest_of : Bench → Result Newest Broken
newest_of b = newest_fitted (length b.state.0.main) (length b.state.0.ports) b.trail b.used

abbrev pub broken : Result Newest Broken → Bool
broken (Ok r) = false
broken (Err e) = true

-- The table: when each refusal applies to a call.
abbrev pub applies : Call → Bench → Refusal → Bool
applies c b PTooLarge = leb (2 ^ 20) b.state.1
applies c b StoreTooLong = lends_stores c && (ltb (2 ^ 20) (length b.state.0.main) || ltb (2 ^ 20) (length b.state.0.ports))
applies c b CountTooLarge = ltb (length b.trail) b.used
applies c b Stopped = is_step c && b.state.6
applies c b Unfitted = unfitted c b.state
applies c b TrailFull = no_room c b
applies c b NothingInUse = takes_back c && eqb b.used 0
applies c b BrokenRecord = takes_back c && broken (newest_of b)

unfoldable pub answer : Call → Bench → Answer
answer c b = lowest (applies c b)

-- ---- what the calls do

-- A call's answer and the bench after it.
pub record Outcome : Type 0 where
  pub answered : Answer
  pub bench : Bench

-- The bench after an accepted operation: its record stands right after the bytes in use.
abbrev pub done : Operation → Bench → Bench
done e b =
    record {
      state = next e b.state;
      trail = put b.trail b.used (record_for e b.state);
      used = b.used + length (record_for e b.state);
    }

abbrev pub outcome : Operation → Bench → Outcome
outcome e b = let a = answer (operate e) b in record { answered = a; bench = if_done a (done e b) b }
