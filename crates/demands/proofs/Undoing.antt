-- What each of the four operations does, once it is fitted: it keeps the stores or puts one word at its place; so it keeps a machine valid,
-- and its record, put back into the state after it, gives the state before it.
-- Assumes nothing.
use mathlib.Core.Path.{◌≡◌, refl}
use mathlib.Core.Bool.{false, ◌||◌}
use mathlib.Core.Option.{Option, none, some}
use Prim.Native.Nat.{ℕ, ◌<◌}
use native.Mathlib.Omega.{arith}
use lib.ListN.{length, length-append}
use borrow.Author.Tests.{not-false}
use Rattle.report.specs.AnnexA.{Mem}
use Rattle.report.specs.Section3.{State}
use Rattle.report.specs.Parts.{Where, Part, stopped, halts, compares, writes, skips, computes, part, word, after_by, writes_by, reads, written, InRange}
use Rattle.report.proofs.Stores.{either_false, fitted_low, placed_stores}
use Rattle.report.proofs.Order.{next_by_parts}
use Rattle.report.proofs.RangeKept.{next_in_range, put_main, put_ports}
use Rattle.machine.specs.Held.{where_of}
use Rattle.trail.specs.Records.{record_in}
use Rattle.trail.proofs.RecordRestores.{Touched, kept, put, main_kept, ports_kept, Restores, record_restores}
use Rattle.step.specs.Phases.{lacks, step_unfitted}
use Rattle.viper.specs.Operations.{Operation, step, reset, force, set_word, operate, next, kind_of, writes_at, record_for, unfitted}
use Rattle.demands.specs.Histories.{Valid, Typed}

-- ---- the stores after an operation

part_touched : (k : Part) (w : ℕ) (s : State) → lacks s.0 (writes_by k w s.3 s.4) ≡ false → Touched s.0 (after_by k w s).0 (writes_by k w s.3 s.4)
unfolding after_by writes_by
part_touched stopped w (r, p, a, x, y, b, t) h = kept none refl
part_touched halts w (r, p, a, x, y, b, t) h = kept none refl
part_touched compares w (r, p, a, x, y, b, t) h = kept none refl
part_touched writes w (r, p, a, x, y, b, t) h = put _ _ (not-false _ h) (omega arith) refl
part_touched skips w (r, p, a, x, y, b, t) h = kept none refl
part_touched computes w (r, p, a, x, y, b, t) h = kept none (placed_stores _ _ r p a x y _)

-- What a step fetches, reads and writes is not lacking.
pub nothing_lacks : (s : State) → step_unfitted s ≡ false → (lacks s.0 (some (false, s.1)) ≡ false) × (lacks s.0 (reads s) ≡ false) × (lacks s.0 (written s) ≡ false)
unfolding step_unfitted
nothing_lacks s h =
    let two = either_false (lacks s.0 (some (false, s.1))) (lacks s.0 (reads s) || lacks s.0 (written s)) h in
    let three = either_false (lacks s.0 (reads s)) (lacks s.0 (written s)) two.1 in
    (two.0, three.0, three.1)

-- An operation keeps the stores, or puts a value at its place.
pub touched : (e : Operation) (s : State) → Valid s → unfitted (operate e) s ≡ false → Touched s.0 (next e s).0 (writes_at e s)
touched step s ok h = rw (next_by_parts s ok.range) (part_touched (part s) (word s) s (nothing_lacks s h).2)
touched reset s ok h = kept none refl
touched force s ok h = kept none refl
touched (set_word q v) s ok h =
    let f = not-false _ h in
    put (where_of q) v f (fitted_low s.0 (where_of q) ok.main_le ok.ports_le f) refl

-- No store becomes longer or shorter.
pub touched_sizes : {old new : Mem} {q : Option Where} → Touched old new q → (length new.main ≡ length old.main) × (length new.ports ≡ length old.ports)
touched_sizes (kept q e) = rw e (refl, refl)
touched_sizes {old} (put q v f h e) = rw e (main_kept old q v, ports_kept old q v)

-- ---- a machine stays valid

next_range : (e : Operation) (s : State) → Typed e → InRange s → InRange (next e s)
next_range step s t g = next_in_range s g
next_range reset s t g =
    record { p_lt = omega arith; a_lt = omega arith; x_lt = omega arith; y_lt = omega arith; main_lt = g.main_lt; ports_lt = g.ports_lt }
next_range force s t g =
    record { p_lt = g.p_lt; a_lt = g.a_lt; x_lt = g.x_lt; y_lt = g.y_lt; main_lt = g.main_lt; ports_lt = g.ports_lt }
next_range (set_word q v) s t g =
    record {
      p_lt = g.p_lt;
      a_lt = g.a_lt;
      x_lt = g.x_lt;
      y_lt = g.y_lt;
      main_lt = put_main s.0 (where_of q) v g.main_lt t;
      ports_lt = put_ports s.0 (where_of q) v g.ports_lt t;
    }

pub stays_valid : (e : Operation) (s : State) → Typed e → Valid s → unfitted (operate e) s ≡ false → Valid (next e s)
stays_valid e s t ok h =
    let z = touched_sizes (touched e s ok h) in
    record { range = next_range e s t ok.range; main_le = rw z.0 ok.main_le; ports_le = rw z.1 ok.ports_le }

-- ---- the record of an operation

-- It restores the state before it.
pub undoes : (e : Operation) (s : State) → Valid s → unfitted (operate e) s ≡ false → Restores (kind_of e) s (next e s) (writes_at e s)
undoes e s ok h = record_restores (kind_of e) s (next e s) (writes_at e s) ok.range (touched e s ok h)

-- It has some bytes.
pub some_bytes : (e : Operation) (s : State) → 0 < length (record_for e s)
unfolding record_in
some_bytes e s = simp length-append (omega arith)
