-- THE THIRD DEMAND: whatever the calls, the machine and both stores are what the operations still listed give from the start, and the trail in use is their records.
-- It holds since each accepted operation adds its record right after those of the older ones, and a take-back reads exactly that record back.
-- Assumes nothing.
use mathlib.Core.Path.{◌≡◌, refl, sym, ap, ◌∙◌, subst}
use mathlib.Core.Bool.{Bool, true, false, cond}
use mathlib.Core.List.{List, [], ◌∷◌, ◌++◌}
use Prim.{tt}
use Rattle.std.specs.Prelude.{Result, Ok, Err}
use Prim.Native.Nat.{ℕ, zero, suc, ◌+◌, ◌-◌, ◌<◌, ◌≤◌}
use native.Mathlib.Omega.{arith}
use lib.ListN.{length, take, replicate, length-append}
use lib.Seq.{length-take-le, take-take, take-append_seam}
use borrow.Author.Tests.{ltb-false, eq-eqb, ne_eqb}
use Rattle.report.specs.Section3.{State}
use Rattle.report.specs.Parts.{with_word}
use Rattle.machine.specs.Held.{machine_of}
use Rattle.machine.specs.declared.Ending.TheVariants as ending
use Rattle.trail.specs.declared.OldValues.{OldValues}
use Rattle.trail.specs.Records.{marked, where_of_number, old_values_of, restored}
use Rattle.trail.specs.Newest.{read_back}
use Rattle.trail.specs.declared.Newest.{Newest}
use Rattle.trail.specs.declared.Broken.{Broken}
use Rattle.trail.proofs.Adding.{put_length, put_in_use}
use Rattle.trail.proofs.NewestReadsBack.{newest_in_use}
use Rattle.trail.proofs.RecordRestores.{main_kept, ports_kept}
use Rattle.viper.specs.declared.Refusal.{Refusal}
use Rattle.viper.specs.declared.Refusal.TheVariants.{PTooLarge, StoreTooLong, CountTooLarge, Stopped, Unfitted, TrailFull, NothingInUse, BrokenRecord}
use Rattle.viper.specs.declared.After.{After}
use Rattle.viper.specs.declared.Ran as code
use Rattle.viper.specs.Refusals.{Answer, number, if_done}
use Rattle.viper.specs.Operations.{Bench, Operation, step, Call, operate, run, back, next, kind_of, writes_at, record_for, unfitted, broken, newest_of, applies, answer, done, Outcome, outcome}
use Rattle.viper.specs.Runs.{Ran, ends, stepped, unless_stopped, over_and_over, RunAnswer, RunOutcome, run_by, run_outcome}
use Rattle.viper.specs.TakingBack.{put_back, back_outcome}
use Rattle.demands.specs.Histories.{Valid, Typed, TypedCalls, told_from, run_told_from, answered, called, after, noted, noted_run, struck, back_by, listing, listed_from, listed, through, trace, Sizes, History, Session, begins, operates, runs, takes_back}
use Rattle.demands.proofs.FirstDemand.{LawfulBench, lawful_passes, refused_lowest, accepted_none}
use Rattle.demands.proofs.Undoing.{touched, touched_sizes, stays_valid, undoes, some_bytes}

-- ---- each listed operation was fitted, where it was done

abbrev pub Fair : List Operation → State → Type 0
Fair [] s = Unit {0}
Fair (e ∷ l) s = (unfitted (operate e) (through l s) ≡ false) × Typed e × Fair l s

pub through_valid : (l : List Operation) (s : State) → Valid s → Fair l s → Valid (through l s)
through_valid [] s ok f = ok
through_valid (e ∷ l) s ok f = stays_valid e (through l s) f.1 (through_valid l s ok f.2) f.0

-- ---- what every call keeps

pub record Kept (b₀ b : Bench) (l : List Operation) : Type 0 where
  pub history : History b₀ b l
  pub fair : Fair l b₀.state

kept_start : (b₀ : Bench) → b₀.used ≡ 0 → Kept b₀ b₀ []
kept_start b₀ z =
    record {
      history = record { state = refl; in_use = rw z; within = omega arith; sizes = record { main = refl; ports = refl; trail = refl } };
      fair = tt;
    }

-- what an accepted operation met
accepted : (e : Operation) (b : Bench) → answer (operate e) b ≡ Ok tt → (unfitted (operate e) b.state ≡ false) × (b.used + length (record_for e b.state) ≤ length b.trail)
accepted e b h =
    let n = (accepted_none (operate e) b).0 h in
    let free = ltb-false (length b.trail - b.used) (length (record_for e b.state)) (n TrailFull) in
    let within = ltb-false (length b.trail) b.used (n CountTooLarge) in
    (n Unfitted, omega arith)

repeated : (n : ℕ) (l : List Operation) → replicate n step ++ (step ∷ l) ≡ step ∷ (replicate n step ++ l)
repeated zero l = refl
repeated (suc n) l = ap (λ (r : List Operation). step ∷ r) (repeated n l)

-- ---- the refusals of a take-back

below_seven : (b : Bench) → LawfulBench b → (r : Refusal) → number r < 7 → applies back b r ≡ false
below_seven b l PTooLarge h = lawful_passes back b l PTooLarge (omega arith)
below_seven b l StoreTooLong h = lawful_passes back b l StoreTooLong (omega arith)
below_seven b l CountTooLarge h = lawful_passes back b l CountTooLarge (omega arith)
below_seven b l Stopped h = refl
below_seven b l Unfitted h = refl
below_seven b l TrailFull h = refl
below_seven b l NothingInUse h = absurd (omega arith)
below_seven b l BrokenRecord h = absurd (omega arith)

from_seven : (b : Bench) → LawfulBench b → applies back b NothingInUse ≡ false → applies back b BrokenRecord ≡ false → (r : Refusal) → applies back b r ≡ false
from_seven b l n k PTooLarge = lawful_passes back b l PTooLarge (omega arith)
from_seven b l n k StoreTooLong = lawful_passes back b l StoreTooLong (omega arith)
from_seven b l n k CountTooLarge = lawful_passes back b l CountTooLarge (omega arith)
from_seven b l n k Stopped = refl
from_seven b l n k Unfitted = refl
from_seven b l n k TrailFull = refl
from_seven b l n k NothingInUse = n
from_seven b l n k BrokenRecord = k

-- ---- lengths

same_sizes : (b : Bench) → Sizes b b
same_sizes b = record { main = refl; ports = refl; trail = refl }

then_sizes : {b₁ b₂ b₃ : Bench} → Sizes b₁ b₂ → Sizes b₂ b₃ → Sizes b₁ b₃
then_sizes h k = record { main = k.main ∙ h.main; ports = k.ports ∙ h.ports; trail = k.trail ∙ h.trail }

done_sizes : (e : Operation) (b : Bench) → Valid b.state → answer (operate e) b ≡ Ok tt → Sizes b (done e b)
done_sizes e b ok a =
    let g = accepted e b a in
    let z = touched_sizes (touched e b.state ok g.0) in
    record { main = z.0; ports = z.1; trail = put_length b.trail b.used (record_for e b.state) g.1 }

operation_sizes : (e : Operation) (b : Bench) → Valid b.state → Sizes b (outcome e b).bench
operation_sizes e b ok = go (answer (operate e) b) refl
  where
    go : (a : Answer) → answer (operate e) b ≡ a → Sizes b (if_done a (done e b) b)
    go (Ok u) h = done_sizes e b ok h
    go (Err r) h = same_sizes b

steps_sizes : (n : ℕ) (b : Bench) → Valid b.state → Sizes b (over_and_over n b).bench
unfolding over_and_over
steps_sizes zero b ok = go b.state.6
  where
    go : (t : Bool) → Sizes b (unless_stopped t b (ends b ending.Budget)).bench
    go true = same_sizes b
    go false = same_sizes b
steps_sizes (suc n) b ok = go b.state.6 (answer (operate step) b) refl (λ v. steps_sizes n (done step b) v)
  where
    rest : Ran
    rest = over_and_over n (done step b)

    go : (t : Bool) (a : Answer) → answer (operate step) b ≡ a → (Valid (done step b).state → Sizes (done step b) rest.bench) → Sizes b (unless_stopped t b (stepped a b rest)).bench
    go true a h ih = same_sizes b
    go false (Ok u) h ih = then_sizes (done_sizes step b ok h) (ih (stays_valid step b.state tt ok (accepted step b h).0))
    go false (Err r) h ih = same_sizes b

run_sizes : (n : ℕ) (b : Bench) → Valid b.state → Sizes b (run_outcome n b).bench
run_sizes n b ok = go (answer (run n) b)
  where
    go : (a : Answer) → Sizes b (run_by a n b).bench
    go (Ok u) = steps_sizes n b ok
    go (Err r) = same_sizes b

restored_sizes : (o : OldValues) (s : State) → (length (restored o s).0.main ≡ length s.0.main) × (length (restored o s).0.ports ≡ length s.0.ports)
unfolding restored
restored_sizes o s = go (marked 8 o.marks)
  where
    go : (t : Bool) → (length (cond t (with_word s.0 (where_of_number o.place) o.value) s.0).main ≡ length s.0.main) × (length (cond t (with_word s.0 (where_of_number o.place) o.value) s.0).ports ≡ length s.0.ports)
    go true = (main_kept s.0 (where_of_number o.place) o.value, ports_kept s.0 (where_of_number o.place) o.value)
    go false = (refl, refl)

put_back_sizes : (n : Result Newest Broken) (b : Bench) → Sizes b (put_back n b)
put_back_sizes (Ok r) b = let z = restored_sizes r.values b.state in record { main = z.0; ports = z.1; trail = refl }
put_back_sizes (Err e) b = same_sizes b

back_sizes : (b : Bench) → Sizes b (back_outcome b).bench
back_sizes b = go (answer back b)
  where
    go : (a : Answer) → Sizes b (if_done a (put_back (newest_of b) b) b)
    go (Ok u) = put_back_sizes (newest_of b) b
    go (Err r) = same_sizes b

-- ---- each call keeps the history

module _ (b₀ : Bench) (ok : Valid b₀.state) where
  pub valid_now : (b : Bench) (l : List Operation) → Kept b₀ b l → Valid b.state
  valid_now b l k = rw k.history.state (through_valid l b₀.state ok k.fair)

  -- an operation

  kept_done : (e : Operation) (b : Bench) (l : List Operation) → Typed e → Kept b₀ b l → answer (operate e) b ≡ Ok tt → Kept b₀ (done e b) (e ∷ l)
  kept_done e b l t k a =
      let h = k.history in
      let g = accepted e b a in
      let size = put_length b.trail b.used (record_for e b.state) g.1 in
      let stores = touched_sizes (touched e b.state (valid_now b l k) g.0) in
      record {
        history =
            record {
              state = ap (next e) h.state;
              in_use = put_in_use b.trail b.used (record_for e b.state) h.within ∙ (cc (h.state, h.in_use));
              within = rw size g.1;
              sizes = record { main = stores.0 ∙ h.sizes.main; ports = stores.1 ∙ h.sizes.ports; trail = size ∙ h.sizes.trail };
            };
        fair = (rw (← h.state) g.0, t, k.fair);
      }

  kept_operation : (e : Operation) (b : Bench) (l : List Operation) → Typed e → Kept b₀ b l → Kept b₀ (outcome e b).bench (noted e (outcome e b).answered l)
  kept_operation e b l t k = go (answer (operate e) b) refl
    where
      go : (a : Answer) → answer (operate e) b ≡ a → Kept b₀ (if_done a (done e b) b) (if_done a (e ∷ l) l)
      go (Ok u) h = kept_done e b l t k h
      go (Err r) h = k

  -- a run

  kept_steps : (n : ℕ) (b : Bench) (l : List Operation) → Kept b₀ b l → Kept b₀ (over_and_over n b).bench (replicate (over_and_over n b).steps step ++ l)
  unfolding over_and_over
  kept_steps zero b l k = go b.state.6
    where
      go : (t : Bool) → Kept b₀ (unless_stopped t b (ends b ending.Budget)).bench (replicate (unless_stopped t b (ends b ending.Budget)).steps step ++ l)
      go true = k
      go false = k
  kept_steps (suc n) b l k = go b.state.6 (answer (operate step) b) refl (λ h. kept_steps n (done step b) (step ∷ l) h)
    where
      rest : Ran
      rest = over_and_over n (done step b)

      go : (t : Bool) (a : Answer) → answer (operate step) b ≡ a
          → (Kept b₀ (done step b) (step ∷ l) → Kept b₀ rest.bench (replicate rest.steps step ++ (step ∷ l)))
          → Kept b₀ (unless_stopped t b (stepped a b rest)).bench (replicate (unless_stopped t b (stepped a b rest)).steps step ++ l)
      go true a h ih = k
      go false (Ok u) h ih = rw repeated at (ih (kept_done step b l tt k h))
      go false (Err r) h ih = k

  kept_run : (n : ℕ) (b : Bench) (l : List Operation) → Kept b₀ b l → Kept b₀ (run_outcome n b).bench (noted_run (run_outcome n b).answered l)
  kept_run n b l k = go (answer (run n) b)
    where
      go : (a : Answer) → Kept b₀ (run_by a n b).bench (noted_run (run_by a n b).answered l)
      go (Ok u) = kept_steps n b l k
      go (Err r) = k

  -- a take-back

  module _ (e : Operation) (b : Bench) (l : List Operation) (k : Kept b₀ b (e ∷ l)) where
    abbrev was : State
    was = through l b₀.state

    valid_then : Valid was
    valid_then = through_valid l b₀.state ok k.fair.2

    -- the newest record is that of the newest operation listed
    newest_is : newest_of b ≡ read_back (old_values_of (kind_of e) was (next e was) (writes_at e was)) (length (trace l b₀.state))
    newest_is =
        let h = k.history in
        let u = undoes e was valid_then k.fair.0 in
        newest_in_use _ _ b.trail b.used (trace l b₀.state) h.within h.in_use u.good (rw h.state u.fitting)

    restores : restored (old_values_of (kind_of e) was (next e was) (writes_at e was)) b.state ≡ was
    restores = rw k.history.state (undoes e was valid_then k.fair.0).back

    in_use_length : length (trace l b₀.state) + length (record_for e was) ≡ b.used
    in_use_length =
        sym (length-append (trace l b₀.state) (record_for e was))
        ∙ ap length (sym k.history.in_use)
        ∙ length-take-le b.used b.trail k.history.within

    some_in_use : b.used ≡ 0 → ⊥
    some_in_use z = omega (arith, in_use_length, some_bytes e was)

    kept_struck : Kept b₀ (put_back (newest_of b) b) l
    kept_struck =
        let h = k.history in
        let r = trace l b₀.state in
        let less : length r ≤ b.used = omega (arith, in_use_length) in
        let z = touched_sizes (touched e was valid_then k.fair.0) in
        rw (newest_is, restores)
        (record {
          history =
              record {
                state = refl;
                in_use = sym (take-take (length r) b.used b.trail less) ∙ ap (take (length r)) h.in_use ∙ take-append_seam r (record_for e was);
                within = omega (arith, h.within);
                sizes =
                    record {
                      main = sym z.0 ∙ ap (λ (s : State). length s.0.main) (sym h.state) ∙ h.sizes.main;
                      ports = sym z.1 ∙ ap (λ (s : State). length s.0.ports) (sym h.state) ∙ h.sizes.ports;
                      trail = h.sizes.trail;
                    };
              };
          fair = k.fair.2;
        })

  none_in_use : (b : Bench) → Kept b₀ b [] → b.used ≡ 0
  none_in_use b k = sym (length-take-le b.used b.trail k.history.within) ∙ ap length k.history.in_use

  lawful_now : (b : Bench) (l : List Operation) → Kept b₀ b l → LawfulBench b
  lawful_now b l k =
      let v = valid_now b l k in
      record { p_lt = v.range.p_lt; main_le = v.main_le; ports_le = v.ports_le; used_le = k.history.within }

  pub back_answer : (b : Bench) (l : List Operation) → Kept b₀ b l → answer back b ≡ back_by l
  back_answer b [] k =
      (refused_lowest back b NothingInUse).1
      (record { itself = eq-eqb b.used 0 (none_in_use b k); no_lower = below_seven b (lawful_now b [] k) })
  back_answer b (e ∷ l) k =
      (accepted_none back b).1
      (from_seven b (lawful_now b (e ∷ l) k) (ne_eqb b.used 0 (some_in_use e b l k)) (ap broken (newest_is e b l k)))

  pub kept_back : (b : Bench) (l : List Operation) → Kept b₀ b l → Kept b₀ (back_outcome b).bench (struck (back_outcome b).answered l)
  kept_back b [] k = rw (back_answer b [] k) k
  kept_back b (e ∷ l) k = rw (back_answer b (e ∷ l) k) (kept_struck e b l k)

  -- ---- a session keeps it

  module _ (z : b₀.used ≡ 0) where
    pub kept_session : {b : Bench} {l : List Operation} → Session b₀ b l → Kept b₀ b l
    kept_session begins = kept_start b₀ z
    kept_session (operates {b = b} {l = l} e r main ports trail s t p) =
        subst (λ (o : Outcome). Kept b₀ o.bench (noted e o.answered l)) (sym p) (kept_operation e b l t (kept_session s))
    kept_session (runs {b = b} {l = l} n r main ports trail s p) =
        subst (λ (o : RunOutcome). Kept b₀ o.bench (noted_run o.answered l)) (sym p) (kept_run n b l (kept_session s))
    kept_session (takes_back {b = b} {l = l} r main ports trail s p) =
        subst (λ (o : Outcome). Kept b₀ o.bench (struck o.answered l)) (sym p) (kept_back b l (kept_session s))

  -- as many take-backs as operations are listed
  kept_all_back : (b : Bench) (l : List Operation) → Kept b₀ b l → Kept b₀ (after (replicate (length l) back) b) []
  unfolding after
  kept_all_back b [] k = k
  kept_all_back b (e ∷ l) k =
      kept_all_back (back_outcome b).bench l
      (subst (λ (a : Answer). Kept b₀ (back_outcome b).bench (struck a (e ∷ l))) (back_answer b (e ∷ l) k) (kept_back b (e ∷ l) k))

-- ---- calls in a row are a session

-- What a call hands back that comes to an outcome of the definitions.
handed : Outcome → Result After Refusal
handed o = by o.answered
  where
    by : Answer → Result After Refusal
    by (Ok u) = Ok (record { machine = machine_of o.bench.state; used = o.bench.used })
    by (Err r) = Err r

run_handed : RunOutcome → Result code.Ran Refusal
run_handed o = by o.answered
  where
    by : RunAnswer → Result code.Ran Refusal
    by (Ok n) = Ok (record { machine = machine_of o.bench.state; used = o.bench.used; steps = n.0; ending = n.1 })
    by (Err r) = Err r

-- Told again it is that outcome, since a refused one leaves the bench.
handed_told : (b d : Bench) (a : Answer) → let o : Outcome = record { answered = a; bench = if_done a d b } in told_from b (handed o) o.bench.state.0.main o.bench.state.0.ports o.bench.trail ≡ o
unfolding handed
handed_told b d (Ok u) = refl
handed_told b d (Err r) = refl

run_handed_told : (b : Bench) (n : ℕ) (a : Answer) → let o = run_by a n b in run_told_from b (run_handed o) o.bench.state.0.main o.bench.state.0.ports o.bench.trail ≡ o
unfolding run_handed
run_handed_told b n (Ok u) = refl
run_handed_told b n (Err r) = refl

in_session : {b₀ : Bench} (cs : List Call) (b : Bench) (l : List Operation) → TypedCalls cs → Session b₀ b l → Session b₀ (after cs b) (listed_from l cs b)
unfolding after listed_from
in_session [] b l t s = s
in_session {b₀} (operate e ∷ cs) b l t s =
    let o = outcome e b in
    let p = handed_told b (done e b) (answer (operate e) b) in
    in_session cs (called (operate e) b) (listing (operate e) b l) t.1
    (subst (λ (x : Outcome). Session b₀ x.bench (noted e x.answered l)) p
    (operates e (handed o) o.bench.state.0.main o.bench.state.0.ports o.bench.trail s t.0 p))
in_session {b₀} (run n ∷ cs) b l t s =
    let o = run_outcome n b in
    let p = run_handed_told b n (answer (run n) b) in
    in_session cs (called (run n) b) (listing (run n) b l) t
    (subst (λ (x : RunOutcome). Session b₀ x.bench (noted_run x.answered l)) p
    (runs n (run_handed o) o.bench.state.0.main o.bench.state.0.ports o.bench.trail s p))
in_session {b₀} (back ∷ cs) b l t s =
    let o = back_outcome b in
    let p = handed_told b (put_back (newest_of b) b) (answer back b) in
    in_session cs (called back b) (listing back b l) t
    (subst (λ (x : Outcome). Session b₀ x.bench (struck x.answered l)) p
    (takes_back (handed o) o.bench.state.0.main o.bench.state.0.ports o.bench.trail s p))

-- The calls as the definitions give them are a session, so what holds of every session holds of them.
pub calls_session : (b₀ : Bench) (cs : List Call) → TypedCalls cs → Session b₀ (after cs b₀) (listed cs b₀)
calls_session b₀ cs t = in_session cs b₀ [] t begins

-- ---- beside the history

-- A take-back is accepted exactly when an operation is listed, and else refused by 7: after any calls,
pub back_exactly : (b₀ : Bench) → Valid b₀.state → b₀.used ≡ 0 → (cs : List Call) → TypedCalls cs → answered back (after cs b₀) ≡ back_by (listed cs b₀)
back_exactly b₀ ok z cs t = back_answer b₀ ok (after cs b₀) (listed cs b₀) (kept_session b₀ ok z (calls_session b₀ cs t))

-- and in any session.
pub session_back_exactly : (b₀ : Bench) → Valid b₀.state → b₀.used ≡ 0 → {b : Bench} {l : List Operation} → Session b₀ b l → answered back b ≡ back_by l
session_back_exactly b₀ ok z {b} {l} s = back_answer b₀ ok b l (kept_session b₀ ok z s)

-- As many take-backs as operations are listed restore the machine and both stores of the start, and the empty trail: after any calls,
pub all_taken_back : (b₀ : Bench) → Valid b₀.state → b₀.used ≡ 0 → (cs : List Call) → TypedCalls cs
    → ((after (replicate (length (listed cs b₀)) back) (after cs b₀)).state ≡ b₀.state)
    × ((after (replicate (length (listed cs b₀)) back) (after cs b₀)).used ≡ 0)
all_taken_back b₀ ok z cs t =
    let k = kept_all_back b₀ ok (after cs b₀) (listed cs b₀) (kept_session b₀ ok z (calls_session b₀ cs t)) in
    (k.history.state, none_in_use b₀ ok (after (replicate (length (listed cs b₀)) back) (after cs b₀)) k)

-- and in any session.
pub session_all_taken_back : (b₀ : Bench) → Valid b₀.state → b₀.used ≡ 0 → {b : Bench} {l : List Operation} → Session b₀ b l
    → ((after (replicate (length l) back) b).state ≡ b₀.state) × ((after (replicate (length l) back) b).used ≡ 0)
session_all_taken_back b₀ ok z {b} {l} s =
    let k = kept_all_back b₀ ok b l (kept_session b₀ ok z s) in
    (k.history.state, none_in_use b₀ ok (after (replicate (length l) back) b) k)

-- Every call keeps the lengths of both stores and of the trail.
pub sizes_kept : (c : Call) (b : Bench) → Valid b.state → Sizes b (called c b)
sizes_kept (operate e) b ok = operation_sizes e b ok
sizes_kept (run n) b ok = run_sizes n b ok
sizes_kept back b ok = back_sizes b

-- ---- THE HISTORY

-- Of any calls that meet their contracts.
pub session_history : (b₀ : Bench) → Valid b₀.state → b₀.used ≡ 0 → {b : Bench} {l : List Operation} → Session b₀ b l → History b₀ b l
session_history b₀ ok z s = (kept_session b₀ ok z s).history

-- From a valid machine with its stores, and a trail of which no byte is in use, whatever it holds; and for every list of calls, refused ones included:
-- the machine and both stores are what the operations still listed give from the start, and the trail in use is their records, oldest first.
pub history : (b₀ : Bench) → Valid b₀.state → b₀.used ≡ 0 → (cs : List Call) → TypedCalls cs → History b₀ (after cs b₀) (listed cs b₀)
history b₀ ok z cs t = (kept_session b₀ ok z (calls_session b₀ cs t)).history
