-- One step in the code's terms: the change that was planned, once finished, is the operation `step` done, and refusals 5 and 6 are those of the table.
-- Then a run of steps: the definition at the start is the definition at the present bench, with the steps done counted along.
-- Assumes nothing.
use Prim.{tt}
use mathlib.Core.Path.{◌≡◌, refl, sym, ap, ◌∙◌}
use mathlib.Core.Bool.{Bool, true, false, cond, ◌||◌}
use mathlib.Core.List.{List}
use mathlib.Core.Option.{Option, none, some}
use Prim.Native.Nat.{ℕ, zero, suc, ◌+◌, ◌-◌, ◌^◌, ◌<◌, ◌≤◌}
use native.Mathlib.Omega.{arith}
use lib.Dec.{ltb}
use lib.ListN.{length, length-set}
use borrow.Author.Tests.{not-false, le-ltb, lt-leb, ltb-false}
use Rattle.report.specs.AnnexA.{Mem}
use Rattle.report.specs.Section3.{State, NEXT}
use Rattle.report.specs.Parts.{Where, with_word, fitted, Part, stopped, halts, compares, writes, skips, computes, part, word, of, output, after_by, place_by, writes_by, written, reads, InRange}
use Rattle.report.proofs.Stores.{either_false, placed_stores}
use Rattle.report.proofs.Order.{next_by_parts}
use Rattle.report.proofs.RangeKept.{next_in_range}
use Rattle.machine.specs.Held.{ram, state, machine_of, place_of, where_of}
use Rattle.machine.specs.declared.Machine.{Machine}
use Rattle.machine.specs.declared.Ending.{Ending}
use Rattle.machine.specs.declared.Ending.TheVariants as ending
use Rattle.trail.specs.declared.Kind.TheVariants as kind
use Rattle.trail.specs.declared.Kind.{Kind}
use Rattle.trail.specs.Records.{record_of, changed_word, put, added, trail_full}
use Rattle.trail.specs.declared.TrailFull.{TrailFull}
use Rattle.trail.proofs.Adding.{put_length}
use Rattle.step.specs.Phases as phases
use Rattle.std.specs.Prelude.{Result, Ok, Err}
use Rattle.viper.specs.Refusals.{Answer}
use Rattle.viper.specs.declared.Refusal.{Refusal}
use Rattle.viper.specs.declared.Refusal.TheVariants as refusal
use Rattle.step.specs.Phases.{held, Written, Change, Plan, lacks, step_unfitted, writing, change_of, planned}
use Rattle.step.specs.Finishing.{Kept, came, Addressed, changing, rewritten, left, Finish, finishing, finished, End, ended, answered_by, by_plan, once}
use Rattle.step.specs.Finishing as stepped_case
use Rattle.step.specs.declared.finish.Next.{Next}
use Rattle.step.specs.declared.finish.Undone.{Undone}
use Rattle.step.specs.declared.finish.Undone.TheVariants as undone
use Rattle.viper.specs.Operations.{Bench, step, record_for, operate, applies, answer, done}
use Rattle.viper.specs.Runs.{Ran, ends, ending_of, unless_stopped, stepped as by_answer, over_and_over}
use Rattle.step.specs.Lawful.{Lawful}
use Rattle.viper.specs.Told.{bench}
use Rattle.step.proofs.Planning.{word_back}
use Rattle.viper.proofs.Lowest.{lowest_by, five_six}
use Rattle.step.specs.Finishing.{Came as AfterStep}

-- ---- places

pub where_place : (q : Where) → where_of (place_of q) ≡ q
where_place (true, n) = refl
where_place (false, n) = refl

pub changing_is : (old new : Mem) (q : Option Where) → changing old (writing q new) ≡ changed_word old new q
changing_is old new none = refl
changing_is old new (some q) = rw (where_place q)

-- ---- what NEXT leaves in the stores: at most one word written, at the place that `written` gives

-- a word written at a fitted place, read and written again
pub put_again : (r : Mem) (q : Where) (v : ℕ) → fitted r q ≡ true → rewritten r (writing (some q) (with_word r q v)) ≡ with_word r q v
put_again r (io, n) v h = rw (where_place (io, n), word_back r io n v h)

-- the stores after a part are those before it, or those with one word written
after_ram : (k : Part) (w : ℕ) (s : State) → lacks s.0 (writes_by k w s.3 s.4) ≡ false
    → rewritten s.0 (writing (writes_by k w s.3 s.4) (after_by k w s).0) ≡ (after_by k w s).0
unfolding after_by writes_by
after_ram stopped w (r, p, a, x, y, b, t) h = refl
after_ram halts w (r, p, a, x, y, b, t) h = refl
after_ram compares w (r, p, a, x, y, b, t) h = refl
after_ram writes w (r, p, a, x, y, b, t) h = put_again r _ _ (not-false _ h)
after_ram skips w (r, p, a, x, y, b, t) h = refl
after_ram computes w (r, p, a, x, y, b, t) h = sym (placed_stores _ _ r p a x y _)

low_place : (w x y : ℕ) (q : Where) → place_by (of output w) w x y ≡ q → q.1 < 2 ^ 20
low_place w x y q e = rw (← e) (omega arith)

-- the address of the word written has twenty bits
written_low : (k : Part) (w x y : ℕ) (q : Where) → writes_by k w x y ≡ some q → q.1 < 2 ^ 20
unfolding writes_by
written_low stopped w x y q e = let z : ◌≡◌ {A = ℕ} 0 1 = cc in absurd (omega arith)
written_low halts w x y q e = let z : ◌≡◌ {A = ℕ} 0 1 = cc in absurd (omega arith)
written_low compares w x y q e = let z : ◌≡◌ {A = ℕ} 0 1 = cc in absurd (omega arith)
written_low writes w x y q e = low_place w x y q (cc)
written_low skips w x y q e = let z : ◌≡◌ {A = ℕ} 0 1 = cc in absurd (omega arith)
written_low computes w x y q e = let z : ◌≡◌ {A = ℕ} 0 1 = cc in absurd (omega arith)

-- ---- a change from one state to another, once finished: its record has no room, or it stands in the trail

pub finished_between : (k : Kind) (old new : State) (q : Option Where) (trail : List ℕ) (used : ℕ) → rewritten old.0 (writing q new.0) ≡ new.0
    → finished k (machine_of old) (record { machine = machine_of new; written = writing q new.0 }) old.0 trail used
    ≡ cond (ltb (length trail - used) (length (record_of k old new q))) (left (Err trail_full) old.0 trail)
    (left (Ok (used + length (record_of k old new q))) new.0 (put trail used (record_of k old new q)))
unfolding finished added
finished_between k old new q trail used h = rw (changing_is old.0 new.0 q) (go (ltb (length trail - used) (length (record_of k old new q))))
  where
    go : (f : Bool) → finishing (cond f (Err trail_full, trail) (Ok (used + length (record_of k old new q)), put trail used (record_of k old new q))) old.0 (writing q new.0)
        ≡ cond f (left (Err trail_full) old.0 trail) (left (Ok (used + length (record_of k old new q))) new.0 (put trail used (record_of k old new q)))
    go true = refl
    go false = ap (λ (r : Mem). left (Ok (used + length (record_of k old new q))) r (put trail used (record_of k old new q))) h

-- ---- the refusals of a step whose first three do not apply

no_store_too_long : (main ports : ℕ) → main ≤ 2 ^ 20 → ports ≤ 2 ^ 20 → (ltb (2 ^ 20) main || ltb (2 ^ 20) ports) ≡ false
no_store_too_long main ports h k = rw (le-ltb (2 ^ 20) main h, le-ltb (2 ^ 20) ports k)

module _ (m : Machine) (main ports trail : List ℕ) (used : ℕ) (l : Lawful m.p (length main) (length ports) (length trail) used) (live : m.stop ≡ false) where
  -- 5, then 6
  pub answer_is : answer (operate step) (bench m main ports trail used)
      ≡ cond (step_unfitted (state m (ram main ports))) (Err refusal.Unfitted)
      (cond (ltb (length trail - used) (length (record_for step (state m (ram main ports))))) (Err refusal.TrailFull) (Ok tt))
  unfolding answer
  answer_is =
      lowest_by (applies (operate step) (bench m main ports trail used))
      (lt-leb (2 ^ 20) m.p l.p_lt)
      (no_store_too_long (length main) (length ports) l.main_le l.ports_le)
      (le-ltb (length trail) used l.used_le)
      live refl refl refl refl
      ∙ five_six (step_unfitted (state m (ram main ports))) (ltb (length trail - used) (length (record_for step (state m (ram main ports)))))

module _ (m : Machine) (main ports trail : List ℕ) (used : ℕ) (l : Lawful m.p (length main) (length ports) (length trail) used)
    (g : InRange (state m (ram main ports))) (live : m.stop ≡ false) where
  abbrev s : State
  s = state m (ram main ports)

  abbrev b : Bench
  b = bench m main ports trail used

  -- what was planned
  pub planned_none : phases.Lacking ≡ planned s → answer (operate step) b ≡ Err refusal.Unfitted
  unfolding planned
  planned_none e = answer_is m main ports trail used l live ∙ go (step_unfitted s) e
    where
      go : (u : Bool) → phases.Lacking ≡ cond u phases.Lacking (phases.Go (change_of s)) → cond u (Err refusal.Unfitted) (cond (ltb (length trail - used) (length (record_for step s))) (Err refusal.TrailFull) (Ok (tt {0}))) ≡ Err refusal.Unfitted
      go true q = refl
      go false q = let z : ◌≡◌ {A = ℕ} 0 1 = cc in absurd (omega arith)

  module _ (c : Change) (e : phases.Go c ≡ planned s) where
    fits : step_unfitted s ≡ false
    unfolding planned
    fits = go (step_unfitted s) refl e
      where
        go : (u : Bool) → step_unfitted s ≡ u → phases.Go c ≡ cond u phases.Lacking (phases.Go (change_of s)) → step_unfitted s ≡ false
        go true h q = let z : ◌≡◌ {A = ℕ} 0 1 = cc in absurd (omega arith)
        go false h q = h

    pub change_is : c ≡ change_of s
    unfolding planned
    change_is = let q : phases.Go c ≡ phases.Go (change_of s) = rw fits at e in cc

    -- the place that is written is fitted
    no_lack : lacks (ram main ports) (written s) ≡ false
    unfolding step_unfitted
    no_lack =
        let two = either_false (lacks (ram main ports) (some (false, m.p))) (lacks (ram main ports) (reads s) || lacks (ram main ports) (written s)) fits in
        (either_false (lacks (ram main ports) (reads s)) (lacks (ram main ports) (written s)) two.1).1

    -- and its address has twenty bits, so a record of the change can name it
    pub addressed : Addressed (ram main ports) c.written
    addressed = rw change_is (go (written s) refl no_lack)
      where
        go : (q : Option Where) → written s ≡ q → lacks (ram main ports) q ≡ false → Addressed (ram main ports) (writing q (NEXT s).0)
        go none h k = tt
        go (some q) h k = rw (where_place q) (record { has = not-false _ k; low = written_low (part s) (word s) s.3 s.4 q h })

    -- the stores that the change leaves are NEXT's
    stores_are : rewritten (ram main ports) (writing (written s) (NEXT s).0) ≡ (NEXT s).0
    stores_are = rw (next_by_parts s g) (after_ram (part s) (word s) s no_lack)

    -- the change once finished: refusal 6, or the operation done
    finished_step : finished kind.Step m c (ram main ports) trail used
        ≡ cond (ltb (length trail - used) (length (record_for step s))) (left (Err trail_full) (ram main ports) trail)
        (left (Ok (used + length (record_for step s))) (NEXT s).0 (put trail used (record_for step s)))
    finished_step = rw change_is (finished_between kind.Step s (NEXT s) (written s) trail used stores_are)

    -- the ways out of `finish`
    pub no_room_left : (a : Result ℕ TrailFull) (r : Mem) (t : List ℕ) → left a r t ≡ finished kind.Step m c (ram main ports) trail used → a ≡ Err trail_full
        → (answer (operate step) b ≡ Err refusal.TrailFull) × (r ≡ ram main ports) × (t ≡ trail)
    no_room_left a r t h k = go (ltb (length trail - used) (length (record_for step s))) refl (h ∙ finished_step)
      where
        go : (f : Bool) → ltb (length trail - used) (length (record_for step s)) ≡ f
            → left a r t ≡ cond f (left (Err trail_full) (ram main ports) trail) (left (Ok (used + length (record_for step s))) (NEXT s).0 (put trail used (record_for step s)))
            → (answer (operate step) b ≡ Err refusal.TrailFull) × (r ≡ ram main ports) × (t ≡ trail)
        go true u q = (answer_is m main ports trail used l live ∙ rw (fits, u), ap (λ (x : Finish). x.stores) q, ap (λ (x : Finish). x.trail) q)
        go false u q =
            let y : a ≡ Ok (used + length (record_for step s)) = ap (λ (x : Finish). x.answered) q in
            let z : ◌≡◌ {A = ℕ} 0 1 = cc in
            absurd (omega arith)

    pub record Stepped (n : ℕ) (r : Mem) (t : List ℕ) : Type 0 where
      pub accepted : answer (operate step) b ≡ Ok tt
      pub count : n ≡ used + length (record_for step s)
      pub stores : r ≡ (NEXT s).0
      pub bytes : t ≡ put trail used (record_for step s)
      pub within : used + length (record_for step s) ≤ length trail

    pub stepped : (a : Result ℕ TrailFull) (n : ℕ) (r : Mem) (t : List ℕ) → left a r t ≡ finished kind.Step m c (ram main ports) trail used → a ≡ Ok n → Stepped n r t
    stepped a n r t h k = go (ltb (length trail - used) (length (record_for step s))) refl (h ∙ finished_step)
      where
        go : (f : Bool) → ltb (length trail - used) (length (record_for step s)) ≡ f
            → left a r t ≡ cond f (left (Err trail_full) (ram main ports) trail) (left (Ok (used + length (record_for step s))) (NEXT s).0 (put trail used (record_for step s)))
            → Stepped n r t
        go true u q =
            let y : a ≡ Err trail_full = ap (λ (x : Finish). x.answered) q in
            let z : ◌≡◌ {A = ℕ} 0 1 = cc in
            absurd (omega arith)
        go false u q =
            let i : Ok n ≡ Ok (used + length (record_for step s)) = sym k ∙ ap (λ (x : Finish). x.answered) q in
            let room = ltb-false (length trail - used) (length (record_for step s)) u in
            record {
              accepted = answer_is m main ports trail used l live ∙ rw (fits, u);
              count = cc;
              stores = ap (λ (x : Finish). x.stores) q;
              bytes = ap (λ (x : Finish). x.trail) q;
              within = omega (arith, l.used_le);
            }

-- ---- a run of steps

-- so many steps done before
abbrev pub after_steps : ℕ → Ran → Ran
after_steps k r = record { bench = r.bench; steps = k + r.steps; ended = r.ended }

halted : (t : Bool) (b : Bench) (r : Ran) → t ≡ true → unless_stopped t b r ≡ ends b ending.Stopped
halted t b r h = rw h

going_on : (t : Bool) (b : Bench) (r : Ran) → t ≡ false → unless_stopped t b r ≡ r
going_on t b r h = rw h

pub stops : (n : ℕ) (b : Bench) → b.state.6 ≡ true → over_and_over n b ≡ ends b ending.Stopped
unfolding over_and_over
stops zero b h = halted b.state.6 b _ h
stops (suc n) b h = halted b.state.6 b _ h

pub out_of_budget : (b : Bench) → b.state.6 ≡ false → over_and_over 0 b ≡ ends b ending.Budget
unfolding over_and_over
out_of_budget b h = going_on b.state.6 b _ h

pub turn : (n : ℕ) (b : Bench) (a : Answer) → b.state.6 ≡ false → answer (operate step) b ≡ a → over_and_over (suc n) b ≡ by_answer a b (over_and_over n (done step b))
unfolding over_and_over
turn n b a h e = going_on b.state.6 b _ h ∙ ap (λ (x : Answer). by_answer x b (over_and_over n (done step b))) e

-- The run of this budget from the bench b₀ is, after k steps, the run of the rest of the budget from the bench b.
abbrev pub Along : ℕ → Bench → ℕ → Bench → Type 0
Along budget b₀ k b = over_and_over budget b₀ ≡ after_steps k (over_and_over (budget - k) b)

pub along_start : (budget : ℕ) (b : Bench) → Along budget b 0 b
along_start budget b = let e : budget - 0 ≡ budget = omega arith in rw e (sym (ap (λ (n : ℕ). record { bench = (over_and_over budget b).bench; steps = n; ended = (over_and_over budget b).ended }) (omega arith)))

module _ (budget : ℕ) (b₀ : Bench) (k : ℕ) (b : Bench) (a : Along budget b₀ k b) where
  finally : (e : Ending) → over_and_over (budget - k) b ≡ ends b e → record { bench = b; steps = k; ended = e } ≡ over_and_over budget b₀
  finally e h = sym (a ∙ (rw h (ap (λ (n : ℕ). record { bench = b; steps = n; ended = e }) (omega arith))))

  pub ends_stopped : b.state.6 ≡ true → record { bench = b; steps = k; ended = ending.Stopped } ≡ over_and_over budget b₀
  ends_stopped h = finally ending.Stopped (go (budget - k))
    where
      go : (n : ℕ) → over_and_over n b ≡ ends b ending.Stopped
      go n = stops n b h

  pub ends_budget : b.state.6 ≡ false → k ≡ budget → record { bench = b; steps = k; ended = ending.Budget } ≡ over_and_over budget b₀
  ends_budget h e = finally ending.Budget (let z : budget - k ≡ 0 = omega arith in rw z (out_of_budget b h))

  pub ends_refused : (r : Refusal) → b.state.6 ≡ false → k < budget → answer (operate step) b ≡ Err r → record { bench = b; steps = k; ended = ending_of r } ≡ over_and_over budget b₀
  ends_refused r h l e = finally (ending_of r) (let z : budget - k ≡ suc (budget - (k + 1)) = omega arith in rw z (turn (budget - (k + 1)) b (Err r) h e))

  pub along_next : b.state.6 ≡ false → k < budget → answer (operate step) b ≡ Ok tt → Along budget b₀ (k + 1) (done step b)
  along_next h l e =
      let z : budget - k ≡ suc (budget - (k + 1)) = omega arith in
      let rest = over_and_over (budget - (k + 1)) (done step b) in
      a ∙ (rw (z, turn (budget - (k + 1)) b (Ok tt) h e) (ap (λ (n : ℕ). record { bench = rest.bench; steps = n; ended = rest.ended }) (omega arith)))

-- ---- the loop of `advance`

-- what is known at its head: nothing is refused yet, the words are in range, nothing changed its length, and the run goes along
pub record Going (main₀ ports₀ trail₀ : List ℕ) (m₀ : Machine) (used budget : ℕ) (main ports trail : List ℕ) (m : Machine) (count steps : ℕ) : Type 0 where
  pub lawful : Lawful m.p (length main) (length ports) (length trail) count
  pub range : InRange (state m (ram main ports))
  pub main_size : length main ≡ length main₀
  pub ports_size : length ports ≡ length ports₀
  pub trail_size : length trail ≡ length trail₀
  pub few : steps ≤ budget
  pub along : Along budget (bench m₀ main₀ ports₀ trail₀ used) steps (bench m main ports trail count)

pub going_start : (main ports trail : List ℕ) (m : Machine) (used budget : ℕ) → Lawful m.p (length main) (length ports) (length trail) used → InRange (state m (ram main ports))
    → Going main ports trail m used budget main ports trail m used 0
going_start main ports trail m used budget l g =
    record {
      lawful = l;
      range = g;
      main_size = refl;
      ports_size = refl;
      trail_size = refl;
      few = omega arith;
      along = along_start budget (bench m main ports trail used);
    }

-- writing a word changes no length
pub put_size : (r : Mem) (q : Where) (v : ℕ) → (length (with_word r q v).main ≡ length r.main) × (length (with_word r q v).ports ≡ length r.ports)
unfolding with_word
put_size r (true, n) v = (refl, length-set r.ports n v)
put_size r (false, n) v = (length-set r.main n v, refl)

written_size : (r : Mem) (w : Written) → (length (rewritten r w).main ≡ length r.main) × (length (rewritten r w).ports ≡ length r.ports)
written_size r phases.Nothing = (refl, refl)
written_size r (phases.Word q v) = put_size r (where_of q) v

pub same_bench : {s₁ s₂ : State} {t₁ t₂ : List ℕ} {n₁ n₂ : ℕ} → s₁ ≡ s₂ → t₁ ≡ t₂ → n₁ ≡ n₂
    → ◌≡◌ {A = Bench} (record { state = s₁; trail = t₁; used = n₁ }) (record { state = s₂; trail = t₂; used = n₂ })
same_bench e f g = cc

-- what `answered_by` tells
not_unfitted : (m : Machine) (x : Result ℕ TrailFull) → stepped_case.Unfitted ≡ answered_by m x → ⊥
not_unfitted m (Err x) e = let n : ◌≡◌ {A = ℕ} 0 1 = cc in omega arith
not_unfitted m (Ok k) e = let n : ◌≡◌ {A = ℕ} 0 1 = cc in omega arith

was_full : (m : Machine) (x : Result ℕ TrailFull) → stepped_case.NoRoom ≡ answered_by m x → x ≡ Err trail_full
was_full m (Err x) e = refl
was_full m (Ok k) e = let n : ◌≡◌ {A = ℕ} 0 1 = cc in absurd (omega arith)

was_done : (m : Machine) (x : Result ℕ TrailFull) (m' : Machine) (n : ℕ) → stepped_case.Done m' n ≡ answered_by m x → (x ≡ Ok n) × (m' ≡ m)
was_done m (Err x) m' n e = let k : ◌≡◌ {A = ℕ} 0 1 = cc in absurd (omega arith)
was_done m (Ok k) m' n e = (cc, cc)

same_finish : {a a' : Result ℕ TrailFull} {r r' : Mem} {t t' : List ℕ} → a ≡ a' → r ≡ r' → t ≡ t' → left a r t ≡ left a' r' t'
same_finish e f g = cc

module _ {main₀ ports₀ trail₀ : List ℕ} {m₀ : Machine} {used budget : ℕ} {main ports trail : List ℕ} {m : Machine} {count steps : ℕ}
    (k : Going main₀ ports₀ trail₀ m₀ used budget main ports trail m count steps) (live : m.stop ≡ false) where
  pub leaves_budget : steps ≡ budget → record { bench = bench m main ports trail count; steps = steps; ended = ending.Budget } ≡ over_and_over budget (bench m₀ main₀ ports₀ trail₀ used)
  leaves_budget e = ends_budget budget _ steps (bench m main ports trail count) k.along live e

  module _ (more : steps ≡ budget → ⊥) where
    less : steps < budget
    less = omega (arith, k.few)

    pub leaves_unfitted : phases.Lacking ≡ planned (state m (ram main ports))
        → record { bench = bench m main ports trail count; steps = steps; ended = ending.Unfitted } ≡ over_and_over budget (bench m₀ main₀ ports₀ trail₀ used)
    leaves_unfitted e =
        ends_refused budget _ steps (bench m main ports trail count) k.along refusal.Unfitted live less
        (planned_none m main ports trail count k.lawful k.range live e)

    module _ (c : Change) (e : phases.Go c ≡ planned (state m (ram main ports))) where
      pub leaves_full : (a : Result ℕ TrailFull) (r : Mem) (t : List ℕ) → left a r t ≡ finished kind.Step m c (ram main ports) trail count → a ≡ Err trail_full
          → record { bench = record { state = state m r; trail = t; used = count }; steps = steps; ended = ending.Full } ≡ over_and_over budget (bench m₀ main₀ ports₀ trail₀ used)
      leaves_full a r t h f =
          let o = no_room_left m main ports trail count k.lawful k.range live c e a r t h f in
          rw (o.1, o.2) (ends_refused budget _ steps (bench m main ports trail count) k.along refusal.TrailFull live less o.0)

      pub goes_on : (a : Result ℕ TrailFull) (n : ℕ) (main' ports' trail' : List ℕ) → left a (ram main' ports') trail' ≡ finished kind.Step m c (ram main ports) trail count → a ≡ Ok n
          → Going main₀ ports₀ trail₀ m₀ used budget main' ports' trail' c.machine n (steps + 1)
      goes_on a n main' ports' trail' h f =
          let s = state m (ram main ports) in
          let o = stepped m main ports trail count k.lawful k.range live c e a n (ram main' ports') trail' h f in
          let st : state c.machine (ram main' ports') ≡ NEXT s = rw (change_is m main ports trail count k.lawful k.range live c e, o.stores) in
          let now : done step (bench m main ports trail count) ≡ bench c.machine main' ports' trail' n = same_bench (sym st) (sym o.bytes) (sym o.count) in
          let z = written_size (ram main ports) (writing (written s) (NEXT s).0) in
          let w = o.stores ∙ sym (stores_are m main ports trail count k.lawful k.range live c e) in
          let lm : length main' ≡ length main = ap (λ (r : Mem). length r.main) w ∙ z.0 in
          let lp : length ports' ≡ length ports = ap (λ (r : Mem). length r.ports) w ∙ z.1 in
          let lt : length trail' ≡ length trail = ap length o.bytes ∙ put_length trail count (record_for step s) o.within in
          let rg : InRange (state c.machine (ram main' ports')) = rw st (next_in_range s k.range) in
          record {
            lawful = record { p_lt = rg.p_lt; main_le = rw lm k.lawful.main_le; ports_le = rw lp k.lawful.ports_le; used_le = rw (lt, o.count) o.within };
            range = rg;
            main_size = lm ∙ k.main_size;
            ports_size = lp ∙ k.ports_size;
            trail_size = lt ∙ k.trail_size;
            few = omega (arith, less);
            along = rw (← now) (along_next budget _ steps (bench m main ports trail count) k.along live less o.accepted);
          }

    -- ---- the same, by what `step_once` answered and left

    module _ (a : AfterStep) (r : Mem) (t : List ℕ) (h : ended a r t ≡ once m (ram main ports) trail count) where
      pub leaves_lacking : a ≡ stepped_case.Unfitted
          → record { bench = record { state = state m r; trail = t; used = count }; steps = steps; ended = ending.Unfitted } ≡ over_and_over budget (bench m₀ main₀ ports₀ trail₀ used)
      leaves_lacking f = go (planned (state m (ram main ports))) refl h
        where
          go : (p : Plan) → planned (state m (ram main ports)) ≡ p → ended a r t ≡ by_plan m (ram main ports) trail count p
              → record { bench = record { state = state m r; trail = t; used = count }; steps = steps; ended = ending.Unfitted } ≡ over_and_over budget (bench m₀ main₀ ports₀ trail₀ used)
          go phases.Lacking q z = rw (ap (λ (x : End). x.stores) z, ap (λ (x : End). x.trail) z) (leaves_unfitted (sym q))
          go (phases.Go c) q z = absurd (not_unfitted c.machine (finished kind.Step m c (ram main ports) trail count).answered (sym f ∙ ap (λ (x : End). x.answer) z))

      pub leaves_without_room : a ≡ stepped_case.NoRoom
          → record { bench = record { state = state m r; trail = t; used = count }; steps = steps; ended = ending.Full } ≡ over_and_over budget (bench m₀ main₀ ports₀ trail₀ used)
      leaves_without_room f = go (planned (state m (ram main ports))) refl h
        where
          go : (p : Plan) → planned (state m (ram main ports)) ≡ p → ended a r t ≡ by_plan m (ram main ports) trail count p
              → record { bench = record { state = state m r; trail = t; used = count }; steps = steps; ended = ending.Full } ≡ over_and_over budget (bench m₀ main₀ ports₀ trail₀ used)
          go phases.Lacking q z =
              let y : stepped_case.NoRoom ≡ stepped_case.Unfitted = sym f ∙ ap (λ (x : End). x.answer) z in
              let n : ◌≡◌ {A = ℕ} 0 1 = cc in
              absurd (omega arith)
          go (phases.Go c) q z =
              let x = finished kind.Step m c (ram main ports) trail count in
              let full : x.answered ≡ Err trail_full = was_full c.machine x.answered (sym f ∙ ap (λ (x : End). x.answer) z) in
              leaves_full c (sym q) (Err trail_full) r t (same_finish (sym full) (ap (λ (x : End). x.stores) z) (ap (λ (x : End). x.trail) z)) refl

    pub goes_on_after : (a : AfterStep) (m' : Machine) (n : ℕ) (main' ports' trail' : List ℕ) → ended a (ram main' ports') trail' ≡ once m (ram main ports) trail count → a ≡ stepped_case.Done m' n
        → Going main₀ ports₀ trail₀ m₀ used budget main' ports' trail' m' n (steps + 1)
    goes_on_after a m' n main' ports' trail' h f = go (planned (state m (ram main ports))) refl h
      where
        go : (p : Plan) → planned (state m (ram main ports)) ≡ p → ended a (ram main' ports') trail' ≡ by_plan m (ram main ports) trail count p
            → Going main₀ ports₀ trail₀ m₀ used budget main' ports' trail' m' n (steps + 1)
        go phases.Lacking q z =
            let y : stepped_case.Done m' n ≡ stepped_case.Unfitted = sym f ∙ ap (λ (x : End). x.answer) z in
            let n : ◌≡◌ {A = ℕ} 0 1 = cc in
            absurd (omega arith)
        go (phases.Go c) q z =
            let x = finished kind.Step m c (ram main ports) trail count in
            let d : (x.answered ≡ Ok n) × (m' ≡ c.machine) = was_done c.machine x.answered m' n (sym f ∙ ap (λ (x : End). x.answer) z) in
            rw d.1 (goes_on c (sym q) (Ok n) n main' ports' trail' (same_finish (sym d.0) (ap (λ (x : End). x.stores) z) (ap (λ (x : End). x.trail) z)) refl)

pub leaves_stopped : {main₀ ports₀ trail₀ : List ℕ} {m₀ : Machine} {used budget : ℕ} {main ports trail : List ℕ} {m : Machine} {count steps : ℕ}
    → Going main₀ ports₀ trail₀ m₀ used budget main ports trail m count steps → m.stop ≡ true
    → record { bench = bench m main ports trail count; steps = steps; ended = ending.Stopped } ≡ over_and_over budget (bench m₀ main₀ ports₀ trail₀ used)
leaves_stopped {main₀} {ports₀} {trail₀} {m₀} {used} {budget} {main} {ports} {trail} {m} {count} {steps} k h =
    ends_stopped budget (bench m₀ main₀ ports₀ trail₀ used) steps (bench m main ports trail count) k.along h

-- What a step that was not done says of the run.
abbrev pub ending_by : Undone → Ending
ending_by undone.Unfitted = ending.Unfitted
ending_by undone.Full = ending.Full

-- A step that was not done kept the sources that are a machine's registers.
pub leaves_undone : {main₀ ports₀ trail₀ : List ℕ} {m₀ : Machine} {used budget : ℕ} {main ports trail : List ℕ} {count steps : ℕ} (g : List ℕ) (p : ℕ) (b stop : Bool)
    → Going main₀ ports₀ trail₀ m₀ used budget main ports trail (held g p b stop) count steps → stop ≡ false → (steps ≡ budget → ⊥)
    → (a : Result Next Undone) (y x : Undone) (g' : List ℕ) (r : Mem) (t : List ℕ) → Kept a g g' → ended (came a g') r t ≡ once (held g p b false) (ram main ports) trail count → a ≡ Err y → y ≡ x
    → record { bench = record { state = state (held g' p b stop) r; trail = t; used = count }; steps = steps; ended = ending_by x } ≡ over_and_over budget (bench m₀ main₀ ports₀ trail₀ used)
leaves_undone {main₀} {ports₀} {trail₀} {m₀} {used} {budget} {main} {ports} {trail} {count} {steps} g p b stop k live more a y x g' r t kept e h same_reason =
    ap (λ (m : Machine). record { bench = record { state = state m r; trail = t; used = count }; steps = steps; ended = ending_by x }) same ∙ go x (h ∙ ap Err same_reason)
  where
    k' : Going main₀ ports₀ trail₀ m₀ used budget main ports trail (held g p b false) count steps
    k' = rw live at k

    same : held g' p b stop ≡ held g p b false
    same =
        let before : held g 0 false false ≡ held g' 0 false false = rw h at kept in
        ap (λ (t : Bool). held g' p b t) live ∙ ap (λ (m : Machine). record { a = m.a; x = m.x; y = m.y; p = p; b = b; stop = false }) (sym before)

    go : (x : Undone) → a ≡ Err x
        → record { bench = record { state = state (held g p b false) r; trail = t; used = count }; steps = steps; ended = ending_by x } ≡ over_and_over budget (bench m₀ main₀ ports₀ trail₀ used)
    go undone.Unfitted h = leaves_lacking k' refl more (came a g') r t e (ap (λ (y : Result Next Undone). came y g') h)
    go undone.Full h = leaves_without_room k' refl more (came a g') r t e (ap (λ (y : Result Next Undone). came y g') h)
