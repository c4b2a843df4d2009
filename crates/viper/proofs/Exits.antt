-- The ways out of the calls: each answer, with the bench it leaves, is the one that the table of refusals and the operation give.
-- Assumes nothing.
use Prim.{Unit, tt}
use mathlib.Core.Path.{◌≡◌, refl, sym, ap, ◌∙◌}
use mathlib.Core.Bool.{Bool, true, false, not, cond, ◌||◌}
use mathlib.Core.List.{List}
use mathlib.Core.Option.{some}
use Prim.Native.Nat.{ℕ, ◌+◌, ◌-◌, ◌^◌, ◌<◌}
use native.Mathlib.Omega.{arith}
use lib.Dec.{eqb, leb, ltb}
use lib.ListN.{length}
use borrow.Author.Tests.{leb-false, ltb-false, eq-eqb, ne_eqb}
use Rattle.report.specs.AnnexA.{Mem}
use Rattle.report.specs.Parts.{Where, fitted, with_word, word_at}
use Rattle.machine.specs.Held.{ram, state, machine_of, where_of, place_of}
use Rattle.machine.specs.declared.Machine.{Machine}
use Rattle.machine.specs.declared.Ending.{Ending}
use Rattle.machine.specs.declared.Ending.TheVariants as ending
use Rattle.machine.specs.declared.Place.{Place}
use Rattle.machine.specs.declared.Place.TheVariants as place
use Rattle.trail.specs.declared.Kind.TheVariants as kind
use Rattle.trail.specs.declared.Kind.{Kind}
use Rattle.trail.specs.Records.{record_bytes, old_values, put, added, trail_full, restored, marked, where_of_number}
use Rattle.trail.specs.Newest.{broken_record, read_back}
use Rattle.trail.proofs.NewestReadsBack.{newest_fitted_stands, fits_fitted}
use Rattle.trail.specs.declared.Newest.{Newest}
use Rattle.trail.specs.declared.Broken.{Broken}
use Rattle.trail.specs.declared.OldValues.{OldValues}
use Rattle.trail.specs.declared.TrailFull as no_room
use Rattle.viper.specs.declared.Refusal.{Refusal}
use Rattle.viper.specs.declared.After.{After}
use Rattle.viper.specs.declared.Ran as code
use Rattle.std.specs.Result.{IsErrAnd}
use Rattle.std.proofs.lemmas.Result.{err_from_is_err_and}
use Rattle.viper.specs.declared.Refusal.TheVariants.{PTooLarge, StoreTooLong, CountTooLarge, Stopped, Unfitted, TrailFull, NothingInUse, BrokenRecord}
use Rattle.std.specs.Prelude.{Result, Ok, Err, None}
use Rattle.viper.specs.Refusals.{Answer, when, or_else}
use Rattle.step.specs.Phases.{step_unfitted}
use Rattle.report.proofs.Stores.{fitted_low}
use Rattle.viper.proofs.Viewing.{view_one}
use Rattle.viper.specs.Operations.{Bench, Outcome, Operation, step, reset, force, set_word, operate, run, back, Call, lends_stores, next, applies, answer, record_for, done, broken, newest_of, outcome}
use Rattle.viper.specs.TakingBack.{put_back, back_outcome}
use Rattle.viper.specs.Runs.{Ran, over_and_over, run_outcome}
use Rattle.step.specs.Phases as write
use Rattle.viper.specs.Views.{view_fitted}
use Rattle.step.specs.Finishing.{Fitted, left, Finish, finished}
use Rattle.viper.specs.Noting.{noted, noted_by, stores_restored, Refits}
use Rattle.step.specs.Lawful.{Lawful}
use Rattle.viper.specs.Judging.{first_refusals}
use Rattle.viper.specs.Told.{bench, told, run_told}
use Rattle.step.proofs.Planning.{word_back}
use Rattle.viper.proofs.Stepping.{answer_is, turn, out_of_budget, stops, finished_between, put_again}

-- ---- refusals 1 to 3

or_else_first : (a : Answer) (b c : Answer) → or_else (or_else a b) c ≡ or_else a (or_else b c)
or_else_first (Ok u) b c = refl
or_else_first (Err r) b c = refl

-- refusals 4 to 8
abbrev later : Call → Bench → Answer
later c b =
    or_else (when (applies c b Stopped) Stopped)
    (or_else (when (applies c b Unfitted) Unfitted)
    (or_else (when (applies c b TrailFull) TrailFull)
    (or_else (when (applies c b NothingInUse) NothingInUse)
    (when (applies c b BrokenRecord) BrokenRecord))))

-- A call that is lent the stores answers the first three before the others.
pub first_then : (c : Call) (m : Machine) (main ports trail : List ℕ) (used : ℕ) → lends_stores c ≡ true
    → answer c (bench m main ports trail used) ≡ or_else (first_refusals m.p (length main) (length ports) (length trail) used) (later c (bench m main ports trail used))
unfolding answer
first_then c m main ports trail used h = rw h (sym (go (when (leb (2 ^ 20) m.p) PTooLarge) (when (ltb (2 ^ 20) (length main) || ltb (2 ^ 20) (length ports)) StoreTooLong) (when (ltb (length trail) used) CountTooLarge) (later c (bench m main ports trail used))))
  where
    go : (x y z l : Answer) → or_else (or_else x (or_else y z)) l ≡ or_else x (or_else y (or_else z l))
    go x y z l = or_else_first x (or_else y z) l ∙ ap (or_else x) (or_else_first y z l)

module _ (p main ports trail used : ℕ) where
  pub passed : (a : Answer) → a ≡ first_refusals p main ports trail used → a ≡ Ok tt → Lawful p main ports trail used
  passed a h e = go (leb (2 ^ 20) p) refl (ltb (2 ^ 20) main) refl (ltb (2 ^ 20) ports) refl (ltb trail used) refl (sym h ∙ e)
    where
      go : (a : Bool) → leb (2 ^ 20) p ≡ a → (b : Bool) → ltb (2 ^ 20) main ≡ b → (c : Bool) → ltb (2 ^ 20) ports ≡ c → (d : Bool) → ltb trail used ≡ d
          → or_else (when a PTooLarge) (or_else (when (b || c) StoreTooLong) (when d CountTooLarge)) ≡ Ok (tt {0}) → Lawful p main ports trail used
      go true ea b eb c ec d ed q = let z : ◌≡◌ {A = ℕ} 0 1 = cc in absurd (omega arith)
      go false ea true eb c ec d ed q = let z : ◌≡◌ {A = ℕ} 0 1 = cc in absurd (omega arith)
      go false ea false eb true ec d ed q = let z : ◌≡◌ {A = ℕ} 0 1 = cc in absurd (omega arith)
      go false ea false eb false ec true ed q = let z : ◌≡◌ {A = ℕ} 0 1 = cc in absurd (omega arith)
      go false ea false eb false ec false ed q =
          record { p_lt = leb-false (2 ^ 20) p ea; main_le = ltb-false (2 ^ 20) main eb; ports_le = ltb-false (2 ^ 20) ports ec; used_le = ltb-false trail used ed }

-- ---- a refused call leaves the bench

-- the code hands nothing back
told_refused : (m : Machine) (main ports trail : List ℕ) (used : ℕ) (x : Result After Refusal) (r : Refusal) → IsErrAnd x (λ y. y ≡ r)
    → told x m used main ports trail ≡ record { answered = Err r; bench = bench m main ports trail used }
told_refused m main ports trail used x r h = let p = err_from_is_err_and x h in rw (p.1, p.2) refl

run_told_refused : (m : Machine) (main ports trail : List ℕ) (used : ℕ) (x : Result code.Ran Refusal) (r : Refusal) → IsErrAnd x (λ y. y ≡ r)
    → run_told x m used main ports trail ≡ record { answered = Err r; bench = bench m main ports trail used }
run_told_refused m main ports trail used x r h = let p = err_from_is_err_and x h in rw (p.1, p.2) refl

pub refused : (e : Operation) (b : Bench) (r : Refusal) → answer (operate e) b ≡ Err r → record { answered = Err r; bench = b } ≡ outcome e b
refused e b r h = rw h

pub accepted : (e : Operation) (b : Bench) → answer (operate e) b ≡ Ok tt → record { answered = Ok tt; bench = done e b } ≡ outcome e b
accepted e b h = rw h

-- The answer of a step, from how a run of one step ended.
abbrev pub answer_by : Ending → Answer
answer_by ending.Stopped = Ok tt
answer_by ending.Budget = Ok tt
answer_by ending.Unfitted = Err Unfitted
answer_by ending.Full = Err TrailFull

-- What a run of one step comes to, as a step.
abbrev stepped_to : Ran → Outcome
stepped_to o = record { answered = answer_by o.ended; bench = o.bench }

-- A step that was refused left the bench where it was.
abbrev Stood : Answer → Bench → Bench → Type 0
Stood (Ok u) after before = Unit {0}
Stood (Err r) after before = after ≡ before

module _ (m : Machine) (main ports trail : List ℕ) (used : ℕ) where
  abbrev b : Bench
  b = bench m main ports trail used

  abbrev first : Answer
  first = first_refusals m.p (length main) (length ports) (length trail) used

  -- the first three
  pub refused_first : (e : Operation) (a : Answer) (r : Refusal) (x : Result After Refusal) → lends_stores (operate e) ≡ true → a ≡ first → a ≡ Err r → IsErrAnd x (λ y. y ≡ r) → told x m used main ports trail ≡ outcome e b
  refused_first e a r x h k q z =
      told_refused m main ports trail used x r z
      ∙ refused e b r (first_then (operate e) m main ports trail used h ∙ ap (λ (x : Answer). or_else x (later (operate e) b)) (sym k ∙ q))

  -- 4
  pub refused_stopped : (a : Answer) → a ≡ first → a ≡ Ok tt → m.stop ≡ true → record { answered = Err Stopped; bench = b } ≡ outcome step b
  refused_stopped a k q h =
      refused step b Stopped
      (first_then (operate step) m main ports trail used refl
      ∙ ap (λ (x : Answer). or_else x (later (operate step) b)) (sym k ∙ q)
      ∙ ap (λ (t : Bool). or_else (when t Stopped) (or_else (when (step_unfitted b.state) Unfitted) (or_else (when (ltb (length trail - used) (length (record_for step b.state))) TrailFull) (Ok tt)))) h)

  -- a run of one step
  module _ (l : Lawful m.p (length main) (length ports) (length trail) used) (live : m.stop ≡ false) where
    one_step : (u f : Bool) → answer (operate step) b ≡ cond u (Err Unfitted) (cond f (Err TrailFull) (Ok tt)) → stepped_to (over_and_over 1 b) ≡ outcome step b
    one_step true f e = rw (turn 0 b (Err Unfitted) live e) (refused step b Unfitted e)
    one_step false true e = rw (turn 0 b (Err TrailFull) live e) (refused step b TrailFull e)
    one_step false false e = rw (turn 0 b (Ok tt) live e) (go (done step b).state.6 refl)
      where
        go : (t : Bool) → (done step b).state.6 ≡ t → stepped_to (over_and_over 0 (done step b)) ≡ outcome step b
        go true h = rw (stops 0 (done step b) h) (accepted step b e)
        go false h = rw (out_of_budget (done step b) h) (accepted step b e)

    pub stepped_once : (o : Ran) → o ≡ over_and_over 1 b → stepped_to o ≡ outcome step b
    stepped_once o e = rw e (one_step (step_unfitted b.state) (ltb (length trail - used) (length (record_for step b.state))) (answer_is m main ports trail used l live))

    stood : (u f : Bool) → answer (operate step) b ≡ cond u (Err Unfitted) (cond f (Err TrailFull) (Ok tt)) → Stood (answer_by (over_and_over 1 b).ended) (over_and_over 1 b).bench b
    stood true f e = rw (turn 0 b (Err Unfitted) live e) refl
    stood false true e = rw (turn 0 b (Err TrailFull) live e) refl
    stood false false e = rw (turn 0 b (Ok tt) live e) (go (done step b).state.6 refl)
      where
        go : (t : Bool) → (done step b).state.6 ≡ t → Stood (answer_by (over_and_over 0 (done step b)).ended) (over_and_over 0 (done step b)).bench b
        go true h = rw (stops 0 (done step b) h) tt
        go false h = rw (out_of_budget (done step b) h) tt

    -- refused, it is the machine and the count from before that count
    pub step_refused : (o : Ran) (r : Mem) (t : List ℕ) (x : Refusal) → o ≡ over_and_over 1 b → r ≡ o.bench.state.0 → t ≡ o.bench.trail → answer_by o.ended ≡ Err x
        → record { answered = Err x; bench = record { state = state m r; trail = t; used = used } } ≡ outcome step b
    step_refused o r t x e f g q =
        let k : Stood (answer_by o.ended) o.bench b = rw e (stood (step_unfitted b.state) (ltb (length trail - used) (length (record_for step b.state))) (answer_is m main ports trail used l live)) in
        let z : o.bench ≡ b = rw q at k in
        rw (f ∙ ap (λ (y : Bench). y.state.0) z, g ∙ ap (λ (y : Bench). y.trail) z)
        (refused step b x (sym (ap (λ (y : Outcome). y.answered) (stepped_once o e)) ∙ q))

  -- ---- run

  run_answers : (n : ℕ) → answer (run n) b ≡ first
  run_answers n = first_then (run n) m main ports trail used refl ∙ go first
    where
      go : (a : Answer) → or_else a (Ok (tt {0})) ≡ a
      go (Ok u) = refl
      go (Err r) = refl

  pub run_refused : (n : ℕ) (a : Answer) (r : Refusal) (x : Result code.Ran Refusal) → a ≡ first → a ≡ Err r → IsErrAnd x (λ y. y ≡ r) → run_told x m used main ports trail ≡ run_outcome n b
  run_refused n a r x k q z = run_told_refused m main ports trail used x r z ∙ (rw (run_answers n, sym k ∙ q) refl)

  pub run_ended : (n : ℕ) (a : Answer) (o : Ran) → a ≡ first → a ≡ Ok tt → o ≡ over_and_over n b → record { answered = Ok (o.steps, o.ended); bench = o.bench } ≡ run_outcome n b
  run_ended n a o k q e = rw (run_answers n, sym k ∙ q, e)

-- ---- reset and force

alone : (t : Bool) (r : Refusal) → or_else (when t r) (Ok tt) ≡ when t r
alone true r = refl
alone false r = refl

module _ (m : Machine) (r : Mem) (trail : List ℕ) (used : ℕ) where
  pub reset_is : noted kind.Reset m (record { a = 0; x = 0; y = 0; p = 0; b = false; stop = false }) r trail used ≡ outcome reset (record { state = state m r; trail = trail; used = used })
  unfolding noted answer
  reset_is = rw (alone (ltb (length trail - used) (length (record_for reset (state m r)))) TrailFull)

  pub force_is : noted kind.Force m (record { a = m.a; x = m.x; y = m.y; p = m.p; b = m.b; stop = true }) r trail used ≡ outcome force (record { state = state m r; trail = trail; used = used })
  unfolding noted answer
  force_is = rw (alone (ltb (length trail - used) (length (record_for force (state m r)))) TrailFull)

module _ (k : Kind) (m after : Machine) (r : Mem) (trail : List ℕ) (used : ℕ) where
  abbrev as_was : Bench
  as_was = record { state = state m r; trail = trail; used = used }

  abbrev bytes : List ℕ
  bytes = record_bytes (old_values k m after None)

  abbrev full : Bool
  full = ltb (length trail - used) (length bytes)

  abbrev written : Bench
  written = record { state = state after r; trail = put trail used bytes; used = used + length bytes }

  -- no store is too long where none is lent
  noted_first : noted k m after r trail used ≡ noted_by (or_else (first_refusals m.p 0 0 (length trail) used) (when full TrailFull)) written as_was
  unfolding noted
  noted_first = ap (λ (x : Answer). noted_by x written as_was) (sym (or_else_first (when (leb (2 ^ 20) m.p) PTooLarge) (when (ltb (length trail) used) CountTooLarge) (when full TrailFull)))

  module _ (f : Answer) (first : f ≡ first_refusals m.p 0 0 (length trail) used) where
    pub noted_refused : (x : Refusal) → f ≡ Err x → record { answered = Err x; bench = as_was } ≡ noted k m after r trail used
    noted_refused x e = sym (noted_first ∙ ap (λ (y : Answer). noted_by (or_else y (when full TrailFull)) written as_was) (sym first ∙ e))

    module _ (passed : f ≡ Ok tt) (o : OldValues) (a : Result ℕ no_room.TrailFull) (t : List ℕ) (ho : o ≡ old_values k m after None) (ha : (a, t) ≡ added trail used (record_bytes o)) where
      added_is : ◌≡◌ {A = Result ℕ no_room.TrailFull × List ℕ} (a, t) (cond full (Err trail_full, trail) (Ok (used + length bytes), put trail used bytes))
      unfolding added
      added_is = ha ∙ ap (λ (q : OldValues). added trail used (record_bytes q)) ho

      noted_is : noted k m after r trail used ≡ noted_by (when full TrailFull) written as_was
      noted_is = noted_first ∙ ap (λ (y : Answer). noted_by (or_else y (when full TrailFull)) written as_was) (sym first ∙ passed)

      pub noted_full : a ≡ Err trail_full → record { answered = Err TrailFull; bench = record { state = state m r; trail = t; used = used } } ≡ noted k m after r trail used
      noted_full e = go (ltb (length trail - used) (length bytes)) added_is ∙ sym noted_is
        where
          go : (f : Bool) → ◌≡◌ {A = Result ℕ no_room.TrailFull × List ℕ} (a, t) (cond f (Err trail_full, trail) (Ok (used + length bytes), put trail used bytes))
              → record { answered = Err TrailFull; bench = record { state = state m r; trail = t; used = used } }
              ≡ noted_by (when f TrailFull) (record { state = state after r; trail = put trail used bytes; used = used + length bytes }) as_was
          go true q = rw (ap (λ (y : Result ℕ no_room.TrailFull × List ℕ). y.1) q)
          go false q =
              let y : a ≡ Ok (used + length bytes) = ap (λ (y : Result ℕ no_room.TrailFull × List ℕ). y.0) q in
              let z : ◌≡◌ {A = ℕ} 0 1 = cc in
              absurd (omega arith)

      pub noted_done : (n : ℕ) → a ≡ Ok n → record { answered = Ok tt; bench = record { state = state after r; trail = t; used = n } } ≡ noted k m after r trail used
      noted_done n e = go (ltb (length trail - used) (length bytes)) added_is ∙ sym noted_is
        where
          go : (f : Bool) → ◌≡◌ {A = Result ℕ no_room.TrailFull × List ℕ} (a, t) (cond f (Err trail_full, trail) (Ok (used + length bytes), put trail used bytes))
              → record { answered = Ok tt; bench = record { state = state after r; trail = t; used = n } }
              ≡ noted_by (when f TrailFull) (record { state = state after r; trail = put trail used bytes; used = used + length bytes }) as_was
          go true q =
              let y : a ≡ Err trail_full = ap (λ (y : Result ℕ no_room.TrailFull × List ℕ). y.0) q in
              let z : ◌≡◌ {A = ℕ} 0 1 = cc in
              absurd (omega arith)
          go false q =
              let y : Ok n ≡ Ok (used + length bytes) = sym e ∙ ap (λ (y : Result ℕ no_room.TrailFull × List ℕ). y.0) q in
              let j : n ≡ used + length bytes = cc in
              rw (ap (λ (y : Result ℕ no_room.TrailFull × List ℕ). y.1) q, j)

-- ---- set a word

place_where : (q : Place) → place_of (where_of q) ≡ q
place_where (place.Main n) = refl
place_where (place.Port n) = refl

module _ (m : Machine) (main ports trail : List ℕ) (used : ℕ) (q : Place) (v : ℕ) where
  abbrev bs : Bench
  bs = bench m main ports trail used

  abbrev rec : List ℕ
  rec = record_for (set_word q v) bs.state

  module _ (a : Answer) (k : a ≡ first_refusals m.p (length main) (length ports) (length trail) used) (d : a ≡ Ok tt) where
    -- 5, then 6
    set_answer : answer (operate (set_word q v)) bs
        ≡ or_else (when (not (fitted (ram main ports) (where_of q))) Unfitted) (when (ltb (length trail - used) (length rec)) TrailFull)
    set_answer =
        first_then (operate (set_word q v)) m main ports trail used refl
        ∙ ap (λ (x : Answer). or_else x (later (operate (set_word q v)) bs)) (sym k ∙ d)
        ∙ ap (or_else (when (not (fitted (ram main ports) (where_of q))) Unfitted)) (alone (ltb (length trail - used) (length rec)) TrailFull)

    pub set_unfitted : (t : Bool) → t ≡ view_fitted (length main) (length ports) q 1 → t ≡ false → record { answered = Err Unfitted; bench = bs } ≡ outcome (set_word q v) bs
    set_unfitted t h f = refused (set_word q v) bs Unfitted (set_answer ∙ rw (sym (view_one main ports q) ∙ (sym h ∙ f)))

    module _ (t : Bool) (h : t ≡ view_fitted (length main) (length ports) q 1) (f : t ≡ true) where
      has : fitted (ram main ports) (where_of q) ≡ true
      has = sym (view_one main ports q) ∙ (sym h ∙ f)

      pub set_fitted : Fitted (ram main ports) (where_of q)
      set_fitted = record { has = has; low = low_of (where_of q) has }
        where
          l : Lawful m.p (length main) (length ports) (length trail) used
          l = passed m.p (length main) (length ports) (length trail) used a k d

          low_of : (w : Where) → fitted (ram main ports) w ≡ true → w.1 < 2 ^ 20
          low_of w e = fitted_low (ram main ports) w l.main_le l.ports_le e

      set_finished : finished kind.Set m (record { machine = m; written = write.Word q v }) (ram main ports) trail used
          ≡ cond (ltb (length trail - used) (length rec)) (left (Err trail_full) (ram main ports) trail)
          (left (Ok (used + length rec)) (with_word (ram main ports) (where_of q) v) (put trail used rec))
      set_finished =
          let w = where_of q in
          let b = ram main ports in
          let e : write.Word (place_of w) (word_at (with_word b w v) w) ≡ write.Word q v = rw (place_where q, word_back b w.0 w.1 v has) in
          rw (← e) (finished_between kind.Set bs.state (next (set_word q v) bs.state) (some w) trail used (put_again b w v has))

      module _ (x : Result ℕ no_room.TrailFull) (r : Mem) (t' : List ℕ) (e : left x r t' ≡ finished kind.Set m (record { machine = m; written = write.Word q v }) (ram main ports) trail used) where
        pub set_full : x ≡ Err trail_full → record { answered = Err TrailFull; bench = record { state = state m r; trail = t'; used = used } } ≡ outcome (set_word q v) bs
        set_full z = go (ltb (length trail - used) (length rec)) refl (e ∙ set_finished)
          where
            go : (f : Bool) → ltb (length trail - used) (length rec) ≡ f
                → left x r t' ≡ cond f (left (Err trail_full) (ram main ports) trail) (left (Ok (used + length rec)) (with_word (ram main ports) (where_of q) v) (put trail used rec))
                → record { answered = Err TrailFull; bench = record { state = state m r; trail = t'; used = used } } ≡ outcome (set_word q v) bs
            go true u p =
                rw (ap (λ (y : Finish). y.stores) p, ap (λ (y : Finish). y.trail) p) (refused (set_word q v) bs TrailFull (set_answer ∙ rw (has, u)))
            go false u p =
                let y : x ≡ Ok (used + length rec) = ap (λ (y : Finish). y.answered) p in
                let o : ◌≡◌ {A = ℕ} 0 1 = cc in
                absurd (omega arith)

        pub set_done : (n : ℕ) → x ≡ Ok n → record { answered = Ok tt; bench = record { state = state m r; trail = t'; used = n } } ≡ outcome (set_word q v) bs
        set_done n z = go (ltb (length trail - used) (length rec)) refl (e ∙ set_finished)
          where
            go : (f : Bool) → ltb (length trail - used) (length rec) ≡ f
                → left x r t' ≡ cond f (left (Err trail_full) (ram main ports) trail) (left (Ok (used + length rec)) (with_word (ram main ports) (where_of q) v) (put trail used rec))
                → record { answered = Ok tt; bench = record { state = state m r; trail = t'; used = n } } ≡ outcome (set_word q v) bs
            go true u p =
                let y : x ≡ Err trail_full = ap (λ (y : Finish). y.answered) p in
                let o : ◌≡◌ {A = ℕ} 0 1 = cc in
                absurd (omega arith)
            go false u p =
                let y : Ok n ≡ Ok (used + length rec) = sym z ∙ ap (λ (y : Finish). y.answered) p in
                let j : n ≡ used + length rec = cc in
                rw (ap (λ (y : Finish). y.stores) p, ap (λ (y : Finish). y.trail) p, j) (accepted (set_word q v) bs (set_answer ∙ rw (has, u)))

-- ---- take back

pub restored_parts : (o : OldValues) (m : Machine) (main ports : List ℕ) (m' : Machine) (r : Mem) → m' ≡ machine_of (restored o (state m (ram main ports))) → r ≡ stores_restored o (ram main ports)
    → state m' r ≡ restored o (state m (ram main ports))
unfolding restored
restored_parts o m main ports m' r e f = rw (e, f)

module _ (m : Machine) (main ports trail : List ℕ) (used : ℕ) (a : Answer) (k : a ≡ first_refusals m.p (length main) (length ports) (length trail) used) where
  abbrev bb : Bench
  bb = bench m main ports trail used

  back_refused : (r : Refusal) → answer back bb ≡ Err r → record { answered = Err r; bench = bb } ≡ back_outcome bb
  back_refused r h = rw h

  pub back_first : (r : Refusal) → a ≡ Err r → record { answered = Err r; bench = bb } ≡ back_outcome bb
  back_first r d = back_refused r (first_then back m main ports trail used refl ∙ ap (λ (x : Answer). or_else x (later back bb)) (sym k ∙ d))

  module _ (d : a ≡ Ok tt) where
    -- 7, then 8
    back_answer : answer back bb ≡ or_else (when (eqb used 0) NothingInUse) (when (broken (newest_of bb)) BrokenRecord)
    back_answer = first_then back m main ports trail used refl ∙ ap (λ (x : Answer). or_else x (later back bb)) (sym k ∙ d)

    pub back_nothing : used ≡ 0 → record { answered = Err NothingInUse; bench = bb } ≡ back_outcome bb
    back_nothing z = back_refused NothingInUse (back_answer ∙ ap (λ (t : Bool). or_else (when t NothingInUse) (when (broken (newest_of bb)) BrokenRecord)) (eq-eqb used 0 z))

    module _ (some_used : used ≡ 0 → ⊥) (x : Result Newest Broken) (h : x ≡ newest_of bb) where
      back_later : answer back bb ≡ when (broken x) BrokenRecord
      back_later =
          back_answer
          ∙ ap (λ (t : Bool). or_else (when t NothingInUse) (when (broken (newest_of bb)) BrokenRecord)) (ne_eqb used 0 some_used)
          ∙ ap (λ (y : Result Newest Broken). when (broken y) BrokenRecord) (sym h)

      pub back_broken : x ≡ broken_record → record { answered = Err BrokenRecord; bench = bb } ≡ back_outcome bb
      back_broken z = back_refused BrokenRecord (back_later ∙ ap (λ (y : Result Newest Broken). when (broken y) BrokenRecord) z)

      pub back_ready : (o : OldValues) (n : ℕ) → x ≡ read_back o n → record { answered = Ok tt; bench = put_back (read_back o n) bb } ≡ back_outcome bb
      back_ready o n z =
          let ok : answer back bb ≡ Ok tt = back_later ∙ ap (λ (y : Result Newest Broken). when (broken y) BrokenRecord) z in
          let nw : newest_of bb ≡ read_back o n = sym h ∙ z in
          rw (ok, nw)

    -- the word of a record that was read is fitted
    pub back_refits : (some_used : used ≡ 0 → ⊥) (x : Result Newest Broken) (o : OldValues) (n : ℕ) → x ≡ newest_of bb → x ≡ read_back o n → Refits (ram main ports) o
    back_refits some_used x o n h z mark =
        let l = passed m.p (length main) (length ports) (length trail) used a k d in
        let s = newest_fitted_stands (length main) (length ports) {trail = trail} {used = used} {o = o} {n = n} (omega arith) l.used_le (sym h ∙ z) in
        let f : fitted (ram main ports) (where_of_number o.place) ≡ true = sym (fits_fitted (ram main ports) (where_of_number o.place)) ∙ s.1 mark in
        record { has = f; low = fitted_low (ram main ports) (where_of_number o.place) l.main_le l.ports_le f }

pub none_restored : (r : Mem) (o : OldValues) → marked 8 o.marks ≡ false → r ≡ stores_restored o r
none_restored r o h = rw h
