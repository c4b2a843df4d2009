-- THE FIRST DEMAND: a call answers the lowest refusal number that applies, none exactly if it is accepted, and a refused call leaves the whole bench as it was.
-- It holds since the table is gone through in the order of the numbers, and no two refusals have the same number.
-- (That every call takes any input and ends is the checker's: no public call has a `requires`.)
-- Assumes nothing.
use mathlib.Core.Path.{◌≡◌, refl, sym, ap, ◌∙◌, subst}
use mathlib.Core.Bool.{Bool, true, false, cond, ◌&&◌, ◌||◌, false≢true}
use mathlib.Core.Logic.{◌↔◌}
use mathlib.Core.List.{List, []}
use Prim.{tt}
use Prim.Native.Nat.{ℕ, suc, ◌+◌, ◌^◌, ◌<◌, ◌≤◌}
use native.Mathlib.Omega.{arith}
use lib.Dec.{eqb, ltb}
use lib.ListN.{length, take, drop, length-take, length-drop}
use borrow.Author.Tests.{leb-true, lt-leb, le-ltb}
use Rattle.std.specs.Prelude.{Result, Ok, Err}
use Rattle.report.proofs.Bits.{by_le}
use Rattle.machine.specs.declared.Place.{Place}
use Rattle.machine.specs.declared.Place.TheVariants.{Main, Port}
use Rattle.viper.specs.declared.Refusal.{Refusal}
use Rattle.viper.specs.declared.Refusal.TheVariants.{PTooLarge, StoreTooLong, CountTooLarge, Stopped, Unfitted, TrailFull, NothingInUse, BrokenRecord}
use Rattle.viper.specs.declared.After.{After}
use Rattle.viper.specs.declared.Ran.{Ran}
use Rattle.viper.specs.Refusals.{Answer, number, when, or_else, lowest}
use Rattle.viper.specs.Operations.{Bench, Operation, Call, operate, run, back, lends_stores, applies, answer, Outcome, outcome}
use Rattle.viper.specs.Runs.{RunOutcome, run_by, run_outcome}
use Rattle.viper.specs.TakingBack.{back_outcome}
use Rattle.step.specs.Lawful.{Lawful}
use Rattle.viper.specs.Views.{stretch, stretch_fitted, viewed, view_fitted}
use Rattle.demands.specs.Histories.{accepted_or_refused, answered, called, told_from, run_told_from}

-- ---- the numbers

-- Each number is 1 to 8,
pub one_to_eight : (r : Refusal) → (1 ≤ number r) × (number r ≤ 8)
one_to_eight PTooLarge = (omega arith, omega arith)
one_to_eight StoreTooLong = (omega arith, omega arith)
one_to_eight CountTooLarge = (omega arith, omega arith)
one_to_eight Stopped = (omega arith, omega arith)
one_to_eight Unfitted = (omega arith, omega arith)
one_to_eight TrailFull = (omega arith, omega arith)
one_to_eight NothingInUse = (omega arith, omega arith)
one_to_eight BrokenRecord = (omega arith, omega arith)

numbered : ℕ → Refusal
numbered n =
    cond (eqb n 1) PTooLarge
    (cond (eqb n 2) StoreTooLong
    (cond (eqb n 3) CountTooLarge
    (cond (eqb n 4) Stopped
    (cond (eqb n 5) Unfitted
    (cond (eqb n 6) TrailFull
    (cond (eqb n 7) NothingInUse BrokenRecord))))))

numbered_back : (r : Refusal) → numbered (number r) ≡ r
unfolding numbered
numbered_back PTooLarge = refl
numbered_back StoreTooLong = refl
numbered_back CountTooLarge = refl
numbered_back Stopped = refl
numbered_back Unfitted = refl
numbered_back TrailFull = refl
numbered_back NothingInUse = refl
numbered_back BrokenRecord = refl

-- and no two refusals have the same.
pub distinct : (q r : Refusal) → number q ≡ number r → q ≡ r
distinct q r e = sym (numbered_back q) ∙ ap numbered e ∙ numbered_back r

-- ---- the lowest of eight tests

-- no refusal of a number below n applies
abbrev Clear : (Refusal → Bool) → ℕ → Type 0
Clear f n = (q : Refusal) → number q < n → f q ≡ false

abbrev Right : (Refusal → Bool) → Answer → Type 0
Right f (Ok u) = (r : Refusal) → f r ≡ false
Right f (Err r) = (f r ≡ true) × Clear f (number r)

clear_next : (f : Refusal → Bool) (r : Refusal) → Clear f (number r) → f r ≡ false → Clear f (suc (number r))
clear_next f r c e q h = by_le (number r) (number q) (λ k. ap f (distinct q r (omega arith)) ∙ e) (λ k. c q k)

tested : (f : Refusal → Bool) (r : Refusal) (rest : Answer) → Clear f (number r) → (Clear f (suc (number r)) → Right f rest) → Right f (or_else (when (f r) r) rest)
tested f r rest c then = go (f r) refl
  where
    go : (t : Bool) → f r ≡ t → Right f (or_else (when t r) rest)
    go true e = (e, c)
    go false e = then (clear_next f r c e)

last_tested : (f : Refusal → Bool) (r : Refusal) → 8 ≤ number r → Clear f (number r) → Right f (when (f r) r)
last_tested f r l c = go (f r) refl
  where
    go : (t : Bool) → f r ≡ t → Right f (when t r)
    go true e = (e, c)
    go false e = λ q. clear_next f r c e q (omega (arith, one_to_eight q))

right : (f : Refusal → Bool) → Right f (lowest f)
right f =
    tested f PTooLarge _ (λ q h. absurd (omega (arith, one_to_eight q))) (λ c.
    tested f StoreTooLong _ c (λ c.
    tested f CountTooLarge _ c (λ c.
    tested f Stopped _ c (λ c.
    tested f Unfitted _ c (λ c.
    tested f TrailFull _ c (λ c.
    tested f NothingInUse _ c (λ c.
    last_tested f BrokenRecord (omega arith) c)))))))

refused_is : (f : Refusal → Bool) (a : Answer) (r : Refusal) → Right f a → f r ≡ true → Clear f (number r) → a ≡ Err r
refused_is f (Ok u) r k h c = cc (k r)
refused_is f (Err q) r k h c =
    by_le (number r) (number q)
    (λ l. by_le (number q) (number r) (λ g. ap (λ (x : Refusal). Err x) (distinct q r (omega arith))) (λ g. cc (k.1 r g)))
    (λ l. cc (c q l))

done_is : (f : Refusal → Bool) (a : Answer) → Right f a → ((r : Refusal) → f r ≡ false) → a ≡ Ok tt
done_is f (Ok u) k h = refl
done_is f (Err q) k h = cc (h q)

-- ---- per call

-- r applies to the call, and no refusal of a lower number does.
pub record Lowest (c : Call) (b : Bench) (r : Refusal) : Type 0 where
  pub itself : applies c b r ≡ true
  pub no_lower : (q : Refusal) → number q < number r → applies c b q ≡ false

-- What the first demand asks of a call c that was given the bench b, answered a and left the bench b'.
pub record Judged (c : Call) (b : Bench) (a : Answer) (b' : Bench) : Type 0 where
  pub refused : (r : Refusal) → (a ≡ Err r) ↔ Lowest c b r
  pub accepted : (a ≡ Ok tt) ↔ ((r : Refusal) → applies c b r ≡ false)
  pub unchanged : (r : Refusal) → a ≡ Err r → b' ≡ b

answered_is : (c : Call) (b : Bench) → answered c b ≡ answer c b
answered_is (operate e) b = refl
answered_is (run n) b = go (answer (run n) b)
  where
    go : (a : Answer) → accepted_or_refused (run_by a n b).answered ≡ a
    go (Ok u) = refl
    go (Err r) = refl
answered_is back b = refl

-- Nothing of the bench is touched where a refusal is answered.
refused_leaves : (c : Call) (b : Bench) (r : Refusal) → answer c b ≡ Err r → called c b ≡ b
refused_leaves (operate e) b r h = rw h
refused_leaves (run n) b r h = ap (λ (a : Answer). (run_by a n b).bench) h
refused_leaves back b r h = rw h

-- A call answers r exactly if r applies and no refusal of a lower number does,
pub refused_lowest : (c : Call) (b : Bench) (r : Refusal) → (answered c b ≡ Err r) ↔ Lowest c b r
unfolding answer
refused_lowest c b r =
    let k = right (applies c b) in (
      λ h. let g = subst (Right (applies c b)) (sym (answered_is c b) ∙ h) k in record { itself = g.0; no_lower = g.1 },
      λ l. answered_is c b ∙ refused_is (applies c b) (lowest (applies c b)) r k l.itself l.no_lower,
    )

-- and is accepted exactly if none applies.
pub accepted_none : (c : Call) (b : Bench) → (answered c b ≡ Ok tt) ↔ ((r : Refusal) → applies c b r ≡ false)
unfolding answer
accepted_none c b =
    let k = right (applies c b) in (
      λ h. subst (Right (applies c b)) (sym (answered_is c b) ∙ h) k,
      λ n. answered_is c b ∙ done_is (applies c b) (lowest (applies c b)) k n,
    )

-- P, both stores and the count in use are lawful:
abbrev pub LawfulBench : Bench → Type 0
LawfulBench b = Lawful b.state.1 (length b.state.0.main) (length b.state.0.ports) (length b.trail) b.used

no_store : (t : Bool) (main ports : ℕ) → main ≤ 2 ^ 20 → ports ≤ 2 ^ 20 → (t && (ltb (2 ^ 20) main || ltb (2 ^ 20) ports)) ≡ false
no_store true main ports h k = rw (le-ltb (2 ^ 20) main h, le-ltb (2 ^ 20) ports k)
no_store false main ports h k = refl

-- then 1, 2 and 3 do not apply.
pub lawful_passes : (c : Call) (b : Bench) → LawfulBench b → (r : Refusal) → number r ≤ 3 → applies c b r ≡ false
lawful_passes c b l PTooLarge h = lt-leb (2 ^ 20) b.state.1 l.p_lt
lawful_passes c b l StoreTooLong h = no_store (lends_stores c) (length b.state.0.main) (length b.state.0.ports) l.main_le l.ports_le
lawful_passes c b l CountTooLarge h = le-ltb (length b.trail) b.used l.used_le
lawful_passes c b l Stopped h = absurd (omega arith)
lawful_passes c b l Unfitted h = absurd (omega arith)
lawful_passes c b l TrailFull h = absurd (omega arith)
lawful_passes c b l NothingInUse h = absurd (omega arith)
lawful_passes c b l BrokenRecord h = absurd (omega arith)

-- A run is refused only by 1, 2 and 3.
pub run_refused_by : (n : ℕ) (b : Bench) (r : Refusal) → answered (run n) b ≡ Err r → number r ≤ 3
run_refused_by n b r h = go r ((refused_lowest (run n) b r).0 h).itself
  where
    go : (q : Refusal) → applies (run n) b q ≡ true → number q ≤ 3
    go PTooLarge k = omega arith
    go StoreTooLong k = omega arith
    go CountTooLarge k = omega arith
    go Stopped k = absurd (false≢true k)
    go Unfitted k = absurd (false≢true k)
    go TrailFull k = absurd (false≢true k)
    go NothingInUse k = absurd (false≢true k)
    go BrokenRecord k = absurd (false≢true k)

-- ---- a view

-- A view whose stretch is not wholly fitted answers the empty stretch,
pub view_unfitted : (main ports : List ℕ) (q : Place) (n : ℕ) → view_fitted (length main) (length ports) q n ≡ false → viewed main ports q n ≡ []
view_unfitted main ports (Main a) n h = rw h
view_unfitted main ports (Port a) n h = rw h

no_words : (store : List ℕ) (a : ℕ) → stretch store a 0 ≡ []
no_words store a = go (stretch_fitted (length store) a 0)
  where
    go : (t : Bool) → cond t (take 0 (drop a store)) [] ≡ []
    go true = refl
    go false = refl

-- and so does a view of no words;
pub view_of_none : (main ports : List ℕ) (q : Place) → viewed main ports q 0 ≡ []
view_of_none main ports (Main a) = no_words main a.0
view_of_none main ports (Port a) = no_words ports a.0

whole : (store : List ℕ) (a n : ℕ) → stretch_fitted (length store) a n ≡ true → length (stretch store a n) ≡ n
whole store a n h = rw h (simp (length-take, length-drop) (omega (arith, leb-true (a + n) (length store) h)))

-- any other answers as many words as were asked for.
pub view_whole : (main ports : List ℕ) (q : Place) (n : ℕ) → view_fitted (length main) (length ports) q n ≡ true → length (viewed main ports q n) ≡ n
view_whole main ports (Main a) n h = whole main a.0 n h
view_whole main ports (Port a) n h = whole ports a.0 n h

-- ---- THE FIRST DEMAND

-- Of every call and every bench, by the definitions;
pub first_demand : (c : Call) (b : Bench) → Judged c b (answered c b) (called c b)
first_demand c b =
    record {
      refused = refused_lowest c b;
      accepted = accepted_none c b;
      unchanged = λ r h. refused_leaves c b r (sym (answered_is c b) ∙ h);
    }

-- and of the calls themselves, by their contracts: step, reset, force and set,
pub operation_judged : (e : Operation) (b : Bench) (r : Result After Refusal) (main ports trail : List ℕ) → told_from b r main ports trail ≡ outcome e b
    → Judged (operate e) b (told_from b r main ports trail).answered (told_from b r main ports trail).bench
operation_judged e b r main ports trail h = subst (λ (o : Outcome). Judged (operate e) b o.answered o.bench) (sym h) (first_demand (operate e) b)

-- run,
pub run_judged : (n : ℕ) (b : Bench) (r : Result Ran Refusal) (main ports trail : List ℕ) → run_told_from b r main ports trail ≡ run_outcome n b
    → Judged (run n) b (accepted_or_refused (run_told_from b r main ports trail).answered) (run_told_from b r main ports trail).bench
run_judged n b r main ports trail h = subst (λ (o : RunOutcome). Judged (run n) b (accepted_or_refused o.answered) o.bench) (sym h) (first_demand (run n) b)

-- and take back.
pub back_judged : (b : Bench) (r : Result After Refusal) (main ports trail : List ℕ) → told_from b r main ports trail ≡ back_outcome b
    → Judged back b (told_from b r main ports trail).answered (told_from b r main ports trail).bench
back_judged b r main ports trail h = subst (λ (o : Outcome). Judged back b o.answered o.bench) (sym h) (first_demand back b)
