-- Each public call's contract determines all that it answers and leaves: two outcomes that both meet it are equal.
-- It holds since every contract is an equation with a definition, from which the outcome can be read off again.
-- Assumes nothing.
use mathlib.Core.Path.{◌≡◌, refl, sym, ap, ◌∙◌}
use mathlib.Core.Bool.{Bool}
use mathlib.Core.List.{List, []}
use Prim.Native.Nat.{ℕ}
use lib.ListN.{length}
use Rattle.std.specs.Prelude.{Result, Ok, Err}
use Rattle.machine.specs.Held.{machine_of}
use Rattle.machine.specs.declared.Machine.{Machine}
use Rattle.machine.specs.declared.Place.{Place}
use Rattle.viper.specs.Refusals.{Answer}
use Rattle.viper.specs.Operations.{Bench, Operation, step, reset, force, set_word, Outcome, outcome}
use Rattle.viper.specs.Runs.{RunAnswer, RunOutcome, run_outcome}
use Rattle.viper.specs.TakingBack.{back_outcome}
use Rattle.viper.specs.Views.{viewed, view_fitted}
use Rattle.viper.specs.Told.{bench, told, run_told}
use Rattle.viper.specs.declared.Refusal.{Refusal}
use Rattle.viper.specs.declared.After.{After}
use Rattle.viper.specs.declared.Ran.{Ran}
use Rattle.listing.specs.Listing.{Lists}
use Rattle.listing.specs.declared.store.ListRefusal.{ListRefusal}
use Rattle.intel_hex.specs.Exported.{Exports}
use Rattle.intel_hex.specs.declared.exporting.ExportRefusal.{ExportRefusal}
use Rattle.intel_hex.specs.Imported.{Imports}
use Rattle.intel_hex.specs.declared.importing.ImportRefusal.{ImportRefusal}
use Rattle.intel_hex.proofs.Theorems as hex
use Rattle.moving.specs.Moving.{Moved, move}
use Rattle.seeking.specs.Seeking.{Sought, sought}

-- What a call hands back, with what both stores and the trail hold at the end.
pub record Left : Type 0 where
  pub handed : Result After Refusal
  pub main : List ℕ
  pub ports : List ℕ
  pub trail : List ℕ

pub record RunLeft : Type 0 where
  pub handed : Result Ran Refusal
  pub main : List ℕ
  pub ports : List ℕ
  pub trail : List ℕ

-- Of any machine, stores, trail and count in use.
module _ (m : Machine) (main ports trail : List ℕ) (used : ℕ) where
  abbrev given : Bench
  given = bench m main ports trail used

  -- What a contract says of it.
  abbrev pub told_of : Left → Outcome
  told_of o = told o.handed m used o.main o.ports o.trail

  abbrev pub run_told_of : RunLeft → RunOutcome
  run_told_of o = run_told o.handed m used o.main o.ports o.trail

  left_by : Outcome → Left
  left_by o = record { handed = by o.answered; main = o.bench.state.0.main; ports = o.bench.state.0.ports; trail = o.bench.trail }
    where
      by : Answer → Result After Refusal
      by (Ok u) = Ok (record { machine = machine_of o.bench.state; used = o.bench.used })
      by (Err r) = Err r

  left_again : (o : Left) → left_by (told_of o) ≡ o
  unfolding left_by
  left_again o = go o.handed
    where
      go : (r : Result After Refusal) → left_by (told r m used o.main o.ports o.trail) ≡ record { handed = r; main = o.main; ports = o.ports; trail = o.trail }
      go (Ok a) = refl
      go (Err r) = refl

  run_left_by : RunOutcome → RunLeft
  run_left_by o = record { handed = by o.answered; main = o.bench.state.0.main; ports = o.bench.state.0.ports; trail = o.bench.trail }
    where
      by : RunAnswer → Result Ran Refusal
      by (Ok n) = Ok (record { machine = machine_of o.bench.state; used = o.bench.used; steps = n.0; ending = n.1 })
      by (Err r) = Err r

  run_left_again : (o : RunLeft) → run_left_by (run_told_of o) ≡ o
  unfolding run_left_by
  run_left_again o = go o.handed
    where
      go : (r : Result Ran Refusal) → run_left_by (run_told r m used o.main o.ports o.trail) ≡ record { handed = r; main = o.main; ports = o.ports; trail = o.trail }
      go (Ok a) = refl
      go (Err r) = refl

  same_left : (o q : Left) (d : Outcome) → told_of o ≡ d → told_of q ≡ d → o ≡ q
  same_left o q d h k = sym (left_again o) ∙ ap left_by (h ∙ sym k) ∙ left_again q

  same_run_left : (o q : RunLeft) (d : RunOutcome) → run_told_of o ≡ d → run_told_of q ≡ d → o ≡ q
  same_run_left o q d h k = sym (run_left_again o) ∙ ap run_left_by (h ∙ sym k) ∙ run_left_again q

  -- A step.
  pub step_unique : (o q : Left) → told_of o ≡ outcome step given → told_of q ≡ outcome step given → o ≡ q
  step_unique o q h k = same_left o q (outcome step given) h k

  -- A run, of any budget.
  pub run_unique : (budget : ℕ) (o q : RunLeft) → run_told_of o ≡ run_outcome budget given → run_told_of q ≡ run_outcome budget given → o ≡ q
  run_unique budget o q h k = same_run_left o q (run_outcome budget given) h k

  -- A set, of any place and value.
  pub set_unique : (place : Place) (value : ℕ) (o q : Left) → told_of o ≡ outcome (set_word place value) given → told_of q ≡ outcome (set_word place value) given → o ≡ q
  set_unique place value o q h k = same_left o q (outcome (set_word place value) given) h k

  -- A take-back.
  pub take_back_unique : (o q : Left) → told_of o ≡ back_outcome given → told_of q ≡ back_outcome given → o ≡ q
  take_back_unique o q h k = same_left o q (back_outcome given) h k

-- Reset and force are lent no store: their contracts hold of whatever the stores hold.
module _ (m : Machine) (trail : List ℕ) (used : ℕ) where
  abbrev Alone : Operation → Result After Refusal → List ℕ → Type 0
  Alone e r t = (main ports : List ℕ) → told r m used main ports t ≡ outcome e (bench m main ports trail used)

  alone_unique : (e : Operation) (r r' : Result After Refusal) (t t' : List ℕ) → Alone e r t → Alone e r' t' → (r ≡ r') × (t ≡ t')
  alone_unique e r r' t t' h k =
      let q = same_left m [] [] trail used (record { handed = r; main = []; ports = []; trail = t }) (record { handed = r'; main = []; ports = []; trail = t' }) (outcome e (bench m [] [] trail used)) (h [] []) (k [] []) in
      (ap (λ (o : Left). o.handed) q, ap (λ (o : Left). o.trail) q)

  -- A reset.
  pub reset_unique : (r r' : Result After Refusal) (t t' : List ℕ)
      → ((main ports : List ℕ) → told r m used main ports t ≡ outcome reset (bench m main ports trail used))
      → ((main ports : List ℕ) → told r' m used main ports t' ≡ outcome reset (bench m main ports trail used))
      → (r ≡ r') × (t ≡ t')
  reset_unique r r' t t' h k = alone_unique reset r r' t t' h k

  -- A force.
  pub force_unique : (r r' : Result After Refusal) (t t' : List ℕ)
      → ((main ports : List ℕ) → told r m used main ports t ≡ outcome force (bench m main ports trail used))
      → ((main ports : List ℕ) → told r' m used main ports t' ≡ outcome force (bench m main ports trail used))
      → (r ≡ r') × (t ≡ t')
  force_unique r r' t t' h k = alone_unique force r r' t t' h k

-- View and its yes or no are lent both stores and change nothing.
module _ (main ports : List ℕ) (place : Place) (n : ℕ) where
  -- The stretch that a view answers.
  pub view_unique : (s t : List ℕ) → s ≡ viewed main ports place n → t ≡ viewed main ports place n → s ≡ t
  view_unique s t h k = h ∙ sym k

  -- Whether a stretch is fitted.
  pub fitted_unique : (s t : Bool) → s ≡ view_fitted (length main) (length ports) place n → t ≡ view_fitted (length main) (length ports) place n → s ≡ t
  fitted_unique s t h k = h ∙ sym k

-- A listing, of any main and output (document 02, W1): the answer and every byte of the output.
module _ (main out : List ℕ) where
  pub list_unique : (r r' : Result ℕ ListRefusal) (t t' : List ℕ) → Lists main out r t → Lists main out r' t' → (r ≡ r') × (t ≡ t')
  list_unique r r' t t' h k = (h.answer_is ∙ sym k.answer_is, h.output_is ∙ sym k.output_is)

  -- An export (W4): the same.
  pub export_unique : (r r' : Result ℕ ExportRefusal) (t t' : List ℕ) → Exports main out r t → Exports main out r' t' → (r ≡ r') × (t ≡ t')
  export_unique r r' t t' h k = hex.export_unique h k

-- An import, of any main and text: the answer and every word of main. The count in use follows: an accepted import answers the one to write there, and
-- of a refused one it stays as it was.
module _ (main text : List ℕ) where
  pub import_unique : (r r' : Result ℕ ImportRefusal) (m m' : List ℕ) → Imports main text r m → Imports main text r' m' → (r ≡ r') × (m ≡ m')
  import_unique r r' m m' h k = hex.import_unique h k

-- A trail moved (W12), in either direction, to any output: the answer and every byte of the output.
module _ (new : Bool) (trail out : List ℕ) where
  pub move_unique : (r r' : Moved) (t t' : List ℕ) → (r, t) ≡ move new trail out → (r', t') ≡ move new trail out → (r ≡ r') × (t ≡ t')
  move_unique r r' t t' h k =
      let q = h ∙ sym k in
      (ap (λ (x : Moved × List ℕ). x.0) q, ap (λ (x : Moved × List ℕ). x.1) q)

-- A word sought (W7): the answer. Nothing is written.
module _ (main ports : ℕ) (trail : List ℕ) (used : ℕ) (place : Place) where
  pub find_unique : (r r' : Sought) → r ≡ sought main ports trail used place → r' ≡ sought main ports trail used place → r ≡ r'
  find_unique r r' h k = h ∙ sym k
