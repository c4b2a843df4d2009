-- Document 02, W12: the records on the trail are those of the operations still listed, each with its operation's kind, oldest first.
-- Assumes nothing.
use Prim.Native.Nat.{ℕ}
use mathlib.Core.Path.{◌≡◌, refl, ap, sym, ◌∙◌, subst}
use mathlib.Core.Bool.{true}
use mathlib.Core.Option.{some}
use mathlib.Core.List.{List, [], ◌∷◌, map}
use lib.ListN.{length}
use Rattle.report.specs.Section3.{State}
use Rattle.trail.specs.declared.Kind.{Kind}
use Rattle.trail.specs.declared.OldValues.{OldValues}
use Rattle.trail.specs.Records.{old_values, old_values_of}
use Rattle.trail.proofs.NewestReadsBack.{Fits}
use Rattle.viper.specs.Operations.{Bench, Operation, next, kind_of, writes_at}
use Rattle.moving.specs.Rows.{row, GoodRow, records_of}
use Rattle.moving.proofs.Division.{row_reads}
use Rattle.demands.specs.Histories.{Valid, Session, through, trace}
use Rattle.demands.specs.Hits.{made_by}
use Rattle.demands.proofs.Undoing.{touched, touched_sizes, undoes}
use Rattle.demands.proofs.ThirdDemand.{Fair, through_valid, kept_session}

-- What the records of the listed operations hold, the newest first.
abbrev pub made : List Operation → State → List OldValues
made [] s = []
made (e ∷ l) s = old_values_of (kind_of e) (through l s) (next e (through l s)) (writes_at e (through l s)) ∷ made l s

-- Their bytes are those of these records in a row,
pub trace_row : (l : List Operation) (s : State) → trace l s ≡ row true (made l s)
trace_row [] s = refl
trace_row (e ∷ l) s = rw (trace_row l s)

-- and their kinds those of the operations.
abbrev pub kind_in : OldValues → Kind
kind_in o = o.kind

pub trace_kinds : (l : List Operation) (s : State) → map kind_in (made l s) ≡ map kind_of l
unfolding old_values
trace_kinds [] s = refl
trace_kinds (e ∷ l) s = ap (λ (r : List Kind). kind_of e ∷ r) (trace_kinds l s)

-- ---- they are good records, and the places of all of them are fitted

pub made_good : (l : List Operation) (s : State) → Valid s → Fair l s → GoodRow true (made l s)
made_good [] s ok f = tt
made_good (e ∷ l) s ok f = ((undoes e (through l s) (through_valid l s ok f.2) f.0).good, made_good l s ok f.2)

through_sizes : (l : List Operation) (s : State) → Valid s → Fair l s → (length (through l s).0.main ≡ length s.0.main) × (length (through l s).0.ports ≡ length s.0.ports)
through_sizes [] s ok f = (refl, refl)
through_sizes (e ∷ l) s ok f =
    let z = touched_sizes (touched e (through l s) (through_valid l s ok f.2) f.0) in
    let r = through_sizes l s ok f.2 in
    (z.0 ∙ r.0, z.1 ∙ r.1)

abbrev pub FitRow : ℕ → ℕ → List OldValues → Type 0
FitRow main ports [] = Unit {0}
FitRow main ports (e ∷ es) = Fits main ports e × FitRow main ports es

pub made_fit : (l : List Operation) (s : State) → Valid s → Fair l s → FitRow (length s.0.main) (length s.0.ports) (made l s)
made_fit [] s ok f = tt
made_fit (e ∷ l) s ok f =
    let u = (undoes e (through l s) (through_valid l s ok f.2) f.0).fitting in
    let z = through_sizes (e ∷ l) s ok f in
    let o = made_by e l s in
    (subst (λ (n : ℕ). Fits (length s.0.main) n o) z.1 (subst (λ (n : ℕ). Fits n (length (through (e ∷ l) s).0.ports) o) z.0 u), made_fit l s ok f.2)

-- ---- in any session

module _ (b₀ : Bench) (ok : Valid b₀.state) (z : b₀.used ≡ 0) {b : Bench} {l : List Operation} (s : Session b₀ b l) where
  -- The trail in use reads as the records of the operations still listed, and as nothing else,
  pub session_records : records_of true b.trail b.used ≡ some (made l b₀.state)
  session_records =
      let k = kept_session b₀ ok z s in
      let h = k.history in
      row_reads true b.trail (made l b₀.state) b.used h.within (h.in_use ∙ trace_row l b₀.state) (made_good l b₀.state ok k.fair)

  -- so the kinds on the trail are the kinds of those operations, in their order.
  pub session_kinds : (os : List OldValues) → records_of true b.trail b.used ≡ some os → map kind_in os ≡ map kind_of l
  session_kinds os p =
      let same : some os ≡ some (made l b₀.state) = sym p ∙ session_records in
      let e : os ≡ made l b₀.state = cc in
      ap (map kind_in) e ∙ trace_kinds l b₀.state
