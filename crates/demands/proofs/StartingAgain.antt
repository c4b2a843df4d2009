-- The third demand where the history starts again (document 02, W4): it holds from the newest start on, since what starts it again leaves a valid
-- machine, stores of the same sizes and an empty trail.
-- Assumes nothing.
use Prim.Native.Nat.{ℕ, ◌^◌, ◌≤◌}
use mathlib.Core.Path.{◌≡◌, refl, sym, subst}
use mathlib.Core.List.{List}
use Rattle.intel_hex.proofs.Words.{imported_in_range, imported_length}
use Rattle.intel_hex.proofs.Theorems.{accepted_starts_again}
use Rattle.viper.specs.Operations.{Bench, Operation}
use Rattle.demands.specs.Histories.{Valid, Sizes, History, Session, StartsAgain, imports, Begins, opened, again}
use Rattle.demands.proofs.ThirdDemand.{valid_now, kept_session, session_history}

-- What starts it again keeps the bench valid and its sizes, and leaves no byte of the trail in use.
again_valid : {b next : Bench} → Valid b.state → StartsAgain b next → Valid next.state
again_valid {b} ok (imports text main used h) =
    record {
      range =
          record {
            p_lt = ok.range.p_lt;
            a_lt = ok.range.a_lt;
            x_lt = ok.range.x_lt;
            y_lt = ok.range.y_lt;
            main_lt = imported_in_range h ok.range.main_lt;
            ports_lt = ok.range.ports_lt;
          };
      main_le = subst (λ (n : ℕ). n ≤ 2 ^ 20) (sym (imported_length h)) ok.main_le;
      ports_le = ok.ports_le;
    }

again_empty : {b next : Bench} → StartsAgain b next → next.used ≡ 0
again_empty (imports text main used h) = accepted_starts_again h

pub again_sizes : {b next : Bench} → StartsAgain b next → Sizes b next
again_sizes (imports text main used h) = record { main = imported_length h; ports = refl; trail = refl }

module _ (b₀ : Bench) (ok : Valid b₀.state) (z : b₀.used ≡ 0) where
  -- Every history begins as document 01 asks: with a valid machine, stores of lawful size and an empty trail.
  pub begins_lawful : {start : Bench} → Begins b₀ start → Valid start.state × (start.used ≡ 0)
  begins_lawful opened = (ok, z)
  begins_lawful (again {start = start} {b = b} {l = l} begun session renewed) =
      let s = begins_lawful begun in
      (again_valid (valid_now start s.0 b l (kept_session start s.0 s.1 session)) renewed, again_empty renewed)

  -- From the newest start on, the machine and both stores are what the operations still listed give, and the trail in use is their records.
  pub history_again : {start b : Bench} {l : List Operation} → Begins b₀ start → Session start b l → History start b l
  history_again {start} begun session = let s = begins_lawful begun in session_history start s.0 s.1 session
