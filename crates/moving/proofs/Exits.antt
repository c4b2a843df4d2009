-- One law for each way out of a move, by what was counted and by the room that was found.
-- Assumes nothing.
use Prim.Native.Nat.{ℕ, ◌<◌, ◌≤◌}
use mathlib.Core.Path.{◌≡◌, refl, ap, sym, ◌∙◌}
use mathlib.Core.Bool.{Bool, true, false, not, cond}
use mathlib.Core.List.{List}
use native.Mathlib.Omega.{arith}
use lib.Dec.{ltb}
use lib.ListN.{length}
use borrow.Author.Tests.{ltb-true, ltb-false, lt-ltb}
use Rattle.std.specs.Prelude.{Ok, Err}
use Rattle.trail.specs.declared.Broken.{Broken}
use Rattle.moving.specs.declared.MoveRefusal.{MoveRefusal}
use Rattle.moving.specs.declared.MoveRefusal.TheVariants as refusal
use Rattle.moving.specs.Rows.{row, records}
use Rattle.moving.specs.Moving.{Moved, count_of, room_of, moved_length, move, Moves}
use Rattle.moving.proofs.Division.{moved_lengths}
use Rattle.moving.proofs.Counting.{records_few, counted, uncounted}

-- What was found of the room.
is_short : (out n : ℕ) (e : MoveRefusal) → room_of out n ≡ Err e → (e ≡ refusal.Short) × (out < n)
is_short out n e p = go (ltb out n) refl p
  where
    go : (t : Bool) → ltb out n ≡ t → ◌≡◌ {A = Moved} (cond t (Err refusal.Short) (Ok n)) (Err e) → (e ≡ refusal.Short) × (out < n)
    go true f q = (cc, ltb-true out n f)
    go false f q = absurd (cc)

is_room : (out n m : ℕ) → room_of out n ≡ Ok m → (m ≡ n) × (n ≤ out)
is_room out n m p = go (ltb out n) refl p
  where
    go : (t : Bool) → ltb out n ≡ t → ◌≡◌ {A = Moved} (cond t (Err refusal.Short) (Ok n)) (Ok m) → (m ≡ n) × (n ≤ out)
    go true e q = absurd (cc)
    go false e q = (cc, ltb-false out n e)

module _ (new : Bool) (s out : List ℕ) where
  pub broken : {e : Broken} → Err e ≡ count_of (records (not new) s) → move new s out ≡ (Err refusal.Broken, out)
  unfolding move
  broken {e} p = rw (uncounted (records (not new) s) e (sym p))

  module _ {n : ℕ} (p : Ok n ≡ count_of (records (not new) s)) where
    pub few : n ≤ length s
    few = counted (records (not new) s) n (sym p) (n ≤ length s) (λ es e l. omega (arith, l, records_few (not new) s es e))

    pub short : {e : MoveRefusal} → Err e ≡ room_of (length out) (moved_length new (length s) n) → move new s out ≡ (Err e, out)
    unfolding move
    short {e} f =
        counted (records (not new) s) n (sym p) (move new s out ≡ (Err e, out)) (λ es w l.
        let h = is_short (length out) (moved_length new (length s) n) e (sym f) in
        let m : length (row new es) ≡ moved_length new (length s) n = moved_lengths new s es w ∙ ap (moved_length new (length s)) (sym l) in
        rw (w, lt-ltb (length out) (length (row new es)) (omega (arith, h, m)), h.0))

    pub moves : {total : ℕ} → Ok total ≡ room_of (length out) (moved_length new (length s) n) → Moves new s total (length out)
    moves {total} f =
        counted (records (not new) s) n (sym p) (Moves new s total (length out)) (λ es w l.
        let h = is_room (length out) (moved_length new (length s) n) total (sym f) in
        let m : length (row new es) ≡ moved_length new (length s) n = moved_lengths new s es w ∙ ap (moved_length new (length s)) (sym l) in
        record { entries = es; whole = w; count = h.0 ∙ sym m; room = omega (arith, h) })
