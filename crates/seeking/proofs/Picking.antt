-- What picking from the decoded records finds is the newest that holds the place, and its number; it finds none exactly if none holds it. So there is one answer.
-- Assumes nothing.
use Prim.Native.Nat.{ℕ, ◌+◌}
use mathlib.Core.Path.{◌≡◌, refl, ap, sym, ◌∙◌}
use mathlib.Core.Bool.{Bool, true, false, cond}
use mathlib.Core.List.{List, [], ◌∷◌, ◌++◌}
use native.Mathlib.Omega.{arith}
use lib.ListN.{length}
use Rattle.machine.specs.declared.Place.{Place}
use Rattle.trail.specs.declared.OldValues.{OldValues}
use Rattle.seeking.specs.declared.Hit.{Hit}
use Rattle.seeking.specs.Seeking.{found, never, holds, pick, NoneHolds, Picked}

-- One answer has one record.
one_hit : {n m : ℕ} {o e : OldValues} → found n o ≡ found m e → (n ≡ m) × (o ≡ e)
one_hit {n} {m} {o} {e} p =
    let h : ◌≡◌ {A = Hit} (record { back = n; values = o }) (record { back = m; values = e }) = cc in
    (ap (λ (x : Hit). x.back) h, ap (λ (x : Hit). x.values) h)

-- The same, where the first of the list is `back` operations back.
record From (q : Place) (back : ℕ) (os : List OldValues) (n : ℕ) (o : OldValues) : Type 0 where
  newer : List OldValues
  older : List OldValues
  whole : os ≡ newer ++ (o ∷ older)
  count : n ≡ length newer + back
  held : holds q o ≡ true
  not_newer : NoneHolds q newer

found_from : (q : Place) (back : ℕ) (os : List OldValues) (n : ℕ) (o : OldValues) → pick q back os ≡ found n o → From q back os n o
found_from q back [] n o p = let z : ◌≡◌ {A = ℕ} 0 1 = cc in absurd (omega arith)
found_from q back (e ∷ os) n o p = go (holds q e) refl p (found_from q (back + 1) os n o)
  where
    go : (t : Bool) → holds q e ≡ t → cond t (found back e) (pick q (back + 1) os) ≡ found n o → (pick q (back + 1) os ≡ found n o → From q (back + 1) os n o) → From q back (e ∷ os) n o
    go true h r ih =
        let s : e ≡ o = (one_hit r).1 in
        let m : back ≡ n = (one_hit r).0 in
        record { newer = []; older = os; whole = ap (λ (x : OldValues). x ∷ os) s; count = omega (arith, m); held = ap (holds q) (sym s) ∙ h; not_newer = tt }
    go false h r ih =
        let f = ih r in
        record {
          newer = e ∷ f.newer;
          older = f.older;
          whole = ap (λ (x : List OldValues). e ∷ x) f.whole;
          count = omega (arith, f.count);
          held = f.held;
          not_newer = (h, f.not_newer);
        }

picks : (q : Place) (back : ℕ) (newer : List OldValues) (o : OldValues) (older : List OldValues) → holds q o ≡ true → NoneHolds q newer → pick q back (newer ++ (o ∷ older)) ≡ found (length newer + back) o
picks q back [] o older h g =
    let m : back ≡ 0 + back = omega arith in
    ap (λ (t : Bool). cond t (found back o) (pick q (back + 1) older)) h ∙ ap (λ (k : ℕ). found k o) m
picks q back (e ∷ newer) o older h g =
    let m : length newer + (back + 1) ≡ length (e ∷ newer) + back = omega arith in
    ap (λ (t : Bool). cond t (found back e) (pick q (back + 1) (newer ++ (o ∷ older)))) g.0
    ∙ picks q (back + 1) newer o older h g.1
    ∙ ap (λ (k : ℕ). found k o) m

never_from : (q : Place) (back : ℕ) (os : List OldValues) → pick q back os ≡ never → NoneHolds q os
never_from q back [] p = tt
never_from q back (e ∷ os) p = go (holds q e) refl p (never_from q (back + 1) os)
  where
    go : (t : Bool) → holds q e ≡ t → cond t (found back e) (pick q (back + 1) os) ≡ never → (pick q (back + 1) os ≡ never → NoneHolds q os) → NoneHolds q (e ∷ os)
    go true h r ih = let z : ◌≡◌ {A = ℕ} 0 1 = cc in absurd (omega arith)
    go false h r ih = (h, ih r)

none_from : (q : Place) (back : ℕ) (os : List OldValues) → NoneHolds q os → pick q back os ≡ never
none_from q back [] g = refl
none_from q back (e ∷ os) g =
    ap (λ (t : Bool). cond t (found back e) (pick q (back + 1) os)) g.0 ∙ none_from q (back + 1) os g.1

-- ---- from 1

pub found_picked : (q : Place) (os : List OldValues) (n : ℕ) (o : OldValues) → pick q 1 os ≡ found n o → Picked q os n o
found_picked q os n o p =
    let f = found_from q 1 os n o p in
    record { newer = f.newer; older = f.older; whole = f.whole; count = f.count; held = f.held; not_newer = f.not_newer }

pub picked_found : (q : Place) (os : List OldValues) (n : ℕ) (o : OldValues) → Picked q os n o → pick q 1 os ≡ found n o
picked_found q os n o f =
    ap (pick q 1) f.whole ∙ picks q 1 f.newer o f.older f.held f.not_newer ∙ ap (λ (k : ℕ). found k o) (sym f.count)

pub never_none : (q : Place) (os : List OldValues) → pick q 1 os ≡ never → NoneHolds q os
never_none q os p = never_from q 1 os p

pub none_never : (q : Place) (os : List OldValues) → NoneHolds q os → pick q 1 os ≡ never
none_never q os g = none_from q 1 os g

-- There is one.
pub picked_once : (q : Place) (os : List OldValues) (n m : ℕ) (o e : OldValues) → Picked q os n o → Picked q os m e → (n ≡ m) × (o ≡ e)
picked_once q os n m o e f g =
    one_hit (sym (picked_found q os n o f) ∙ picked_found q os m e g)
