-- The record of an operation holds a place exactly if the operation changed the word that stands there; and the value that it holds is what stood there.
-- Assumes nothing.
use Prim.Native.Nat.{ℕ, ◌^◌, ◌<◌}
use mathlib.Core.Path.{◌≡◌, refl, ap, sym, ◌∙◌, subst}
use mathlib.Core.Bool.{Bool, true, false, not, cond}
use mathlib.Core.Option.{Option, none, some}
use native.Mathlib.Omega.{arith}
use lib.Dec.{eqb}
use lib.Seq.{get_or-set_other}
use borrow.Author.Tests.{eqb-true, eq-eqb}
use Rattle.report.specs.AnnexA.{Mem}
use Rattle.report.specs.Section3.{State}
use Rattle.report.specs.Parts.{Where, word_at, with_word}
use Rattle.machine.specs.Held.{machine_of, where_of, place_of}
use Rattle.machine.specs.declared.Place.{Place}
use Rattle.trail.specs.declared.Kind.{Kind}
use Rattle.std.specs.Prelude.{Some, None}
use Rattle.trail.specs.Records.{Word, differs, place_number, word_changed, word_place, word_value, changed_word, old_values, old_values_of}
use Rattle.trail.proofs.Marks.{marks}
use Rattle.trail.proofs.RecordRestores.{Touched, kept, put, with_own_word, word_put, place_back}
use Rattle.seeking.specs.Seeking.{names, holds}
use Rattle.seeking.proofs.Naming.{names_where, where_names}

-- ---- a word put at one place is not seen at another

word_other : (ram : Mem) (p w : Where) (v : ℕ) → (p ≡ w → ⊥) → word_at (with_word ram p v) w ≡ word_at ram w
unfolding word_at with_word
word_other ram (true, a) (true, b) v h = get_or-set_other ram.ports a b v 0 (λ e. h (ap (λ (k : ℕ). (true, k)) (sym e)))
word_other ram (true, a) (false, b) v h = refl
word_other ram (false, a) (true, b) v h = refl
word_other ram (false, a) (false, b) v h = get_or-set_other ram.main a b v 0 (λ e. h (ap (λ (k : ℕ). (false, k)) (sym e)))

same : (n m : ℕ) → m ≡ n → false ≡ differs n m
same n m e = ap not (sym (eq-eqb n m (sym e)))

-- ---- what the record says of the word

abbrev held : Place → Word → Bool
held q w = cond (word_changed w) (names q (word_place w)) false

held_kept : (q : Place) (old new : Mem) → new ≡ old → held q None ≡ differs (word_at old (where_of q)) (word_at new (where_of q))
held_kept q old new e = same (word_at old (where_of q)) (word_at new (where_of q)) (ap (λ (m : Mem). word_at m (where_of q)) e)

held_put : (q : Place) (old : Mem) (p : Where) (v : ℕ) → p.1 < 2 ^ 20 → eqb (word_at old p) (word_at (with_word old p v) p) ≡ false
    → held q (Some (record { place = place_of p; value = word_at old p })) ≡ differs (word_at old (where_of q)) (word_at (with_word old p v) (where_of q))
held_put q old p v h k = go (names q (place_number (place_of p))) refl
  where
    go : (t : Bool) → names q (place_number (place_of p)) ≡ t → t ≡ differs (word_at old (where_of q)) (word_at (with_word old p v) (where_of q))
    go true e =
        let w : p ≡ where_of q = sym (place_back p h) ∙ names_where q (place_number (place_of p)) e in
        subst (λ (x : Where). true ≡ differs (word_at old x) (word_at (with_word old p v) x)) w (ap not (sym k))
    go false e =
        same (word_at old (where_of q)) (word_at (with_word old p v) (where_of q))
        (word_other old p (where_of q) v (λ w.
        let y : ◌≡◌ {A = Bool} false true = sym e ∙ where_names q (place_number (place_of p)) (place_back p h ∙ w) in
        let z : ◌≡◌ {A = ℕ} 0 1 = cc in
        absurd (omega arith)))

held_is : (q : Place) {old new : Mem} {p : Option Where} → Touched old new p → held q (changed_word old new p) ≡ differs (word_at old (where_of q)) (word_at new (where_of q))
held_is q {old} {new} (kept none e) = held_kept q old new e
held_is q {old} {new} (kept (some p) e) =
    let k : word_at old p ≡ word_at new p = cc in
    rw (eq-eqb (word_at old p) (word_at new p) k) (held_kept q old new e)
held_is q {old} {new} (put p v f h e) = rw e (go (eqb (word_at old p) (word_at (with_word old p v) p)) refl)
  where
    go : (t : Bool) → eqb (word_at old p) (word_at (with_word old p v) p) ≡ t
        → held q (cond t None (Some (record { place = place_of p; value = word_at old p }))) ≡ differs (word_at old (where_of q)) (word_at (with_word old p v) (where_of q))
    go true k =
        let d : v ≡ word_at old p = sym (eqb-true (word_at old p) (word_at (with_word old p v) p) k ∙ word_put old p v f) in
        held_kept q old (with_word old p v) (rw d (with_own_word old p))
    go false k = held_put q old p v h k

-- The record holds the place exactly if the word there is not what it was.
pub holds_changed : (q : Place) (k : Kind) (old new : State) (p : Option Where) → Touched old.0 new.0 p
    → holds q (old_values_of k old new p) ≡ differs (word_at old.0 (where_of q)) (word_at new.0 (where_of q))
unfolding old_values
holds_changed q k old new p t =
    let m = marks (machine_of old) (machine_of new) (changed_word old.0 new.0 p) in
    ap (λ (b : Bool). cond b (names q (word_place (changed_word old.0 new.0 p))) false) m.word ∙ held_is q t

-- ---- and its value is what stood there

value_kept : (q : Place) (G : Type 0) → held q None ≡ true → G
value_kept q G h = let z : ◌≡◌ {A = ℕ} 0 1 = cc in absurd (omega arith)

value_is : (q : Place) {old new : Mem} {p : Option Where} → Touched old new p → held q (changed_word old new p) ≡ true → word_value (changed_word old new p) ≡ word_at old (where_of q)
value_is q {old} {new} (kept none e) h = value_kept q _ h
value_is q {old} {new} (kept (some p) e) h = go (eqb (word_at old p) (word_at new p)) (eq-eqb (word_at old p) (word_at new p) (cc)) h
  where
    go : (t : Bool) → t ≡ true → held q (cond t None (Some (record { place = place_of p; value = word_at old p }))) ≡ true → word_value (cond t None (Some (record { place = place_of p; value = word_at old p }))) ≡ word_at old (where_of q)
    go true k g = value_kept q _ g
    go false k g = let z : ◌≡◌ {A = ℕ} 0 1 = cc in absurd (omega arith)
value_is q {old} {new} (put p v f l e) h = go (eqb (word_at old p) (word_at new p)) h
  where
    go : (t : Bool) → held q (cond t None (Some (record { place = place_of p; value = word_at old p }))) ≡ true → word_value (cond t None (Some (record { place = place_of p; value = word_at old p }))) ≡ word_at old (where_of q)
    go true g = value_kept q _ g
    go false g = ap (word_at old) (sym (place_back p l) ∙ names_where q (place_number (place_of p)) g)

pub value_before : (q : Place) (k : Kind) (old new : State) (p : Option Where) → Touched old.0 new.0 p → holds q (old_values_of k old new p) ≡ true
    → (old_values_of k old new p).value ≡ word_at old.0 (where_of q)
unfolding old_values
value_before q k old new p t h =
    let m = marks (machine_of old) (machine_of new) (changed_word old.0 new.0 p) in
    value_is q t (ap (λ (b : Bool). cond b (names q (word_place (changed_word old.0 new.0 p))) false) (sym m.word) ∙ h)
