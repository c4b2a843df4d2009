-- THE RECORD LAW: the old values of an operation, put back into the state after it, give the state before it.
-- What is not marked has not changed, and of the stores at most the word at the operation's place has, which is marked unless it holds what it held.
-- Assumes nothing.
use Prim.Native.Nat.{ℕ, ◌+◌, ◌-◌, ◌*◌, ◌^◌, ◌<◌, ◌≤◌}
use mathlib.Core.Path.{◌≡◌, refl, sym, ◌∙◌}
use mathlib.Core.Bool.{Bool, true, false, not, cond}
use mathlib.Core.Option.{Option, none, some}
use native.Mathlib.Omega.{arith}
use lib.Dec.{eqb}
use lib.ListN.{length, length-set}
use lib.Seq.{set-set, set-get_or, get_or-set_same}
use borrow.Author.Tests.{eqb-true, eq-eqb, ltb-true, lt-ltb, le-ltb}
use Rattle.std.specs.Prelude.{Some, None}
use Rattle.report.specs.AnnexA.{Mem, BV}
use Rattle.report.specs.Section3.{State}
use Rattle.report.specs.Parts.{Where, word_at, with_word, fitted, InRange}
use Rattle.machine.specs.Held.{machine_of, place_of}
use Rattle.trail.specs.declared.Kind.{Kind}
use Rattle.trail.specs.Records.{Word, differs, place_number, where_of_number, word_changed, word_place, word_value, Addressed, changed_word, old_if_changed, old_values, old_values_of, record_of, restored, Good}
use Rattle.trail.specs.Newest.{fits}
use Rattle.trail.proofs.Lengths.{registers_changed, old_values_length}
use Rattle.trail.proofs.Marks.{marks, Sound, old_values_good}
use Rattle.trail.proofs.NewestReadsBack.{fits_fitted, Fits}

-- ---- the stores, with one word changed

pub with_own_word : (ram : Mem) (q : Where) → with_word ram q (word_at ram q) ≡ ram
unfolding with_word word_at
with_own_word ram (true, a) = rw set-get_or
with_own_word ram (false, a) = rw set-get_or

pub with_word_back : (ram : Mem) (q : Where) (v : ℕ) → with_word (with_word ram q v) q (word_at ram q) ≡ ram
unfolding with_word word_at
with_word_back ram (true, a) v = rw (set-set, set-get_or)
with_word_back ram (false, a) v = rw (set-set, set-get_or)

pub word_put : (ram : Mem) (q : Where) (v : ℕ) → fitted ram q ≡ true → word_at (with_word ram q v) q ≡ v
unfolding with_word word_at fitted
word_put ram (true, a) v h = get_or-set_same ram.ports a v 0 (ltb-true a (length ram.ports) h)
word_put ram (false, a) v h = get_or-set_same ram.main a v 0 (ltb-true a (length ram.main) h)

-- No store becomes longer or shorter.
pub main_kept : (ram : Mem) (q : Where) (v : ℕ) → length (with_word ram q v).main ≡ length ram.main
unfolding with_word
main_kept ram (true, a) v = refl
main_kept ram (false, a) v = length-set ram.main a v

pub ports_kept : (ram : Mem) (q : Where) (v : ℕ) → length (with_word ram q v).ports ≡ length ram.ports
unfolding with_word
ports_kept ram (true, a) v = length-set ram.ports a v
ports_kept ram (false, a) v = refl

-- ---- the number of a place

pub place_back : (q : Where) → q.1 < 2 ^ 20 → where_of_number (place_number (place_of q)) ≡ q
place_back (true, a) h =
    let e : a + 2 ^ 20 - 2 ^ 20 ≡ a = omega arith in
    rw (le-ltb (a + 2 ^ 20) (2 ^ 20) (omega arith), e)
place_back (false, a) h = rw (lt-ltb a (2 ^ 20) h)

-- ---- what an operation does to the stores

-- It keeps them, or it puts a value at a fitted place.
pub data Touched (old new : Mem) : Option Where → Type 0 where
  kept : (q : Option Where) → new ≡ old → Touched old new q
  put : (q : Where) (v : ℕ) → fitted old q ≡ true → q.1 < 2 ^ 20 → new ≡ with_word old q v → Touched old new (some q)

-- What the record says of the word.
record Told (old new : Mem) (w : Word) : Type 0 where
  back : cond (word_changed w) (with_word new (where_of_number (word_place w)) (word_value w)) new ≡ old
  address : Addressed w
  value : (n : ℕ) → ((q : Where) → word_at old q < n) → 0 < n → word_value w < n
  fitting : word_changed w ≡ true → fits (length new.main) (length new.ports) (where_of_number (word_place w)) ≡ true

told_kept : (old new : Mem) → new ≡ old → Told old new None
told_kept old new e = record { back = e; address = tt; value = λ n h z. z; fitting = λ h. let z : ◌≡◌ {A = ℕ} 0 1 = cc in absurd (omega arith) }

addressed : (q : Where) (v : ℕ) → q.1 < 2 ^ 20 → Addressed (Some (record { place = place_of q; value = v }))
addressed (true, a) v h = h
addressed (false, a) v h = h

told_put : (old : Mem) (q : Where) (v : ℕ) → fitted old q ≡ true → q.1 < 2 ^ 20 → Told old (with_word old q v) (Some (record { place = place_of q; value = word_at old q }))
told_put old q v f h =
    record {
      back = rw (place_back q h) (with_word_back old q v);
      address = addressed q (word_at old q) h;
      value = λ n g z. g q;
      fitting = λ _. rw (place_back q h, main_kept old q v, ports_kept old q v) (fits_fitted old q ∙ f);
    }

told : {old new : Mem} {q : Option Where} → Touched old new q → Told old new (changed_word old new q)
told {old} {new} (kept none e) = told_kept old new e
told {old} {new} (kept (some q) e) =
    let k : word_at old q ≡ word_at new q = cc in
    rw (eq-eqb (word_at old q) (word_at new q) k) (told_kept old new e)
told {old} {new} (put q v f h e) = rw e (go (eqb (word_at old q) (word_at (with_word old q v) q)) refl)
  where
    go : (t : Bool) → eqb (word_at old q) (word_at (with_word old q v) q) ≡ t → Told old (with_word old q v) (cond t None (Some (record { place = place_of q; value = word_at old q })))
    go true k =
        let d : v ≡ word_at old q = sym (eqb-true (word_at old q) (word_at (with_word old q v) q) k ∙ word_put old q v f) in
        told_kept old (with_word old q v) (rw d (with_own_word old q))
    go false k = told_put old q v f h

-- ---- the record law

register_back : (old new : ℕ) → cond (differs old new) (old_if_changed old new) new ≡ old
register_back old new = go (eqb old new) refl
  where
    go : (t : Bool) → eqb old new ≡ t → cond (not t) (cond (not t) old 0) new ≡ old
    go true e = sym (eqb-true old new e)
    go false e = refl

in_range : {s : State} → InRange s → (q : Where) → word_at s.0 q < 2 ^ 32
unfolding word_at
in_range h (true, a) = h.ports_lt a
in_range h (false, a) = h.main_lt a

pub record Restores (k : Kind) (old new : State) (q : Option Where) : Type 0 where
  pub good : Good (2 ^ 21) (old_values_of k old new q)
  pub fitting : Fits (length new.0.main) (length new.0.ports) (old_values_of k old new q)
  pub back : restored (old_values_of k old new q) new ≡ old
  pub short : length (record_of k old new q) ≤ 6 + 5 * registers_changed (machine_of old) (machine_of new) + 8 * BV (word_changed (changed_word old.0 new.0 q))

sound : (old new : State) {q : Option Where} → InRange old → Touched old.0 new.0 q → Sound (machine_of old) (changed_word old.0 new.0 q)
sound old new {q} r t =
    record {
      p = r.p_lt;
      a = r.a_lt;
      x = r.x_lt;
      y = r.y_lt;
      address = (told t).address;
      value = (told t).value (2 ^ 32) (in_range r) (omega arith);
    }

pub record_restores : (k : Kind) (old new : State) (q : Option Where) → InRange old → Touched old.0 new.0 q → Restores k old new q
unfolding old_values restored
record_restores k old new q r t =
    let m = marks (machine_of old) (machine_of new) (changed_word old.0 new.0 q) in
    let d = told t in
    record {
      good = old_values_good k (machine_of new) (sound old new r t);
      fitting = λ h. d.fitting (sym m.word ∙ h);
      back =
          rw (m.word, m.a, m.x, m.y, m.b, m.stop, d.back, register_back old.2 new.2, register_back old.3 new.3, register_back old.4 new.4);
      short = old_values_length k (machine_of new) (sound old new r t);
    }
