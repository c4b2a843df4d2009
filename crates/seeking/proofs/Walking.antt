-- The walk by rules, and what the loop keeps.
-- Assumes nothing.
use Prim.Native.Nat.{ℕ, zero, suc, ◌+◌, ◌^◌, ◌<◌, ◌≤◌}
use mathlib.Core.Path.{◌≡◌, refl, ap, sym, ◌∙◌}
use mathlib.Core.Bool.{Bool, true, false, cond}
use mathlib.Core.List.{List}
use native.Mathlib.Omega.{arith}
use lib.ListN.{length}
use borrow.Author.Tests.{lt-ltb, le-ltb}
use Rattle.machine.specs.declared.Place.{Place}
use Rattle.trail.specs.declared.OldValues.{OldValues}
use Rattle.trail.specs.declared.Newest.{Newest}
use Rattle.std.specs.Prelude.{Result, Ok, Err}
use Rattle.trail.specs.declared.Broken.{Broken}
use Rattle.trail.specs.Records.{marked, where_of_number}
use Rattle.trail.specs.Newest.{fits, only_fitted, newest_fitted, broken_record, read_back}
use Rattle.trail.specs.Newest as trail_newest
use Rattle.trail.proofs.NewestReadsBack.{newest_found, Fits}
use Rattle.seeking.specs.declared.SeekRefusal.TheVariants as refusal
use Rattle.seeking.specs.Seeking.{found, never, holds, by_newest, among, from_end, sought}

-- ---- fewer bytes stand before a record

fitted_record : (main ports : ℕ) (r : Result Newest Broken) (o : OldValues) (n : ℕ) → only_fitted main ports r ≡ read_back o n → r ≡ read_back o n
fitted_record main ports (Err e) o n p = absurd (cc)
fitted_record main ports (Ok q) o n p = go (marked 8 q.values.marks) (fits main ports (where_of_number q.values.place)) p
  where
    go : (t u : Bool) → cond t (cond u (Ok q) broken_record) (Ok q) ≡ read_back o n → Ok q ≡ read_back o n
    go true true r = r
    go true false r = absurd (cc)
    go false u r = r

pub shorter : (main ports : ℕ) (trail : List ℕ) (used : ℕ) (o : OldValues) (n : ℕ) → 0 < used → newest_fitted main ports trail used ≡ read_back o n → n < used
unfolding newest_fitted
shorter main ports trail used o n h p =
    let e = fitted_record main ports (trail_newest.newest (2 ^ 21) trail used) o n p in
    omega (arith, (newest_found true (2 ^ 21) trail used o n e).left)

-- A record whose place is fitted is the newest.
pub fitted_newest : (main ports : ℕ) (trail : List ℕ) (used : ℕ) (o : OldValues) (n : ℕ) → Fits main ports o → trail_newest.newest (2 ^ 21) trail used ≡ read_back o n
    → newest_fitted main ports trail used ≡ read_back o n
unfolding newest_fitted
fitted_newest main ports trail used o n f p = ap (only_fitted main ports) p ∙ go (marked 8 o.marks) f
  where
    go : (t : Bool) → (t ≡ true → fits main ports (where_of_number o.place) ≡ true)
        → cond t (cond (fits main ports (where_of_number o.place)) (read_back o n) broken_record) (read_back o n) ≡ read_back o n
    go true e = rw (e refl)
    go false e = refl

-- ---- the rules of the walk

module _ (main ports : ℕ) (trail : List ℕ) (q : Place) where
  -- Once it is at least the count of bytes, it does not matter how many records there may be.
  enough : (k l back used : ℕ) → used ≤ k → used ≤ l → among k main ports trail q back used ≡ among l main ports trail q back used
  unfolding among
  enough zero zero back used h g = refl
  enough zero (suc l) back used h g = let e : used ≡ 0 = omega arith in rw e
  enough (suc k) zero back used h g = let e : used ≡ 0 = omega arith in rw e
  enough (suc k) (suc l) back used h g = go used h g (enough k l (back + 1))
    where
      go : (u : ℕ) → u ≤ suc k → u ≤ suc l → ((m : ℕ) → m ≤ k → m ≤ l → among k main ports trail q (back + 1) m ≡ among l main ports trail q (back + 1) m) → among (suc k) main ports trail q back u ≡ among (suc l) main ports trail q back u
      go zero h g ih = refl
      go (suc n) h g ih = at (newest_fitted main ports trail (suc n)) refl
        where
          at : (r : Result Newest Broken) → newest_fitted main ports trail (suc n) ≡ r → by_newest q back r (λ m. among k main ports trail q (back + 1) m) ≡ by_newest q back r (λ m. among l main ports trail q (back + 1) m)
          at (Err x) p = refl
          at (Ok r) p =
              let s = shorter main ports trail (suc n) r.values r.left (omega arith) p in
              ap (cond (holds q r.values) (found back r.values)) (ih r.left (omega arith) (omega arith))

  pub none_of : (back : ℕ) → from_end main ports trail q back 0 ≡ never
  unfolding from_end among
  none_of back = refl

  pub one_more : (back used : ℕ) → 0 < used → from_end main ports trail q back used ≡ by_newest q back (newest_fitted main ports trail used) (λ n. from_end main ports trail q (back + 1) n)
  unfolding from_end among
  one_more back zero h = absurd (omega arith)
  one_more back (suc n) h = at (newest_fitted main ports trail (suc n)) refl
    where
      at : (r : Result Newest Broken) → newest_fitted main ports trail (suc n) ≡ r → by_newest q back r (λ m. among n main ports trail q (back + 1) m) ≡ by_newest q back r (λ m. among m main ports trail q (back + 1) m)
      at (Err x) p = refl
      at (Ok r) p =
          let s = shorter main ports trail (suc n) r.values r.left (omega arith) p in
          ap (cond (holds q r.values) (found back r.values)) (enough n r.left (back + 1) r.left (omega arith) (omega arith))

  -- By the newest: it is broken, it holds the place, or it does not.
  pub broken_of : (back used : ℕ) → 0 < used → newest_fitted main ports trail used ≡ broken_record → from_end main ports trail q back used ≡ Err refusal.Broken
  broken_of back used h p = one_more back used h ∙ rw p

  pub here_of : (back used : ℕ) (o : OldValues) (n : ℕ) → 0 < used → newest_fitted main ports trail used ≡ read_back o n → holds q o ≡ true → from_end main ports trail q back used ≡ found back o
  here_of back used o n h p t = one_more back used h ∙ rw p (ap (λ (b : Bool). cond b (found back o) (from_end main ports trail q (back + 1) n)) t)

  pub older_of : (back used : ℕ) (o : OldValues) (n : ℕ) → 0 < used → newest_fitted main ports trail used ≡ read_back o n → holds q o ≡ false
      → from_end main ports trail q back used ≡ from_end main ports trail q (back + 1) n
  older_of back used o n h p t = one_more back used h ∙ rw p (ap (λ (b : Bool). cond b (found back o) (from_end main ports trail q (back + 1) n)) t)

-- ---- the loop

pub too_large : (main ports : ℕ) (trail : List ℕ) (used : ℕ) (q : Place) → length trail < used → sought main ports trail used q ≡ Err refusal.CountTooLarge
unfolding sought
too_large main ports trail used q h = rw (lt-ltb (length trail) used h)

-- `back` records do not hold the place, and those of the first `end` bytes are still to be asked.
pub record Seeking (main ports : ℕ) (trail : List ℕ) (used : ℕ) (q : Place) (end back : ℕ) : Type 0 where
  pub inside : used ≤ length trail
  pub few : back + end ≤ used
  pub whole : sought main ports trail used q ≡ from_end main ports trail q (back + 1) end

pub starts : (main ports : ℕ) (trail : List ℕ) (used : ℕ) (q : Place) → used ≤ length trail → Seeking main ports trail used q used 0
unfolding sought
starts main ports trail used q h = record { inside = h; few = omega arith; whole = rw (le-ltb (length trail) used h) }

module _ {main ports : ℕ} {trail : List ℕ} {used : ℕ} {q : Place} {end back : ℕ} (g : Seeking main ports trail used q end back) where
  pub ends : end ≤ 0 → never ≡ sought main ports trail used q
  ends h =
      let z : end ≡ 0 = omega arith in
      sym (g.whole ∙ ap (from_end main ports trail q (back + 1)) z ∙ none_of main ports trail q (back + 1))

  pub stops : 0 < end → {x : Broken} → Err x ≡ newest_fitted main ports trail end → sought main ports trail used q ≡ Err refusal.Broken
  stops h e = g.whole ∙ broken_of main ports trail q (back + 1) end h (sym e)

  module _ (h : 0 < end) {r : Newest} (e : Ok r ≡ newest_fitted main ports trail end) where
    pub finds : holds q r.values ≡ true → found (back + 1) r.values ≡ sought main ports trail used q
    finds y = sym (g.whole ∙ here_of main ports trail q (back + 1) end r.values r.left h (sym e) y)

    pub goes_down : r.left < end
    goes_down = shorter main ports trail end r.values r.left h (sym e)

    pub goes_on : holds q r.values ≡ false → Seeking main ports trail used q r.left (back + 1)
    goes_on y =
        let s = goes_down in
        record { inside = g.inside; few = omega (arith, g.few); whole = g.whole ∙ older_of main ports trail q (back + 1) end r.values r.left h (sym e) y }
