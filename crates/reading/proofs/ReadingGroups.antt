-- A number read group by group from the low end: the whole is the groups read so far, under what the later groups give, at every turn.
-- Assumes nothing.
use Prim.Native.Nat.{ℕ, zero, suc, ◌+◌, ◌*◌, ◌-◌, ◌<◌, ◌≤◌}
use mathlib.Core.Path.{◌≡◌, refl, ap, sym, ◌∙◌}
use mathlib.Core.Bool.{Bool, true, false, cond}
use mathlib.Core.List.{List, [], ◌∷◌}
use native.Mathlib.Omega.{arith}
use native.Mathlib.Nat.{mul-add, mul_assoc, mul-suc, mul-le-mul_left}
use native.Mathlib.Numerals.{add-one}
use lib.Dec.{ltb, eqb}
use lib.ListN.{length, get_or}
use lib.Seq.{slice, slice-cons, length-slice}
use borrow.Author.Tests.{ltb-true, ltb-false, lt-ltb, le-ltb, eq-eqb, ne_eqb}
use Rattle.trail.specs.Numbers.{Read, got, broken, over, read_in, below, read_below}
use Rattle.reading.specs.Finding.{number_of, read_broken, read_up_to}
use Rattle.trail.proofs.NumbersReadBack.{cap, cap_low}

-- ---- one turn of read-in

pub no_bytes : (s : List ℕ) → length s ≡ 0 → s ≡ []
no_bytes [] h = refl
no_bytes (b ∷ s) h = absurd (omega arith)

read_none : (k : ℕ) → read_in k [] ≡ broken
read_none zero = refl
read_none (suc k) = refl

pub read_one : (k b : ℕ) (rest : List ℕ) → b < 128 → read_in k (b ∷ rest) ≡ got b rest
read_one zero b rest h = rw (lt-ltb b 128 h)
read_one (suc k) b rest h = rw (lt-ltb b 128 h)

pub read_over : (k b : ℕ) (rest : List ℕ) → 128 ≤ b → b < 256 → (k ≡ 0 → ⊥) → read_in k (b ∷ rest) ≡ over (b - 128) (read_in (k - 1) rest)
read_over zero b rest h l z = absurd (z refl)
read_over (suc k) b rest h l z = let e : suc k - 1 ≡ k = omega arith in rw (le-ltb b 128 h, lt-ltb b 256 l, e)

-- The place after what is left over.
pub place_left : (s : List ℕ) (next end : ℕ) → next ≤ end → end ≤ length s → end - length (slice next end s) ≡ next
place_left s next end h l = omega (arith, length-slice next end s l)

-- ---- the groups read so far, over those to come

-- low, and scale times what the later groups give; if they give 0, that is a group too many.
abbrev scaled : ℕ → ℕ → Read → Read
scaled scale low broken = broken
scaled scale low (got high rest) = cond (eqb high 0) broken (got (low + scale * high) rest)

scaled_first : (first : ℕ) (r : Read) → over first r ≡ scaled 128 first r
scaled_first first broken = refl
scaled_first first (got high rest) = refl

scaled_over : (scale low b : ℕ) (r : Read) → scaled scale low (over b r) ≡ scaled (scale * 128) (low + scale * b) r
scaled_over scale low b broken = refl
scaled_over scale low b (got zero rest) = refl
scaled_over scale low b (got (suc m) rest) =
    rw (ne_eqb (suc m) 0 (omega arith), ne_eqb (b + 128 * suc m) 0 (omega arith))
    (ap (λ (n : ℕ). got n rest) (omega (arith, mul-add scale b (128 * suc m), mul_assoc scale 128 (suc m))))

-- A later group brings the number to the scale at least.
scaled_large : (bound scale low : ℕ) (r : Read) → bound ≤ scale → below bound (scaled scale low r) ≡ broken
scaled_large bound scale low broken h = refl
scaled_large bound scale low (got zero rest) h = refl
scaled_large bound scale low (got (suc m) rest) h =
    rw (ne_eqb (suc m) 0 (omega arith), le-ltb (low + scale * suc m) bound (omega (arith, mul-suc scale m)))

pub over_large : (bound low : ℕ) (r : Read) → bound ≤ 128 → below bound (over low r) ≡ broken
over_large bound low r h = rw (scaled_first low r) (scaled_large bound 128 low r h)

-- A last group at a place before the end.
read_last : (s : List ℕ) (end : ℕ) → end ≤ length s → (k next : ℕ) → next < end → get_or s next 0 < 128 → read_in k (slice next end s) ≡ got (get_or s next 0) (slice (next + 1) end s)
read_last s end fits k next h l =
    rw (slice-cons next end s 0 h fits, read_one k (get_or s next 0) (slice (suc next) end s) l, add-one)

-- A last group of 0, or a number that is not below the bound.
last_broken : (end bound low n : ℕ) (rest : List ℕ) → (0 < n → bound ≤ low + 128 * n) → read_broken ≡ number_of end (below bound (over low (got n rest)))
last_broken end bound low zero rest q = refl
last_broken end bound low (suc n) rest q = rw (ne_eqb (suc n) 0 (omega arith), le-ltb (low + 128 * suc n) bound (q (omega arith)))

-- ---- the first groups

module _ (s : List ℕ) (at end bound : ℕ) (fits : end ≤ length s) where
  pub more_groups : at < end → 128 ≤ get_or s at 0 → get_or s at 0 < 256
      → number_of end (below bound (over (get_or s at 0 - 128) (read_in 3 (slice (at + 1) end s)))) ≡ number_of end (read_below bound (slice at end s))
  more_groups h l b = rw (slice-cons at end s 0 h fits, le-ltb (get_or s at 0) 128 l, lt-ltb (get_or s at 0) 256 b, add-one)

  pub two_groups : at + 1 < end → 128 ≤ get_or s at 0 → get_or s at 0 < 256 → 0 < get_or s (at + 1) 0 → get_or s (at + 1) 0 < 128 → get_or s at 0 - 128 + 128 * get_or s (at + 1) 0 < bound
      → read_up_to (get_or s at 0 - 128 + 128 * get_or s (at + 1) 0) (at + 2) ≡ number_of end (read_below bound (slice at end s))
  two_groups h l b z c q =
      let m = get_or s at 0 - 128 in
      let n = get_or s (at + 1) 0 in
      let r = slice (at + 1 + 1) end s in
      let place : end - length r ≡ at + 2 = place_left s (at + 1 + 1) end (omega arith) fits ∙ omega arith in
      let two : number_of end (below bound (over m (got n r))) ≡ read_up_to (m + 128 * n) (at + 2) = rw (ne_eqb n 0 (omega arith), lt-ltb (m + 128 * n) bound q, place) in
      sym two
      ∙ ap (λ (x : Read). number_of end (below bound (over m x))) (sym (read_last s end fits 3 (at + 1) h c))
      ∙ more_groups (omega arith) l b

  -- The second group is the last, and it is 0 or the number is not below the bound.
  pub two_broken : at + 1 < end → 128 ≤ get_or s at 0 → get_or s at 0 < 256 → get_or s (at + 1) 0 < 128
      → (0 < get_or s (at + 1) 0 → bound ≤ get_or s at 0 - 128 + 128 * get_or s (at + 1) 0)
      → read_broken ≡ number_of end (read_below bound (slice at end s))
  two_broken h l b c q =
      let m = get_or s at 0 - 128 in
      last_broken end bound m (get_or s (at + 1) 0) (slice (at + 1 + 1) end s) q
      ∙ ap (λ (x : Read). number_of end (below bound (over m x))) (sym (read_last s end fits 3 (at + 1) h c))
      ∙ more_groups (omega arith) l b

  pub three_groups : at + 2 < end → 128 ≤ get_or s at 0 → get_or s at 0 < 256 → 128 ≤ get_or s (at + 1) 0 → get_or s (at + 1) 0 < 256 → 0 < get_or s (at + 2) 0 → get_or s (at + 2) 0 < 128
      → get_or s at 0 - 128 + 128 * (get_or s (at + 1) 0 - 128) + 16384 * get_or s (at + 2) 0 < bound
      → read_up_to (get_or s at 0 - 128 + 128 * (get_or s (at + 1) 0 - 128) + 16384 * get_or s (at + 2) 0) (at + 3) ≡ number_of end (read_below bound (slice at end s))
  three_groups h l b l₂ b₂ z c q =
      let m = get_or s at 0 - 128 in
      let n = get_or s (at + 1) 0 - 128 in
      let o = get_or s (at + 2) 0 in
      let r = slice (at + 2 + 1) end s in
      let place : end - length r ≡ at + 3 = place_left s (at + 2 + 1) end (omega arith) fits ∙ omega arith in
      let value : m + 128 * (n + 128 * o) ≡ m + 128 * n + 16384 * o = omega arith in
      let next : suc (at + 1) ≡ at + 2 = omega arith in
      let bytes : slice (at + 1) end s ≡ get_or s (at + 1) 0 ∷ slice (at + 2) end s = rw (slice-cons (at + 1) end s 0 (omega arith) fits, next) in
      let later : read_in 3 (slice (at + 1) end s) ≡ over n (got o r) =
      ap (read_in 3) bytes
      ∙ read_over 3 (get_or s (at + 1) 0) (slice (at + 2) end s) l₂ b₂ (omega arith)
      ∙ ap (over n) (read_last s end fits 2 (at + 2) h c)
      in
      let three : number_of end (below bound (over m (over n (got o r)))) ≡ read_up_to (m + 128 * n + 16384 * o) (at + 3) =
      rw (ne_eqb o 0 (omega arith), ne_eqb (n + 128 * o) 0 (omega arith), value, lt-ltb (m + 128 * n + 16384 * o) bound q, place)
      in
      sym three ∙ ap (λ (x : Read). number_of end (below bound (over m x))) (sym later) ∙ more_groups (omega arith) l b

-- ---- a sixth group makes no difference to a number below 2^35

below_over : (c low : ℕ) (r : Read) → low < 128 → below (128 * c) (over low r) ≡ over low (below c r)
below_over c low broken h = refl
below_over c low (got zero rest) h = go (ltb 0 c)
  where
    go : (t : Bool) → broken ≡ over low (cond t (got 0 rest) broken)
    go true = refl
    go false = refl
below_over c low (got (suc m) rest) h = go (ltb (suc m) c) refl
  where
    go : (t : Bool) → ltb (suc m) c ≡ t → below (128 * c) (over low (got (suc m) rest)) ≡ over low (below c (got (suc m) rest))
    go true e = rw (e, ne_eqb (suc m) 0 (omega arith), lt-ltb (low + 128 * suc m) (128 * c) (omega (arith, ltb-true (suc m) c e)))
    go false e = rw (e, ne_eqb (suc m) 0 (omega arith), le-ltb (low + 128 * suc m) (128 * c) (omega (arith, ltb-false (suc m) c e)))

below_twice : (b c : ℕ) (r : Read) → b ≤ c → below b (below c r) ≡ below b r
below_twice b c broken h = refl
below_twice b c (got n rest) h = go (ltb n c) refl
  where
    go : (t : Bool) → ltb n c ≡ t → below b (below c (got n rest)) ≡ below b (got n rest)
    go true e = rw e
    go false e = rw (e, le-ltb n b (omega (arith, ltb-false n c e)))

-- One group more may be allowed: what it brings is not below the cap.
group_more : (k : ℕ) (s : List ℕ) → below (cap k) (read_in (suc k) s) ≡ read_in k s
group_more zero [] = refl
group_more zero (b ∷ s) = go (ltb b 128) (ltb b 256) refl
  where
    go : (t u : Bool) → ltb b 128 ≡ t → below 128 (cond t (got b s) (cond u (over (b - 128) (read_in 0 s)) broken)) ≡ cond t (got b s) broken
    go true u e = rw e
    go false true e = rw (scaled_first (b - 128) (read_in 0 s)) (scaled_large 128 128 (b - 128) (read_in 0 s) (omega arith))
    go false false e = refl
group_more (suc k) [] = refl
group_more (suc k) (b ∷ s) = go (ltb b 128) (ltb b 256) refl refl (group_more k s)
  where
    go : (t u : Bool) → ltb b 128 ≡ t → ltb b 256 ≡ u → below (cap k) (read_in (suc k) s) ≡ read_in k s
        → below (128 * cap k) (cond t (got b s) (cond u (over (b - 128) (read_in (suc k) s)) broken)) ≡ cond t (got b s) (cond u (over (b - 128) (read_in k s)) broken)
    go true u e f ih = rw (lt-ltb b (128 * cap k) (omega (arith, ltb-true b 128 e, cap_low k)))
    go false true e f ih = rw (← ih) (below_over (cap k) (b - 128) (read_in (suc k) s) (omega (arith, ltb-true b 256 f)))
    go false false e f ih = refl

sixth : (bound first : ℕ) (s : List ℕ) → first < 128 → bound ≤ cap 4 → below bound (over first (read_in 3 s)) ≡ below bound (over first (read_in 4 s))
sixth bound first s h l =
    let e : over first (read_in 3 s) ≡ below (cap 4) (over first (read_in 4 s)) = rw (← group_more 3 s) (sym (below_over (cap 3) first (read_in 4 s) h)) in
    rw e (below_twice bound (cap 4) (over first (read_in 4 s)) l)

-- ---- the loop

cap_less : (k : ℕ) → (k ≡ 0 → ⊥) → 128 * cap (k - 1) ≡ cap k
cap_less zero z = absurd (z refl)
cap_less (suc k) z = let e : suc k - 1 ≡ k = omega arith in ap (λ (j : ℕ). 128 * cap j) e

not_last : (scale k : ℕ) → scale * cap k ≡ cap 5 → scale < cap 4 → k ≡ 0 → ⊥
not_last scale zero c h e = omega (arith, c, h)
not_last scale (suc k) c h e = omega (arith, e)

-- Of the number at `at`, whose first group is already read, the groups before `next` come to `low`, and k + 1 more may come: a sixth in all, if the bound allows it.
pub record Reading (s : List ℕ) (at end first next low scale : ℕ) : Type 0 where
  pub k : ℕ
  pub whole : over first (read_in 4 (slice at end s)) ≡ scaled scale low (read_in k (slice next end s))
  pub caps : scale * cap k ≡ cap 5
  pub small : low < scale
  pub group : first < 128
  pub fits : end ≤ length s

pub starts : (s : List ℕ) (at end first : ℕ) → end ≤ length s → first < 128 → Reading s at end first at first 128
starts s at end first l h =
    record { k = 4; whole = scaled_first first (read_in 4 (slice at end s)); caps = refl; small = h; group = h; fits = l }

module _ {s : List ℕ} {at end first next low scale : ℕ} (g : Reading s at end first next low scale) where
  -- One group more stays below 2^42.
  pub room : (b : ℕ) → b < 128 → (low + scale * b < scale * 128) × (scale * 128 ≤ cap 5)
  room b l = (
    omega (arith, mul-suc scale b, mul-le-mul_left scale l, g.small),
    omega (arith, mul-le-mul_left scale (cap_low g.k), g.caps),
  )

  -- The groups before `next` are read.
  so_far : (bound : ℕ) → bound ≤ cap 4 → below bound (over first (read_in 3 (slice at end s))) ≡ below bound (scaled scale low (read_in g.k (slice next end s)))
  so_far bound q = sixth bound first (slice at end s) g.group q ∙ ap (below bound) g.whole

  last : (bound : ℕ) → bound ≤ cap 4 → next < end → get_or s next 0 < 128 → below bound (over first (read_in 3 (slice at end s))) ≡ below bound (scaled scale low (got (get_or s next 0) (slice (next + 1) end s)))
  last bound q h l = so_far bound q ∙ ap (λ (r : Read). below bound (scaled scale low r)) (read_last s end g.fits g.k next h l)

  pub ran_out : (bound : ℕ) → bound ≤ cap 4 → end ≤ next → read_broken ≡ number_of end (below bound (over first (read_in 3 (slice at end s))))
  ran_out bound q h = rw (so_far bound q, no_bytes (slice next end s) (length-slice next end s g.fits ∙ omega arith), read_none g.k)

  pub one_more : (bound : ℕ) → bound ≤ cap 4 → bound ≤ scale → read_broken ≡ number_of end (below bound (over first (read_in 3 (slice at end s))))
  one_more bound q h = rw (so_far bound q, scaled_large bound scale low (read_in g.k (slice next end s)) h)

  pub too_many : (bound : ℕ) → bound ≤ cap 4 → next < end → get_or s next 0 < 128 → get_or s next 0 ≡ 0 → read_broken ≡ number_of end (below bound (over first (read_in 3 (slice at end s))))
  too_many bound q h l z = rw (last bound q h l, eq-eqb (get_or s next 0) 0 z)

  pub too_large : (bound : ℕ) → bound ≤ cap 4 → next < end → get_or s next 0 < 128 → (get_or s next 0 ≡ 0 → ⊥) → bound ≤ low + scale * get_or s next 0 → read_broken ≡ number_of end (below bound (over first (read_in 3 (slice at end s))))
  too_large bound q h l z b = rw (last bound q h l, ne_eqb (get_or s next 0) 0 z, le-ltb (low + scale * get_or s next 0) bound b)

  pub ends : (bound : ℕ) → bound ≤ cap 4 → next < end → get_or s next 0 < 128 → (get_or s next 0 ≡ 0 → ⊥) → low + scale * get_or s next 0 < bound → read_up_to (low + scale * get_or s next 0) (next + 1) ≡ number_of end (below bound (over first (read_in 3 (slice at end s))))
  ends bound q h l z b =
      rw (last bound q h l, ne_eqb (get_or s next 0) 0 z, lt-ltb (low + scale * get_or s next 0) bound b, place_left s (next + 1) end (omega arith) g.fits)

  pub goes_on : next < end → 128 ≤ get_or s next 0 → get_or s next 0 < 256 → scale < cap 4 → Reading s at end first (next + 1) (low + scale * (get_or s next 0 - 128)) (scale * 128)
  goes_on h l b q =
      let z = not_last scale g.k g.caps q in
      let turn : read_in g.k (slice next end s) ≡ over (get_or s next 0 - 128) (read_in (g.k - 1) (slice (next + 1) end s)) =
      rw (slice-cons next end s 0 h g.fits, add-one) (read_over g.k (get_or s next 0) (slice (suc next) end s) l b z)
      in
      record {
        k = g.k - 1;
        whole =
            g.whole
            ∙ ap (scaled scale low) turn
            ∙ scaled_over scale low (get_or s next 0 - 128) (read_in (g.k - 1) (slice (next + 1) end s));
        caps = mul_assoc scale 128 (cap (g.k - 1)) ∙ ap (λ (n : ℕ). scale * n) (cap_less g.k z) ∙ g.caps;
        small = (room (get_or s next 0 - 128) (omega arith)).0;
        group = g.group;
        fits = g.fits;
      }
