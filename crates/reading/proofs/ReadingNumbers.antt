-- What a number that was read says of its bytes.
-- Assumes nothing.
use Prim.Native.Nat.{ℕ, suc, ◌+◌, ◌-◌, ◌^◌, ◌<◌, ◌≤◌}
use mathlib.Core.Path.{◌≡◌, refl, ap, sym, ◌∙◌}
use mathlib.Core.Bool.{Bool, true, false, cond}
use mathlib.Core.List.{List, [], ◌∷◌}
use native.Mathlib.Omega.{arith}
use lib.Dec.{ltb, eqb}
use lib.ListN.{length, get_or, take, length-append}
use lib.Seq.{slice, slice-cons, length-slice, drop_at, drop-drop}
use borrow.Author.Tests.{ltb-true, ltb-false, le-ltb, eqb-true}
use Rattle.std.specs.Prelude.{Result, Ok, Err, IsErr}
use Rattle.trail.specs.declared.Broken.{Broken}
use Rattle.trail.specs.declared.Kind.{Kind}
use Rattle.trail.specs.Records.{marked as is_marked, kind_of_number, kind_read}
use Rattle.trail.specs.Newest.{leaving, read_back, read_in_form}
use Rattle.trail.specs.Numbers.{Read, got, broken, bytes_if, read_in, read_below, read_if}
use Rattle.reading.specs.Finding.{Number, number_of, read_broken, read_of, read_up_to}
use Rattle.trail.proofs.NumbersReadBack.{read_if_only}
use Rattle.reading.proofs.ReadingGroups.{no_bytes, over_large}

-- There is one error.
pub the_error : {T : Type 0} (r : Result T Broken) → IsErr r → r ≡ Err (record {})
the_error (Err e) h = refl
the_error (Ok x) h = let z : false ≡ true = h in absurd (cc)

-- ---- a kind, by its number

pub kind_known : (n : ℕ) (k : Kind) → Ok k ≡ kind_read n → kind_of_number n ≡ k
kind_known n k e = go (ltb n 5) e
  where
    go : (t : Bool) → ◌≡◌ {A = Result Kind Broken} (Ok k) (cond t (Ok (kind_of_number n)) (Err (record {}))) → kind_of_number n ≡ k
    go true e = cc
    go false e = absurd (cc)

pub kind_small : (n : ℕ) (k : Kind) → Ok k ≡ kind_read n → n < 5
kind_small n k e = go (ltb n 5) refl e
  where
    go : (t : Bool) → ltb n 5 ≡ t → ◌≡◌ {A = Result Kind Broken} (Ok k) (cond t (Ok (kind_of_number n)) (Err (record {}))) → n < 5
    go true e f = ltb-true n 5 e
    go false e f = absurd (cc)

pub kind_unread : (n : ℕ) (e : Broken) → Err e ≡ kind_read n → 5 ≤ n
kind_unread n b e = go (ltb n 5) refl e
  where
    go : (t : Bool) → ltb n 5 ≡ t → ◌≡◌ {A = Result Kind Broken} (Err b) (cond t (Ok (kind_of_number n)) (Err (record {}))) → 5 ≤ n
    go true e f = absurd (cc)
    go false e f = ltb-false n 5 e

-- ---- one number

pub is_broken : (end : ℕ) (r : Read) → read_broken ≡ number_of end r → r ≡ broken
is_broken end broken e = refl
is_broken end (got n rest) e = absurd (cc)

same_number : {n next m k : ℕ} → read_up_to n next ≡ read_up_to m k → (n ≡ m) × (next ≡ k)
same_number {n} {next} {m} {k} e =
    let p : ◌≡◌ {A = ℕ × ℕ} (n, next) (m, k) = cc in
    (ap (λ (y : ℕ × ℕ). y.0) p, ap (λ (y : ℕ × ℕ). y.1) p)

-- The bytes after a number are those from the place after it.
pub is_got : (t : Bool) (bound : ℕ) (s : List ℕ) (at end n next : ℕ) → at ≤ end → end ≤ length s → read_up_to n next ≡ number_of end (read_if t bound (slice at end s))
    → (read_if t bound (slice at end s) ≡ got n (slice next end s)) × (next ≤ end)
is_got t bound s at end n next h l p = go (read_if t bound (slice at end s)) refl p
  where
    go : (r : Read) → read_if t bound (slice at end s) ≡ r → read_up_to n next ≡ number_of end r → (read_if t bound (slice at end s) ≡ got n (slice next end s)) × (next ≤ end)
    go broken e q = let z : ◌≡◌ {A = ℕ} 0 1 = cc in absurd (omega arith)
    go (got m rest) e q =
        let b = (read_if_only t bound (slice at end s) m rest e).0 in
        let k = length (bytes_if t m) in
        let c : end - at ≡ k + length rest = sym (length-slice at end s l) ∙ ap length b ∙ length-append (bytes_if t m) rest in
        let v : next ≡ end - length rest = (same_number q).1 in
        let w : next ≡ at + k = omega arith in
        let d : slice next end s ≡ rest = rw (w, ← drop-drop k at (take end s), b) (drop_at (bytes_if t m) rest k refl) in
        let u : m ≡ n = sym (same_number q).0 in
        (rw (e, d, u), omega arith)

-- ---- a byte, read as a number

-- A number below 128 is its first byte: two groups or more come to 128 or more.
pub first_byte : (bound b : ℕ) (s : List ℕ) → bound ≤ 128 → read_below bound (b ∷ s) ≡ cond (ltb b bound) (got b s) broken
first_byte bound b s h = go (ltb b 128) (ltb b 256) refl refl
  where
    go : (t u : Bool) → ltb b 128 ≡ t → ltb b 256 ≡ u → read_below bound (b ∷ s) ≡ cond (ltb b bound) (got b s) broken
    go true u e f = rw e
    go false true e f = rw (e, f, over_large bound (b - 128) (read_in 3 s) h, le-ltb b bound (omega (arith, ltb-false b 128 e)))
    go false false e f = rw (e, f, le-ltb b bound (omega (arith, ltb-false b 128 e)))

-- The bytes at one place or two, where the bytes end after them.
pub last_byte : (s : List ℕ) (at end : ℕ) → at + 1 ≡ end → end ≤ length s → slice at end s ≡ get_or s at 0 ∷ []
last_byte s at end one fits =
    let none : slice (suc at) end s ≡ [] = no_bytes (slice (suc at) end s) (length-slice (suc at) end s fits ∙ omega arith) in
    rw (slice-cons at end s 0 (omega arith) fits, none)

pub last_two : (s : List ℕ) (at next end : ℕ) → at + 1 ≡ next → next + 1 ≡ end → end ≤ length s → slice at end s ≡ get_or s at 0 ∷ (get_or s next 0 ∷ [])
last_two s at next end one two fits =
    let e : suc at ≡ next = omega arith in
    rw (slice-cons at end s 0 (omega arith) fits, e, last_byte s next end two fits)

-- r is what the code found for such a byte.
module _ (s : List ℕ) (at end bound : ℕ) (one : at + 1 ≡ end) (fits : end ≤ length s) (small : bound ≤ 128) {r : Number} (p : r ≡ number_of end (read_below bound (slice at end s))) where
  alone : r ≡ number_of end (cond (ltb (get_or s at 0) bound) (got (get_or s at 0) []) broken)
  alone = p ∙ rw (last_byte s at end one fits, first_byte bound (get_or s at 0) [] small)

  pub is_byte : {n next : ℕ} → r ≡ read_up_to n next → (get_or s at 0 ≡ n) × (n < bound)
  is_byte {n} {next} e = go (ltb (get_or s at 0) bound) refl (sym e ∙ alone)
    where
      go : (t : Bool) → ltb (get_or s at 0) bound ≡ t → read_up_to n next ≡ number_of end (cond t (got (get_or s at 0) []) broken) → (get_or s at 0 ≡ n) × (n < bound)
      go true g q = let v : get_or s at 0 ≡ n = sym (same_number q).0 in (v, omega (arith, ltb-true (get_or s at 0) bound g))
      go false g q = let z : ◌≡◌ {A = ℕ} 0 1 = cc in absurd (omega arith)

  pub no_byte : r ≡ read_broken → bound ≤ get_or s at 0
  no_byte e = go (ltb (get_or s at 0) bound) refl (sym e ∙ alone)
    where
      go : (t : Bool) → ltb (get_or s at 0) bound ≡ t → read_broken ≡ number_of end (cond t (got (get_or s at 0) []) broken) → bound ≤ get_or s at 0
      go true g q = let z : ◌≡◌ {A = ℕ} 0 1 = cc in absurd (omega arith)
      go false g q = ltb-false (get_or s at 0) bound g

-- ---- a byte, read by a reader

byte_at : (s : List ℕ) (at end bound : ℕ) → at < end → end ≤ length s → bound ≤ 128 → read_below bound (slice at end s) ≡ cond (ltb (get_or s at 0) bound) (got (get_or s at 0) (slice (at + 1) end s)) broken
byte_at s at end bound low fits small =
    let e : suc at ≡ at + 1 = omega arith in
    ap (read_below bound) (slice-cons at end s 0 low fits ∙ ap (λ y. get_or s at 0 ∷ slice y end s) e) ∙ first_byte bound (get_or s at 0) (slice (at + 1) end s) small

-- `old` is what the reader had to read, and `rest` is what it has left.
module _ (s : List ℕ) (at end bound : ℕ) (low : at < end) (fits : end ≤ length s) (small : bound ≤ 128) {old : List ℕ} (made : old ≡ slice at end s) {r : Result ℕ Broken} (rest : List ℕ) (p : read_below bound old ≡ read_of r rest) where
  pub next_byte : {n : ℕ} → r ≡ Ok n → (get_or s at 0 ≡ n) × (n < bound) × (rest ≡ slice (at + 1) end s)
  next_byte {n} e = go (ltb (get_or s at 0) bound) refl (ap (λ (x : Result ℕ Broken). read_of x rest) (sym e) ∙ sym p ∙ ap (read_below bound) made ∙ byte_at s at end bound low fits small)
    where
      go : (t : Bool) → ltb (get_or s at 0) bound ≡ t → got n rest ≡ cond t (got (get_or s at 0) (slice (at + 1) end s)) broken → (get_or s at 0 ≡ n) × (n < bound) × (rest ≡ slice (at + 1) end s)
      go true g q = let v : get_or s at 0 ≡ n = cc in (v, omega (arith, ltb-true (get_or s at 0) bound g), cc)
      go false g q = absurd (cc)

  pub no_next_byte : {b : Broken} → r ≡ Err b → bound ≤ get_or s at 0
  no_next_byte {b} e = go (ltb (get_or s at 0) bound) refl (ap (λ (x : Result ℕ Broken). read_of x rest) (sym e) ∙ sym p ∙ ap (read_below bound) made ∙ byte_at s at end bound low fits small)
    where
      go : (t : Bool) → ltb (get_or s at 0) bound ≡ t → broken ≡ cond t (got (get_or s at 0) (slice (at + 1) end s)) broken → bound ≤ get_or s at 0
      go true g q = absurd (cc)
      go false g q = ltb-false (get_or s at 0) bound g

-- ---- a record

-- Its numbers are read one after the other, and no byte is left.
pub whole : (kinds : Bool) {start : ℕ} {s t s₀ s₁ s₂ s₃ s₄ s₅ s₆ s₇ : List ℕ} {n m p a x y place value : ℕ} {kind : Kind} {none_left : Bool} → t ≡ s → read_if kinds 5 t ≡ got n s₀ → Ok kind ≡ kind_read n
    → read_below 64 s₀ ≡ got m s₁ → read_below (2 ^ 20) s₁ ≡ got p s₂ → read_if (is_marked 1 m) (2 ^ 32) s₂ ≡ got a s₃ → read_if (is_marked 2 m) (2 ^ 32) s₃ ≡ got x s₄ → read_if (is_marked 4 m) (2 ^ 32) s₄ ≡ got y s₅
    → read_if (is_marked 8 m) (2 ^ 21) s₅ ≡ got place s₆ → read_if (is_marked 8 m) (2 ^ 32) s₆ ≡ got value s₇ → none_left ≡ eqb (length s₇) 0 → none_left ≡ true
    → read_back (record { kind = kind; marks = m; p = p; a = a; x = x; y = y; place = place; value = value }) start ≡ leaving start (read_in_form kinds (2 ^ 21) s)
unfolding read_in_form
whole kinds {s₇ = s₇} {n = n} {kind = kind} e r₀ k r₁ r₂ r₃ r₄ r₅ r₆ r₇ z h =
    let none : s₇ ≡ [] = no_bytes s₇ (eqb-true (length s₇) 0 (sym z ∙ h)) in
    rw (← e, r₀, r₁, r₂, r₃, r₄, r₅, r₆, r₇, none, kind_known n kind k)
