-- How many bytes numbers and records take: a number has as many groups as hold it, and a record's length is the sum of its numbers' and 1.
-- Assumes nothing.
use Prim.Native.Nat.{ℕ, zero, suc, ◌+◌, ◌*◌, ◌/◌, ◌^◌, ◌<◌, ◌≤◌}
use mathlib.Core.Path.{◌≡◌, refl, ap}
use mathlib.Core.Bool.{Bool, true, false}
use mathlib.Core.List.{[], ◌∷◌, ◌++◌}
use native.Mathlib.Omega.{arith}
use lib.Dec.{ltb}
use lib.ListN.{length, length-append}
use borrow.Author.Tests.{ltb-true, ltb-false, eq-eqb}
use Rattle.std.specs.Prelude.{None}
use Rattle.report.specs.AnnexA.{BV}
use Rattle.machine.specs.declared.Machine.{Machine}
use Rattle.trail.specs.declared.OldValues.{OldValues}
use Rattle.trail.specs.declared.Kind.{Kind}
use Rattle.trail.specs.Numbers.{groups, bytes_if, GoodIf}
use Rattle.trail.specs.Records.{Word, marked, body, body_in, record_bytes, kind_number, Good, GoodIn, differs, word_changed, old_values, record_in}
use Rattle.trail.specs.OneChange.{closed, one_value}
use Rattle.trail.proofs.NumbersReadBack.{cap, groups_one, groups_more}
use Rattle.trail.proofs.Marks.{bit, marks, Sound, old_values_good}

-- A number has at least one byte, and below the cap of k at most k + 1.
pub groups_some : (n : ℕ) → 1 ≤ length (groups n)
groups_some n = go (ltb n 128) refl
  where
    go : (t : Bool) → ltb n 128 ≡ t → 1 ≤ length (groups n)
    go true e = rw (groups_one n (ltb-true n 128 e)) (omega arith)
    go false e = rw (groups_more n (ltb-false n 128 e)) (omega arith)

pub groups_few : (k n : ℕ) → n < cap k → length (groups n) ≤ k + 1
groups_few zero n h = rw (groups_one n h) (omega arith)
groups_few (suc k) n h = go (ltb n 128) refl (groups_few k (n / 128))
  where
    go : (t : Bool) → ltb n 128 ≡ t → (n / 128 < cap k → length (groups (n / 128)) ≤ k + 1) → length (groups n) ≤ suc k + 1
    go true e ih = rw (groups_one n (ltb-true n 128 e)) (omega arith)
    go false e ih = rw (groups_more n (ltb-false n 128 e)) (omega (arith, ltb-false n 128 e, ih (omega (arith, ltb-false n 128 e))))

pub same_length : {m n : ℕ} → m ≡ n → length (groups m) ≡ length (groups n)
same_length e = ap (λ (k : ℕ). length (groups k)) e

-- ---- the numbers of a record

if_few : (t : Bool) (k bound n : ℕ) → bound ≤ cap k → GoodIf t bound n → length (bytes_if t n) ≤ (k + 1) * BV t
if_few true k bound n h g = omega (arith, groups_few k n (omega arith))
if_few false k bound n h g = omega arith

-- The most bytes that each number of a record takes, by the marks.
pub record Sizes (kinds : Bool) (o : OldValues) : Type 0 where
  pub kind : length (bytes_if kinds (kind_number o.kind)) ≡ BV kinds
  pub kind_bit : BV kinds ≤ 1
  pub marks : length (groups o.marks) ≤ 1
  pub p : length (groups o.p) ≤ 3
  pub a : length (bytes_if (marked 1 o.marks) o.a) ≤ 5 * BV (marked 1 o.marks)
  pub x : length (bytes_if (marked 2 o.marks) o.x) ≤ 5 * BV (marked 2 o.marks)
  pub y : length (bytes_if (marked 4 o.marks) o.y) ≤ 5 * BV (marked 4 o.marks)
  pub place : length (bytes_if (marked 8 o.marks) o.place) ≤ 3 * BV (marked 8 o.marks)
  pub value : length (bytes_if (marked 8 o.marks) o.value) ≤ 5 * BV (marked 8 o.marks)
  pub a_bit : BV (marked 1 o.marks) ≤ 1
  pub x_bit : BV (marked 2 o.marks) ≤ 1
  pub y_bit : BV (marked 4 o.marks) ≤ 1
  pub word_bit : BV (marked 8 o.marks) ≤ 1

-- A kind is one byte.
kind_size : (kinds : Bool) (k : ℕ) → GoodIf kinds 5 k → length (bytes_if kinds k) ≡ BV kinds
kind_size true k g = ap length (groups_one k (omega arith))
kind_size false k g = refl

pub sizes : (kinds : Bool) {places : ℕ} {o : OldValues} → places ≤ 2 ^ 21 → GoodIn kinds places o → Sizes kinds o
sizes kinds {places} {o} h g =
    record {
      kind = kind_size kinds (kind_number o.kind) g.kind;
      kind_bit = bit kinds;
      marks = groups_few 0 o.marks (omega (arith, g.marks));
      p = groups_few 2 o.p (omega (arith, g.p));
      a = if_few (marked 1 o.marks) 4 (2 ^ 32) o.a (omega arith) g.a;
      x = if_few (marked 2 o.marks) 4 (2 ^ 32) o.x (omega arith) g.x;
      y = if_few (marked 4 o.marks) 4 (2 ^ 32) o.y (omega arith) g.y;
      place = if_few (marked 8 o.marks) 2 places o.place (omega arith) g.place;
      value = if_few (marked 8 o.marks) 4 (2 ^ 32) o.value (omega arith) g.value;
      a_bit = bit (marked 1 o.marks);
      x_bit = bit (marked 2 o.marks);
      y_bit = bit (marked 4 o.marks);
      word_bit = bit (marked 8 o.marks);
    }

-- ---- the body and the record

-- A record has 3 to 28 bytes before L, in the old form 2 to 27.
pub body_length_in : (kinds : Bool) {places : ℕ} {o : OldValues} → places ≤ 2 ^ 21 → GoodIn kinds places o
    → (2 + BV kinds ≤ length (body_in kinds o)) × (length (body_in kinds o) ≤ 27 + BV kinds)
body_length_in kinds {places} {o} h g =
    simp length-append (
      omega (arith, sizes kinds h g, groups_some o.marks, groups_some o.p),
      omega (arith, sizes kinds h g),
    )

-- The bytes before L are those of the numbers.
pub body_sum : (o : OldValues) → let m = o.marks in
    length (body o)
    ≡ length (groups (kind_number o.kind)) + (length (groups m) + (length (groups o.p) + (length (bytes_if (marked 1 m) o.a) + (length (bytes_if (marked 2 m) o.x) + (length (bytes_if (marked 4 m) o.y) + (length (bytes_if (marked 8 m) o.place) + length (bytes_if (marked 8 m) o.value)))))))
body_sum o = simp length-append refl

pub body_length : {places : ℕ} {o : OldValues} → places ≤ 2 ^ 21 → Good places o → (3 ≤ length (body o)) × (length (body o) ≤ 28)
body_length h g = body_length_in true h g

pub record_count : (o : OldValues) → length (record_bytes o) ≡ length (body o) + 1
unfolding record_in
record_count o = length-append (body o) (length (body o) ∷ [])

-- Kind, marks, P, five bytes for each register that is marked, eight for a word, and L.
pub record_length : {places : ℕ} {o : OldValues} → places ≤ 2 ^ 21 → Good places o
    → length (record_bytes o) ≤ 6 + 5 * (BV (marked 1 o.marks) + BV (marked 2 o.marks) + BV (marked 4 o.marks)) + 8 * BV (marked 8 o.marks)
unfolding record_in
record_length {places} {o} h g = simp length-append (omega (arith, sizes true h g))

-- ---- the record of one value: the marks, at most three bytes each for P and a word's place, five for the value, and L

if_place : (t : Bool) (n : ℕ) → n < 2 ^ 21 → length (bytes_if t n) ≤ 3
if_place true n h = groups_few 2 n (omega arith)
if_place false n h = omega arith

pub record ValueSizes (marks p place v : ℕ) : Type 0 where
  pub of_p : length (groups p) ≤ 3
  pub of_place : length (bytes_if (marked 8 marks) place) ≤ 3
  pub of_value : length (groups v) ≤ 5

pub p_size : {p : ℕ} → p < 2 ^ 20 → length (groups p) ≤ 3
p_size {p} h = groups_few 2 p (omega arith)

pub p_fits : (marks : ℕ) {p : ℕ} → p < 2 ^ 20 → length (closed (1 ∷ (marks ∷ groups p))) ≤ 28
p_fits marks {p} h = omega (arith, p_size h, length-append (groups p) (length (1 ∷ (marks ∷ groups p)) ∷ []))

pub value_sizes : (marks : ℕ) {p place v : ℕ} → p < 2 ^ 20 → place < 2 ^ 21 → v < 2 ^ 32 → ValueSizes marks p place v
value_sizes marks {p} {place} {v} hp hq hv =
    record {
      of_p = p_size hp;
      of_place = if_place (marked 8 marks) place hq;
      of_value = groups_few 4 v (omega arith);
    }

pub value_fits : {marks p place v : ℕ} → ValueSizes marks p place v → length (one_value marks p place v) ≤ 28
unfolding one_value
value_fits {marks} {p} {place} {v} s =
    let q = bytes_if (marked 8 marks) place in
    let r = groups p ++ (q ++ groups v) in
    omega (arith, s, length-append r (length (1 ∷ (marks ∷ r)) ∷ []), length-append (groups p) (q ++ groups v), length-append q (groups v))

-- ---- the record of an operation

-- How many of A, X and Y changed.
abbrev pub registers_changed : Machine → Machine → ℕ
registers_changed old new = BV (differs old.a new.a) + BV (differs old.x new.x) + BV (differs old.y new.y)

pub registers_three : (old new : Machine) → registers_changed old new ≤ 3
registers_three old new =
    omega (arith, bit (differs old.a new.a), bit (differs old.x new.x), bit (differs old.y new.y))

pub unchanged : {old new : ℕ} → old ≡ new → BV (differs old new) ≡ 0
unchanged {old} {new} e = rw (eq-eqb old new e)

-- So 6 bytes where nothing changed but P and the flags, 11 with one register, 14 with a word and no register, 21 with three registers and no word.
pub old_values_length : (k : Kind) {old : Machine} (new : Machine) {w : Word} → Sound old w
    → length (record_bytes (old_values k old new w)) ≤ 6 + 5 * registers_changed old new + 8 * BV (word_changed w)
unfolding old_values
old_values_length k {old} new {w} s =
    let m = marks old new w in
    rw (m.a, m.x, m.y, m.word) at (record_length (omega arith) (old_values_good k new s))

-- What `add` takes: an operation that changes no word, or no register.
pub kept_short : (k : Kind) {old : Machine} (new : Machine) → Sound old None → length (body (old_values k old new None)) ≤ 27
kept_short k {old} new s =
    omega (arith, record_count (old_values k old new None), old_values_length k new s, registers_three old new)

pub same_short : (k : Kind) (m : Machine) {w : Word} → Sound m w → length (body (old_values k m m w)) ≤ 27
same_short k m {w} s =
    omega (arith, record_count (old_values k m m w), old_values_length k m s, unchanged {old = m.a} {new = m.a} refl, unchanged {old = m.x} {new = m.x} refl, unchanged {old = m.y} {new = m.y} refl, bit (word_changed w))
