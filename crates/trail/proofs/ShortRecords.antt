-- The records of steps, which change at most one register or one word: their bytes, and those of the short ones by the groups of their numbers.
-- Assumes nothing.
use Prim.Native.Nat.{ℕ, ◌+◌, ◌*◌, ◌/◌, ◌%◌, ◌^◌, ◌<◌, ◌≤◌}
use mathlib.Core.Path.{◌≡◌}
use mathlib.Core.Bool.{Bool, true, false}
use mathlib.Core.List.{List, [], ◌∷◌, ◌++◌, append-nil}
use native.Mathlib.Omega.{arith}
use lib.Dec.{eqb}
use Rattle.std.specs.Prelude.{Some, None, Result}
use Rattle.report.specs.AnnexA.{BV}
use Rattle.machine.specs.declared.Place.{Place}
use Rattle.trail.specs.declared.TrailFull.{TrailFull}
use Rattle.trail.specs.Numbers.{groups}
use Rattle.trail.specs.Records.{added, record_bytes, marks_by, place_number, record_in}
use Rattle.trail.specs.OneChange.{closed, one_value, registers_kept, register_changed, Register, is_a, is_x, is_y}
use Rattle.trail.proofs.NumbersReadBack.{groups_one, groups_more}
use Rattle.trail.proofs.Marks.{bits}

-- ---- the numbers of two groups to five, by all their groups but the last

groups_then : {n g : ℕ} {s : List ℕ} → 128 ≤ n → g ≡ 128 + n % 128 → groups (n / 128) ≡ s → groups n ≡ g ∷ s
groups_then {n} h e f = rw (groups_more n h, e, f)

pub groups_two : {n g₀ : ℕ} → 128 ≤ n → n < 16384 → g₀ ≡ 128 + n % 128 → groups n ≡ g₀ ∷ n / 128 ∷ []
groups_two {n} h l e₀ = groups_then h e₀ (groups_one (n / 128) (omega arith))

pub groups_three : {n g₀ g₁ : ℕ} → 16384 ≤ n → n < 2097152 → g₀ ≡ 128 + n % 128 → g₁ ≡ 128 + n / 128 % 128
    → groups n ≡ g₀ ∷ g₁ ∷ n / 128 / 128 ∷ []
groups_three h l e₀ e₁ = groups_then (omega arith) e₀ (groups_two (omega arith) (omega arith) e₁)

pub groups_four : {n g₀ g₁ g₂ : ℕ} → 2097152 ≤ n → n < 268435456 → g₀ ≡ 128 + n % 128 → g₁ ≡ 128 + n / 128 % 128
    → g₂ ≡ 128 + n / 128 / 128 % 128
    → groups n ≡ g₀ ∷ g₁ ∷ g₂ ∷ n / 128 / 128 / 128 ∷ []
groups_four h l e₀ e₁ e₂ = groups_then (omega arith) e₀ (groups_three (omega arith) (omega arith) e₁ e₂)

pub groups_five : {n g₀ g₁ g₂ g₃ : ℕ} → 268435456 ≤ n → n < 2 ^ 32 → g₀ ≡ 128 + n % 128 → g₁ ≡ 128 + n / 128 % 128
    → g₂ ≡ 128 + n / 128 / 128 % 128
    → g₃ ≡ 128 + n / 128 / 128 / 128 % 128
    → groups n ≡ g₀ ∷ g₁ ∷ g₂ ∷ g₃ ∷ n / 128 / 128 / 128 / 128 ∷ []
groups_five h l e₀ e₁ e₂ e₃ = groups_then (omega arith) e₀ (groups_four (omega arith) (omega arith) e₁ e₂ e₃)

-- ---- one value and no place

-- What was added, by the groups of P and of the value.
pub adds_groups : (trail : List ℕ) (used m p v : ℕ) {q s : List ℕ} {r : Result ℕ TrailFull × List ℕ} → groups p ≡ q → groups v ≡ s
    → r ≡ added trail used (closed (1 ∷ (m ∷ (q ++ s))))
    → r ≡ added trail used (closed (1 ∷ (m ∷ (groups p ++ groups v))))
adds_groups trail used m p v e f h = rw (e, f) h

-- ---- no register and no word

kept_bytes : (p : ℕ) (b s : Bool) → record_bytes (registers_kept p b s None) ≡ closed (1 ∷ (marks_by false false false false b s ∷ groups p))
unfolding record_in
kept_bytes p b s =
    let m = bits false false false false b s in
    rw (m.a, m.x, m.y, m.word, groups_one 1 (omega arith), groups_one (marks_by false false false false b s) (omega (arith, m.few)), append-nil (groups p))

-- What was added, by the groups of P.
pub adds_kept : (trail : List ℕ) (used : ℕ) {k : ℕ} (p : ℕ) (b s : Bool) {q : List ℕ} {r : Result ℕ TrailFull × List ℕ} → k ≡ marks_by false false false false b s → groups p ≡ q
    → r ≡ added trail used (closed (1 ∷ (k ∷ q)))
    → r ≡ added trail used (record_bytes (registers_kept p b s None))
adds_kept trail used p b s m e h = rw (kept_bytes p b s, ← m, e) h

-- ---- one register

-- The marks, by the weight of the register's.
register_marks : {w f : ℕ} → Register w → (b s : Bool) → f ≡ 16 * BV b + 32 * BV s → w + f ≡ marks_by (eqb w 1) (eqb w 2) (eqb w 4) false b s
register_marks is_a b s e = omega arith
register_marks is_x b s e = omega arith
register_marks is_y b s e = omega arith

pub register_few : {w : ℕ} → Register w → w ≤ 4
register_few is_a = omega arith
register_few is_x = omega arith
register_few is_y = omega arith

changed_bytes : {w : ℕ} → Register w → (p : ℕ) (b s : Bool) (old : ℕ) → record_bytes (register_changed w p b s old) ≡ closed (1 ∷ (marks_by (eqb w 1) (eqb w 2) (eqb w 4) false b s ∷ (groups p ++ groups old)))
unfolding record_in
changed_bytes is_a p b s old =
    let m = bits true false false false b s in
    rw (m.a, m.x, m.y, m.word, groups_one 1 (omega arith), groups_one (marks_by true false false false b s) (omega (arith, m.few)), append-nil (groups old))
changed_bytes is_x p b s old =
    let m = bits false true false false b s in
    rw (m.a, m.x, m.y, m.word, groups_one 1 (omega arith), groups_one (marks_by false true false false b s) (omega (arith, m.few)), append-nil (groups old))
changed_bytes is_y p b s old =
    let m = bits false false true false b s in
    rw (m.a, m.x, m.y, m.word, groups_one 1 (omega arith), groups_one (marks_by false false true false b s) (omega (arith, m.few)), append-nil (groups old))

-- The record of one register by the groups of P and of its old value; and as a record with one value.
pub register_closed : {w f : ℕ} → Register w → (p : ℕ) (b s : Bool) (old : ℕ) → f ≡ 16 * BV b + 32 * BV s
    → closed (1 ∷ ((w + f) ∷ (groups p ++ groups old))) ≡ record_bytes (register_changed w p b s old)
register_closed r p b s old e = rw (register_marks r b s e, changed_bytes r p b s old)

pub as_register : {w f : ℕ} → Register w → (p : ℕ) (b s : Bool) (old : ℕ) → f ≡ 16 * BV b + 32 * BV s
    → one_value (w + f) p 0 old ≡ record_bytes (register_changed w p b s old)
unfolding one_value
as_register {w} r p b s old e =
    rw (register_marks r b s e, changed_bytes r p b s old, (bits (eqb w 1) (eqb w 2) (eqb w 4) false b s).word)

-- ---- one word

pub as_word : {f q : ℕ} (p : ℕ) (b s : Bool) (place : Place) (old : ℕ) → f ≡ 16 * BV b + 32 * BV s → q ≡ place_number place
    → one_value (8 + f) p q old ≡ record_bytes (registers_kept p b s (Some (record { place = place; value = old })))
unfolding one_value record_in
as_word {f} p b s place old e g =
    let m = bits false false false true b s in
    let n : 8 + f ≡ marks_by false false false true b s = omega arith in
    rw (n, g, m.a, m.x, m.y, m.word, groups_one 1 (omega arith), groups_one (marks_by false false false true b s) (omega (arith, m.few)))
