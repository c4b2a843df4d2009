-- A record of two or three bytes before L, byte by byte: what each byte must be, and that all else is broken.
-- Assumes nothing.
use Prim.Native.Nat.{ℕ, suc, ◌+◌, ◌-◌, ◌*◌, ◌/◌, ◌%◌, ◌^◌, ◌<◌, ◌≤◌}
use mathlib.Core.Path.{◌≡◌, refl, ap, sym, ◌∙◌}
use mathlib.Core.Bool.{Bool, true, false, cond}
use mathlib.Core.Option.{Option, none, some}
use mathlib.Core.List.{List, [], ◌∷◌}
use native.Mathlib.Omega.{arith}
use native.Mathlib.Nat.{div-div-eq-div-mul}
use native.Mathlib.Numerals.{add-one}
use lib.Dec.{ltb, eqb}
use lib.ListN.{length, get_or}
use lib.Seq.{slice, slice-cons}
use borrow.Author.Tests.{ltb-true, ltb-false, lt-ltb, le-ltb, eqb-true, eqb-false, eq-eqb, ne_eqb}
use Rattle.std.specs.Prelude.{Result, Ok, Err}
use Rattle.report.specs.AnnexA.{BV}
use Rattle.trail.specs.declared.OldValues.{OldValues}
use Rattle.trail.specs.declared.Newest.{Newest}
use Rattle.trail.specs.declared.Broken.{Broken as BrokenType}
use Rattle.trail.specs.Numbers.{Read, got, broken, over, read_in, below, read_below, read_if}
use Rattle.trail.specs.declared.Kind.{Kind}
use Rattle.trail.specs.Records.{marked, kind_read}
use Rattle.trail.specs.Newest.{and_then, at_end, read_from_marks, read_in_form, leaving, broken_record, before_L, newest_in, newest as newest_of, only_fitted, newest_fitted}
use Rattle.trail.proofs.NewestReadsBack.{too_short}
use Rattle.reading.specs.declared.short.Marked.{Marked}
use Rattle.reading.specs.declared.short.Marked.TheVariants as mark_of
use Rattle.reading.specs.declared.short.MarkedRecord.{MarkedRecord}
use Rattle.reading.specs.Finding.{read_broken, read_of, read_up_to, after_kind, Holds, MarksAlone, MarksAt, Tells, TwoBytes, registers, unmarked, short_record, with_value}
use Rattle.reading.proofs.ReadingGroups.{no_bytes}
use Rattle.reading.proofs.ReadingNumbers.{kind_known, kind_small, first_byte}

-- ---- the numbers after P, by what is marked

abbrev after_p : Kind → ℕ → ℕ → Bool → Bool → Bool → Bool → List ℕ → Option OldValues
after_p kind m p ta tx ty tw s =
    and_then (read_if ta (2 ^ 32) s) (λ a s₃.
    and_then (read_if tx (2 ^ 32) s₃) (λ x s₄.
    and_then (read_if ty (2 ^ 32) s₄) (λ y s₅.
    and_then (read_if tw (2 ^ 21) s₅) (λ place s₆.
    and_then (read_if tw (2 ^ 32) s₆) (λ value s₇.
    at_end s₇ (record { kind = kind; marks = m; p = p; a = a; x = x; y = y; place = place; value = value }))))))

abbrev from_p : Kind → ℕ → ℕ → List ℕ → Option OldValues
from_p kind m p s = after_p kind m p (marked 1 m) (marked 2 m) (marked 4 m) (marked 8 m) s

marks_first : (kind : Kind) (m : ℕ) (s : List ℕ) → m < 64 → read_from_marks kind (2 ^ 21) (m ∷ s) ≡ and_then (read_below (2 ^ 20) s) (from_p kind m)
marks_first kind m s h = rw (first_byte 64 m s (omega arith), lt-ltb m 64 h)

marks_large : (kind : Kind) (m : ℕ) (s : List ℕ) → 64 ≤ m → read_from_marks kind (2 ^ 21) (m ∷ s) ≡ none
marks_large kind m s h = rw (first_byte 64 m s (omega arith), le-ltb m 64 h)

-- What is marked, by the four marks.
mark : (w m : ℕ) (t : Bool) → marked w m ≡ t → m / w % 2 ≡ BV t
mark w m true e = eqb-true (m / w % 2) 1 e
mark w m false e = omega (arith, eqb-false (m / w % 2) 1 e)

four : (m : ℕ) → m % 4 ≡ m % 2 + 2 * (m / 2 % 2)
four m = omega (arith, div-div-eq-div-mul m 2 2)

eight : (m : ℕ) → m % 8 ≡ m % 4 + 4 * (m / 4 % 2)
eight m = omega (arith, div-div-eq-div-mul m 4 2)

sixteen : (m : ℕ) → m % 16 ≡ m % 8 + 8 * (m / 8 % 2)
sixteen m = omega (arith, div-div-eq-div-mul m 8 2)

weights : (m : ℕ) {ta tx ty tw : Bool} → marked 1 m ≡ ta → marked 2 m ≡ tx → marked 4 m ≡ ty → marked 8 m ≡ tw → m % 16 ≡ BV ta + 2 * BV tx + 4 * BV ty + 8 * BV tw
weights m {ta} {tx} {ty} {tw} a x y w =
    let two : m % 2 ≡ BV ta = omega (arith, mark 1 m ta a) in
    rw (sixteen m, eight m, four m, two, mark 2 m tx x, mark 4 m ty y, mark 8 m tw w)

-- ---- P and a value, of at most two bytes

-- A byte below 128 is a number.
one : (bound b : ℕ) (s : List ℕ) → b < 128 → 128 ≤ bound → read_below bound (b ∷ s) ≡ got b s
one bound b s h l = rw (lt-ltb b 128 h, lt-ltb b bound (omega arith))

-- One that is not lacks the next.
lone : (bound b : ℕ) → 128 ≤ b → read_below bound (b ∷ []) ≡ broken
lone bound b h = rw (le-ltb b 128 h) (go (ltb b 256))
  where
    go : (t : Bool) → below bound (cond t (over (b - 128) (read_in 3 [])) broken) ≡ broken
    go true = refl
    go false = refl

-- A number that does not end with the first of two bytes takes both, or is broken.
both : (bound b c : ℕ) → 128 ≤ b → (f : ℕ → List ℕ → Option OldValues) → ((n : ℕ) → f n [] ≡ none) → and_then (read_below bound (b ∷ (c ∷ []))) f ≡ none
both bound b c h f z = rw (le-ltb b 128 h) (go (ltb b 256) (ltb c 128) (ltb c 256) (eqb c 0) refl (ltb (b - 128 + 128 * c) bound) refl)
  where
    go : (t u v w : Bool) → eqb c 0 ≡ w → (x : Bool) → ltb (b - 128 + 128 * c) bound ≡ x
        → and_then (below bound (cond t (over (b - 128) (cond u (got c []) (cond v (over (c - 128) (read_in 2 [])) broken))) broken)) f ≡ none
    go true true v true d x e = rw d
    go true true v false d true e = rw (d, e) (z (b - 128 + 128 * c))
    go true true v false d false e = rw (d, e)
    go true false true w d x e = refl
    go true false false w d x e = refl
    go false u v w d x e = refl

-- ---- no byte is left after P

-- Where something is marked, it is missing.
missing : (kind : Kind) (m p : ℕ) → (m % 16 ≡ 0 → ⊥) → from_p kind m p [] ≡ none
missing kind m p h = go (marked 1 m) (marked 2 m) (marked 4 m) (marked 8 m) refl refl refl refl
  where
    go : (ta tx ty tw : Bool) → marked 1 m ≡ ta → marked 2 m ≡ tx → marked 4 m ≡ ty → marked 8 m ≡ tw → after_p kind m p ta tx ty tw [] ≡ none
    go true tx ty tw a x y w = refl
    go false true ty tw a x y w = refl
    go false false true tw a x y w = refl
    go false false false true a x y w = refl
    go false false false false a x y w = absurd (h (weights m a x y w))

-- Where nothing is marked, the record ends with P.
plain : (kind : Kind) (m p : ℕ) (s : List ℕ) → m % 16 ≡ 0 → from_p kind m p s ≡ at_end s (unmarked kind m p)
plain kind m p s h = rw (ne_eqb (m / 1 % 2) 1 (omega arith), ne_eqb (m / 2 % 2) 1 (omega arith), ne_eqb (m / 4 % 2) 1 (omega arith), ne_eqb (m / 8 % 2) 1 (omega arith))

-- ---- one byte is left after P

module _ (kind : Kind) (m p c : ℕ) where
  -- What is marked lacks its next byte.
  lacking : 128 ≤ c → (m % 16 ≡ 0 → ⊥) → from_p kind m p (c ∷ []) ≡ none
  lacking l h = go (marked 1 m) (marked 2 m) (marked 4 m) (marked 8 m) refl refl refl refl
    where
      go : (ta tx ty tw : Bool) → marked 1 m ≡ ta → marked 2 m ≡ tx → marked 4 m ≡ ty → marked 8 m ≡ tw → after_p kind m p ta tx ty tw (c ∷ []) ≡ none
      go true tx ty tw a x y w = rw (lone (2 ^ 32) c l)
      go false true ty tw a x y w = rw (lone (2 ^ 32) c l)
      go false false true tw a x y w = rw (lone (2 ^ 32) c l)
      go false false false true a x y w = rw (lone (2 ^ 21) c l)
      go false false false false a x y w = absurd (h (weights m a x y w))

  module _ (l : c < 128) where
    a_left : m % 16 ≡ 1 → from_p kind m p (c ∷ []) ≡ some (registers kind m p c 0 0)
    a_left h = rw (eq-eqb (m / 1 % 2) 1 (omega arith), ne_eqb (m / 2 % 2) 1 (omega arith), ne_eqb (m / 4 % 2) 1 (omega arith), ne_eqb (m / 8 % 2) 1 (omega arith), one (2 ^ 32) c [] l (omega arith))

    x_left : m % 16 ≡ 2 → from_p kind m p (c ∷ []) ≡ some (registers kind m p 0 c 0)
    x_left h = rw (ne_eqb (m / 1 % 2) 1 (omega arith), eq-eqb (m / 2 % 2) 1 (omega arith), ne_eqb (m / 4 % 2) 1 (omega arith), ne_eqb (m / 8 % 2) 1 (omega arith), one (2 ^ 32) c [] l (omega arith))

    y_left : m % 16 ≡ 4 → from_p kind m p (c ∷ []) ≡ some (registers kind m p 0 0 c)
    y_left h = rw (ne_eqb (m / 1 % 2) 1 (omega arith), ne_eqb (m / 2 % 2) 1 (omega arith), eq-eqb (m / 4 % 2) 1 (omega arith), ne_eqb (m / 8 % 2) 1 (omega arith), one (2 ^ 32) c [] l (omega arith))

    -- A word or two registers do not go into one byte.
    more_left : (m % 16 ≡ 0 → ⊥) → (m % 16 ≡ 1 → ⊥) → (m % 16 ≡ 2 → ⊥) → (m % 16 ≡ 4 → ⊥) → from_p kind m p (c ∷ []) ≡ none
    more_left h ha hx hy = go (marked 1 m) (marked 2 m) (marked 4 m) (marked 8 m) refl refl refl refl
      where
        go : (ta tx ty tw : Bool) → marked 1 m ≡ ta → marked 2 m ≡ tx → marked 4 m ≡ ty → marked 8 m ≡ tw → after_p kind m p ta tx ty tw (c ∷ []) ≡ none
        go true true ty tw a x y w = rw (one (2 ^ 32) c [] l (omega arith))
        go true false true tw a x y w = rw (one (2 ^ 32) c [] l (omega arith))
        go true false false true a x y w = rw (one (2 ^ 32) c [] l (omega arith))
        go true false false false a x y w = absurd (ha (weights m a x y w))
        go false true true tw a x y w = rw (one (2 ^ 32) c [] l (omega arith))
        go false true false true a x y w = rw (one (2 ^ 32) c [] l (omega arith))
        go false true false false a x y w = absurd (hx (weights m a x y w))
        go false false true true a x y w = rw (one (2 ^ 32) c [] l (omega arith))
        go false false true false a x y w = absurd (hy (weights m a x y w))
        go false false false true a x y w = rw (one (2 ^ 21) c [] l (omega arith))
        go false false false false a x y w = absurd (h (weights m a x y w))

-- ---- the k bytes after the kind, whose first is the marks m

module _ (kind : Kind) (s : List ℕ) (end k m : ℕ) (some_bytes : 2 ≤ k) (inside : k + 1 ≤ end) (fits : end < length s) (first : get_or s (end - k) 0 ≡ m) where
  abbrev tail : List ℕ
  tail = slice (end - k + 1) end s

  by_marks : after_kind kind s end k ≡ leaving (end - k - 1) (read_from_marks kind (2 ^ 21) (m ∷ tail))
  by_marks =
      rw (slice-cons (end - k) end s 0 (omega arith) (omega arith), first, add-one)

  pub marks_broken : 64 ≤ m → after_kind kind s end k ≡ broken_record
  marks_broken h = by_marks ∙ ap (leaving (end - k - 1)) (marks_large kind m tail h)

  module _ (small : m < 64) where
    by_p : after_kind kind s end k ≡ leaving (end - k - 1) (and_then (read_below (2 ^ 20) tail) (from_p kind m))
    by_p = by_marks ∙ ap (leaving (end - k - 1)) (marks_first kind m tail small)

    p_broken : read_below (2 ^ 20) tail ≡ broken → after_kind kind s end k ≡ broken_record
    p_broken e = by_p ∙ ap (λ (r : Read). leaving (end - k - 1) (and_then r (from_p kind m))) e

    p_is : (p : ℕ) (rest : List ℕ) → read_below (2 ^ 20) tail ≡ got p rest → after_kind kind s end k ≡ leaving (end - k - 1) (from_p kind m p rest)
    p_is p rest e = by_p ∙ ap (λ (r : Read). leaving (end - k - 1) (and_then r (from_p kind m))) e

    kept : (p : ℕ) → m % 16 ≡ 0 → read_below (2 ^ 20) tail ≡ got p [] → Holds (after_kind kind s end k) (short_record mark_of.Nothing (unmarked kind m p) (end - k - 1))
    kept p z e = record { holds = p_is p [] e ∙ ap (leaving (end - k - 1)) (plain kind m p [] z); marks = z }

    -- Nothing is marked: P must take all bytes after the marks; r is what a reader of them found for it, and `rest` is what it has left.
    module _ {old : List ℕ} (made : old ≡ tail) {r : Result ℕ BrokenType} (rest : List ℕ) (read : read_below (2 ^ 20) old ≡ read_of r rest) where
      pub no_p : {b : BrokenType} → r ≡ Err b → after_kind kind s end k ≡ broken_record
      no_p e = p_broken (ap (read_below (2 ^ 20)) (sym made) ∙ read ∙ ap (λ (x : Result ℕ BrokenType). read_of x rest) e)

      module _ {p : ℕ} (e : r ≡ Ok p) (z : m % 16 ≡ 0) where
        p_got : read_below (2 ^ 20) tail ≡ got p rest
        p_got = ap (read_below (2 ^ 20)) (sym made) ∙ read ∙ ap (λ (x : Result ℕ BrokenType). read_of x rest) e

        pub p_ends : eqb (length rest) 0 ≡ true → Holds (after_kind kind s end k) (short_record mark_of.Nothing (unmarked kind m p) (end - k - 1))
        p_ends h = kept p z (p_got ∙ ap (got p) (no_bytes rest (eqb-true (length rest) 0 h)))

        pub left_over : eqb (length rest) 0 ≡ false → after_kind kind s end k ≡ broken_record
        left_over h = p_is p rest p_got ∙ ap (leaving (end - k - 1)) (plain kind m p rest z ∙ go rest h)
          where
            go : (t : List ℕ) → eqb (length t) 0 ≡ false → at_end t (unmarked kind m p) ≡ none
            go [] f = let w : true ≡ false = f in absurd (cc)
            go (b ∷ t) f = refl

    -- One byte stands after the marks: P is that byte, and nothing is marked.
    module _ (b : ℕ) (one_byte : tail ≡ b ∷ []) where
      pub p_kept : m % 16 ≡ 0 → b < 128 → Holds (after_kind kind s end k) (short_record mark_of.Nothing (unmarked kind m b) (end - k - 1))
      p_kept z l = kept b z (rw (one_byte, one (2 ^ 20) b [] l (omega arith)))

      pub p_lacking : 128 ≤ b → after_kind kind s end k ≡ broken_record
      p_lacking l = p_broken (rw (one_byte, lone (2 ^ 20) b l))

      pub p_alone : (m % 16 ≡ 0 → ⊥) → after_kind kind s end k ≡ broken_record
      p_alone z = go (ltb b 128) refl
        where
          go : (t : Bool) → ltb b 128 ≡ t → after_kind kind s end k ≡ broken_record
          go true e = p_is b [] (rw (one_byte, one (2 ^ 20) b [] (ltb-true b 128 e) (omega arith))) ∙ ap (leaving (end - k - 1)) (missing kind m b z)
          go false e = p_lacking (ltb-false b 128 e)

    -- Two bytes stand after the marks, and something is marked: P is the first, and the value the second.
    module _ (b c : ℕ) (two_bytes : tail ≡ b ∷ (c ∷ [])) where
      pub p_takes_both : (m % 16 ≡ 0 → ⊥) → 128 ≤ b → after_kind kind s end k ≡ broken_record
      p_takes_both z l =
          let e : and_then (read_below (2 ^ 20) tail) (from_p kind m) ≡ none = rw two_bytes (both (2 ^ 20) b c l (from_p kind m) (λ p. missing kind m p z)) in
          by_p ∙ ap (leaving (end - k - 1)) e

      module _ (l : b < 128) where
        p_first : after_kind kind s end k ≡ leaving (end - k - 1) (from_p kind m b (c ∷ []))
        p_first = p_is b (c ∷ []) (rw (two_bytes, one (2 ^ 20) b (c ∷ []) l (omega arith)))

        pub value_lacking : (m % 16 ≡ 0 → ⊥) → 128 ≤ c → after_kind kind s end k ≡ broken_record
        value_lacking z h = p_first ∙ ap (leaving (end - k - 1)) (lacking kind m b c h z)

        module _ (h : c < 128) where
          pub a_marked : m % 16 ≡ 1 → Holds (after_kind kind s end k) (short_record mark_of.A (registers kind m b c 0 0) (end - k - 1))
          a_marked z = record { holds = p_first ∙ ap (leaving (end - k - 1)) (a_left kind m b c h z); marks = z }

          pub x_marked : m % 16 ≡ 2 → Holds (after_kind kind s end k) (short_record mark_of.X (registers kind m b 0 c 0) (end - k - 1))
          x_marked z = record { holds = p_first ∙ ap (leaving (end - k - 1)) (x_left kind m b c h z); marks = z }

          pub y_marked : m % 16 ≡ 4 → Holds (after_kind kind s end k) (short_record mark_of.Y (registers kind m b 0 0 c) (end - k - 1))
          y_marked z = record { holds = p_first ∙ ap (leaving (end - k - 1)) (y_left kind m b c h z); marks = z }

          pub more_marked : (m % 16 ≡ 0 → ⊥) → (m % 16 ≡ 1 → ⊥) → (m % 16 ≡ 2 → ⊥) → (m % 16 ≡ 4 → ⊥) → after_kind kind s end k ≡ broken_record
          more_marked z za zx zy = p_first ∙ ap (leaving (end - k - 1)) (more_left kind m b c h z za zx zy)

-- Four bytes stand before L, and something is marked: the kind, the marks, and two bytes.
module _ (kind : Kind) (s : List ℕ) (end m : ℕ) (four : 4 ≤ end) (fits : end < length s) (mark : MarksAt s (end - 3) m) (some : m % 16 ≡ 0 → ⊥) where
  after_marks : end - 3 + 1 ≡ end - 2
  after_marks = omega arith

  at_p : (b c : ℕ) → slice (end - 2) end s ≡ b ∷ (c ∷ []) → slice (end - 3 + 1) end s ≡ b ∷ (c ∷ [])
  at_p b c e = rw after_marks e

  pub pair_broken : TwoBytes s end read_broken → after_kind kind s end 3 ≡ broken_record
  pair_broken t = go (ltb (get_or s (end - 2) 0) 128) refl
    where
      go : (x : Bool) → ltb (get_or s (end - 2) 0) 128 ≡ x → after_kind kind s end 3 ≡ broken_record
      go true e =
          let l = ltb-true (get_or s (end - 2) 0) 128 e in
          value_lacking kind s end 3 m (omega arith) (omega arith) fits mark.byte mark.small (get_or s (end - 2) 0) (get_or s (end - 1) 0) (at_p _ _ t.0) l some (t.1 l)
      go false e =
          p_takes_both kind s end 3 m (omega arith) (omega arith) fits mark.byte mark.small (get_or s (end - 2) 0) (get_or s (end - 1) 0) (at_p _ _ t.0) some (ltb-false (get_or s (end - 2) 0) 128 e)

  pub pair_says : (p v : ℕ) → TwoBytes s end (read_up_to p v) → Tells (with_value kind m p v (end - 4)) (after_kind kind s end 3)
  unfolding with_value
  pair_says p v t = go (eqb (m % 16) 1) (eqb (m % 16) 2) (eqb (m % 16) 4) refl refl refl
    where
      left : end - 4 ≡ end - 3 - 1
      left = omega arith

      go : (x y z : Bool) → eqb (m % 16) 1 ≡ x → eqb (m % 16) 2 ≡ y → eqb (m % 16) 4 ≡ z → Tells (with_value kind m p v (end - 4)) (after_kind kind s end 3)
      go true y z e f g = rw (e, left) (a_marked kind s end 3 m (omega arith) (omega arith) fits mark.byte mark.small p v (at_p p v t.0) t.1 t.2 (eqb-true (m % 16) 1 e))
      go false true z e f g = rw (e, f, left) (x_marked kind s end 3 m (omega arith) (omega arith) fits mark.byte mark.small p v (at_p p v t.0) t.1 t.2 (eqb-true (m % 16) 2 f))
      go false false true e f g = rw (e, f, g, left) (y_marked kind s end 3 m (omega arith) (omega arith) fits mark.byte mark.small p v (at_p p v t.0) t.1 t.2 (eqb-true (m % 16) 4 g))
      go false false false e f g =
          rw (e, f, g)
          (more_marked kind s end 3 m (omega arith) (omega arith) fits mark.byte mark.small p v (at_p p v t.0) t.1 t.2 some (eqb-false (m % 16) 1 e) (eqb-false (m % 16) 2 f) (eqb-false (m % 16) 4 g))

-- ---- the kind, before those bytes

module _ (s : List ℕ) (end k : ℕ) (low : 3 ≤ k) (high : k ≤ 28) (inside : k ≤ end) (fits : end < length s) where
  by_kind : before_L (2 ^ 21) s end k ≡ leaving (end - k) (read_in_form true (2 ^ 21) (get_or s (end - k) 0 ∷ slice (suc (end - k)) end s))
  by_kind = rw (le-ltb k 3 low, le-ltb 28 k high, le-ltb end k inside, slice-cons (end - k) end s 0 (omega arith) (omega arith))

  pub kind_large : 5 ≤ get_or s (end - k) 0 → before_L (2 ^ 21) s end k ≡ broken_record
  unfolding read_in_form
  kind_large h = by_kind ∙ rw (first_byte 5 (get_or s (end - k) 0) (slice (suc (end - k)) end s) (omega arith), le-ltb (get_or s (end - k) 0) 5 h)

  pub kind_first : (kind : Kind) → Ok kind ≡ kind_read (get_or s (end - k) 0) → (j : ℕ) → k ≡ suc j → before_L (2 ^ 21) s end k ≡ after_kind kind s end j
  unfolding read_in_form
  kind_first kind e j u =
      let b = get_or s (end - k) 0 in
      let left : end - k ≡ end - j - 1 = omega arith in
      let next : suc (end - k) ≡ end - j = omega arith in
      by_kind ∙ rw (first_byte 5 b (slice (suc (end - k)) end s) (omega arith), lt-ltb b 5 (kind_small b kind e), kind_known b kind e, next, left)

-- ---- the newest record, where L is known

-- No word is marked, so whether it is fitted does not matter.
no_word : (k : Marked) (m : ℕ) → MarksAlone k m → m / 8 % 2 ≡ 1 → ⊥
no_word mark_of.Nothing m h e = omega (arith, e, sixteen m, h)
no_word mark_of.A m h e = omega (arith, e, sixteen m, h)
no_word mark_of.X m h e = omega (arith, e, sixteen m, h)
no_word mark_of.Y m h e = omega (arith, e, sixteen m, h)
no_word mark_of.Any m h e = h

module _ (main ports : ℕ) where
  tells_fitted : (r : Result MarkedRecord BrokenType) (n : Result Newest BrokenType) → Tells r n → Tells r (only_fitted main ports n)
  tells_fitted (Ok r) n h =
      record { holds = rw (h.holds, ne_eqb (r.values.marks / 8 % 2) 1 (no_word r.marked r.values.marks h.marks)); marks = h.marks }
  tells_fitted (Err e) n h = rw h

by_L : (s : List ℕ) (used k : ℕ) → get_or s (used - 1) 0 ≡ k → newest_of (2 ^ 21) s used ≡ before_L (2 ^ 21) s (used - 1) k
unfolding newest_in
by_L s used k e = rw e

pub tells_newest : (s : List ℕ) (used k : ℕ) (r : Result MarkedRecord BrokenType) → get_or s (used - 1) 0 ≡ k → Tells r (before_L (2 ^ 21) s (used - 1) k) → (main ports : ℕ) → Tells r (newest_fitted main ports s used)
unfolding newest_fitted
tells_newest s used k r e h main ports = rw (by_L s used k e) (tells_fitted main ports r (before_L (2 ^ 21) s (used - 1) k) h)

pub too_few : (s : List ℕ) (used : ℕ) → get_or s (used - 1) 0 < 3 → (main ports : ℕ) → newest_fitted main ports s used ≡ broken_record
unfolding newest_fitted
too_few s used h main ports = rw (too_short true (2 ^ 21) s used h)

-- L says more bytes than there are; and the kind is known.
pub past : (s : List ℕ) (end k : ℕ) → 3 ≤ k → k ≤ 28 → end < k → before_L (2 ^ 21) s end k ≡ broken_record
past s end k low high h = rw (le-ltb k 3 low, le-ltb 28 k high, lt-ltb end k h)

pub tells_kind : (s : List ℕ) (used k : ℕ) → get_or s (used - 1) 0 ≡ k → 3 ≤ k → k ≤ 28 → k ≤ used - 1 → used - 1 < length s → (kind : Kind) → Ok kind ≡ kind_read (get_or s (used - 1 - k) 0) → (j : ℕ) → k ≡ suc j
    → (r : Result MarkedRecord BrokenType) → Tells r (after_kind kind s (used - 1) j)
    → (main ports : ℕ) → Tells r (newest_fitted main ports s used)
tells_kind s used k e low high inside fits kind f j u r h =
    tells_newest s used k r e (rw (kind_first s (used - 1) k low high inside fits kind f j u) h)
