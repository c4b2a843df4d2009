-- Texts put one after the other are one text put: what the second leaves before its place is what the first put.
-- Assumes nothing.
use Prim.Native.Nat.{ℕ, ◌≤◌}
use mathlib.Core.Path.{◌≡◌, ap, sym, ◌∙◌}
use mathlib.Core.List.{List, [], ◌++◌, append_assoc, append-nil}
use native.Mathlib.Omega.{arith}
use lib.ListN.{length, take, drop, length-append, take-append-drop}
use lib.Seq.{take_at, drop-append-add, drop-drop, length-take-le}
use Rattle.text.specs.Placed.{Placed}

pub put_nothing : (at : ℕ) (d : List ℕ) → Placed at [] d at d
put_nothing at d = record { next_is = omega arith; after_is = rw append-nil (sym (take-append-drop at d)) }

pub put_then : {at i j : ℕ} {s t d e f : List ℕ}
    → at ≤ length d
    → Placed at s d i e
    → Placed i t e j f
    → Placed at (s ++ t) d j f
put_then {at} {i} {j} {s} {t} {d} {e} {f} h p q =
    let front : List ℕ = take at d ++ s in
    let n : length front ≡ i = length-append (take at d) s ∙ rw (length-take-le at d h) (sym p.next_is) in
    let keep : take i e ≡ front = rw p.after_is (take_at front (drop i d) i n) in
    let rest : drop j e ≡ drop j d =
    rw (q.next_is, p.after_is, ← n) (drop-append-add front (drop (length front) d) (length t) ∙ drop-drop (length t) (length front) d)
    in
    record {
      next_is = omega (arith, length-append s t, p.next_is, q.next_is);
      after_is = q.after_is ∙ rw (keep, rest, append_assoc (take at d) s t);
    }

pub placed_within : {at i : ℕ} {s d e : List ℕ} → at ≤ length d → Placed at s d i e → i ≤ length e
placed_within {at} {i} {s} {d} h p =
    omega (
      arith,
      p.next_is,
      ap length p.after_is,
      length-append (take at d ++ s) (drop i d),
      length-append (take at d) s,
      length-take-le at d h,
    )

-- The first bytes of a buffer are the line that was put there. The two after it are what a part `&out[..n]` asks.
module _ {line before after : List ℕ} {n : ℕ} (p : Placed 0 line before n after) where
  pub printed : take n after ≡ line
  printed = rw p.after_is (take_at line (drop n before) n (omega (arith, p.next_is)))

  pub printed_count : n ≡ length (take n after)
  printed_count = rw printed (omega (arith, p.next_is))

  pub printed_within : n ≤ length after
  printed_within = omega (arith, p.next_is, ap length p.after_is, length-append line (drop n before))
