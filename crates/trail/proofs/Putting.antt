-- A number put into bytes group by group: what is put and the groups still left make up the whole, at every turn.
-- Assumes nothing.
use Prim.Native.Nat.{ℕ, ◌+◌, ◌/◌, ◌%◌, ◌^◌, ◌<◌, ◌≤◌}
use mathlib.Core.Path.{◌≡◌, refl, ap, sym, ◌∙◌}
use mathlib.Core.List.{List, [], ◌∷◌, ◌++◌, append_assoc, append-nil}
use native.Mathlib.Omega.{arith}
use native.Mathlib.Numerals.{add-one}
use lib.ListN.{length, take, set, length-set, length-append}
use lib.Seq.{take-suc-set}
use Rattle.trail.specs.Numbers.{groups, Put}
use Rattle.trail.proofs.NumbersReadBack.{groups_one, groups_more}
use Rattle.trail.proofs.Lengths.{groups_some, groups_few}

-- Of n, which goes to `at`, the groups of `left` are still to be put, at `next`.
pub record Putting (old : List ℕ) (at n : ℕ) (new : List ℕ) (left next : ℕ) : Type 0 where
  pub size : length new ≡ length old
  pub room : next + length (groups left) ≤ length old
  pub count : next + length (groups left) ≡ at + length (groups n)
  pub whole : take next new ++ groups left ≡ take at old ++ groups n

pub starts : (old : List ℕ) (at n : ℕ) → at + 5 ≤ length old → n < 2 ^ 32 → Putting old at n old n at
starts old at n h l = record { size = refl; room = omega (arith, groups_few 4 n (omega arith)); count = refl; whole = refl }

module _ {old : List ℕ} {at n : ℕ} {new : List ℕ} {left next : ℕ} (g : Putting old at n new left next) where
  -- There is room for one group more.
  pub room_left : next < length new
  room_left = omega (arith, groups_some left, g.room, g.size)

  pub goes_on : 128 ≤ left → Putting old at n (set new next (128 + left % 128)) (left / 128) (next + 1)
  goes_on h =
      let e = groups_more left h in
      record {
        size = length-set new next (128 + left % 128) ∙ g.size;
        room = omega (arith, ap length e, g.room);
        count = omega (arith, ap length e, g.count);
        whole = rw (add-one, take-suc-set new next (128 + left % 128) room_left, append_assoc) (rw (← e) g.whole);
      }

  pub ends : left < 128 → Put at (groups n) old (set new next left) (next + 1)
  ends h =
      let e = groups_one left h in
      record {
        place = omega (arith, ap length e, g.count);
        bytes = rw (add-one, take-suc-set new next left room_left, ← e) g.whole;
        size = length-set new next left ∙ g.size;
      }

-- Nothing put; one byte put first; and one thing put after another.
pub put_none : (at : ℕ) (b : List ℕ) → Put at [] b b at
put_none at b = record { place = omega arith; bytes = sym (append-nil (take at b)); size = refl }

pub put_first : (b : List ℕ) (m : ℕ) → 0 < length b → Put 0 (m ∷ []) b (set b 0 m) 1
put_first b m h = record { place = refl; bytes = take-suc-set b 0 m h; size = length-set b 0 m }

pub put_one : (b : List ℕ) (at m : ℕ) → at < length b → Put at (m ∷ []) b (set b at m) (at + 1)
put_one b at m h = record { place = refl; bytes = rw add-one (take-suc-set b at m h); size = length-set b at m }

pub put_then : {at m n : ℕ} {s t b₀ b₁ b₂ : List ℕ} → Put at s b₀ b₁ m → Put m t b₁ b₂ n → Put at (s ++ t) b₀ b₂ n
put_then {at} {m} {n} {s} {t} {b₀} {b₁} {b₂} e f =
    record {
      place = omega (arith, length-append s t, e.place, f.place);
      bytes = rw (f.bytes, e.bytes) (append_assoc (take at b₀) s t);
      size = f.size ∙ e.size;
    }

-- A record's bytes are whole once L, the count of the bytes before it, stands after them.
pub put_count : {n : ℕ} {s b₀ b₁ : List ℕ} → Put 0 s b₀ b₁ n → n < length b₁ → Put 0 (s ++ (length s ∷ [])) b₀ (set b₁ n n) (n + 1)
put_count {n} {s} {b₀} {b₁} e h =
    record {
      place = omega (arith, length-append s (length s ∷ []), e.place);
      bytes = let l : n ≡ length s = omega (arith, e.place) in rw (add-one, take-suc-set b₁ n n h, e.bytes) (ap (λ (m : ℕ). s ++ (m ∷ [])) l);
      size = length-set b₁ n n ∙ e.size;
    }
