-- Records put from the end of the output on: each right before the last one, in the form that is asked for.
-- Assumes nothing.
use Prim.Native.Nat.{ℕ, suc, ◌+◌, ◌-◌, ◌^◌, ◌<◌, ◌≤◌}
use mathlib.Core.Path.{◌≡◌, refl, ap, sym, ◌∙◌, subst}
use mathlib.Core.Bool.{Bool, true, false, not}
use mathlib.Core.Option.{some}
use mathlib.Core.List.{List, [], ◌∷◌, ◌++◌, append_assoc}
use native.Mathlib.Omega.{arith}
use lib.ListN.{length, get_or, take, drop, set, length-append, length-set}
use lib.Seq.{slice, paste, paste-zero, take-add, take-length, drop_at, drop-drop, drop-cons, drop-set-lt, get_or-set_same, length-slice, length-take-le}
use borrow.Author.Tests.{le-ltb}
use Rattle.report.specs.AnnexA.{BV}
use Rattle.trail.specs.Numbers.{groups}
use Rattle.trail.specs.declared.OldValues.{OldValues}
use Rattle.trail.specs.Records.{kind_number, from_marks, body_in, record_in, GoodIn}
use Rattle.trail.proofs.RecordsReadBack.{read_only_in}
use Rattle.trail.proofs.NewestReadsBack.{newest_found}
use Rattle.trail.proofs.NumbersReadBack.{groups_one}
use Rattle.trail.proofs.Adding.{Copying}
use Rattle.std.specs.Prelude.{Ok}
use Rattle.moving.specs.Rows.{row, records_of}
use Rattle.moving.specs.Moving.{moved_length, moved_record, PutBefore, Moves, move}
use Rattle.moving.proofs.Division.{none_of, parted}

-- ---- bytes put right before others

pub before_then : {to m n : ℕ} {s t b₀ b₁ b₂ : List ℕ} → PutBefore to t b₀ b₁ m → PutBefore m s b₁ b₂ n → PutBefore to (s ++ t) b₀ b₂ n
before_then {to} {m} {n} {s} {t} {b₀} {b₁} {b₂} e f =
    record {
      place = omega (arith, length-append s t, e.place, f.place);
      bytes = f.bytes ∙ ap (λ (r : List ℕ). s ++ r) e.bytes ∙ sym (append_assoc s t (drop to b₀));
      size = f.size ∙ e.size;
    }

pub before_one : (b : List ℕ) (to at x : ℕ) → at + 1 ≡ to → to ≤ length b → PutBefore to (x ∷ []) b (set b at x) at
before_one b to at x e h =
    let u : suc at ≡ to = omega arith in
    record {
      place = e;
      bytes =
          drop-cons (set b at x) at 0 (omega (arith, length-set b at x))
          ∙ rw (get_or-set_same b at x 0 (omega arith), drop-set-lt (suc at) b at x (omega arith), u);
      size = length-set b at x;
    }

-- Bytes copied, one after the other, over a part of the output.
before_copy : (b : List ℕ) (to at : ℕ) (t : List ℕ) {o : List ℕ} {i : ℕ} → at + length t ≡ to → to ≤ length b → Copying b at t (length t) o i → length t ≤ i → PutBefore to t b o at
before_copy b to at t {o} {i} e h g f =
    let j : i ≡ length t = omega (arith, g.some) in
    let w : o ≡ paste b at t (length t) = g.whole ∙ ap (paste b at t) j in
    record {
      place = e;
      bytes =
          ap (drop at) w
          ∙ ap (drop at) (append_assoc (take at b) (take (length t) t) (drop (at + length t) b))
          ∙ drop_at (take at b) (take (length t) t ++ drop (at + length t) b) at (length-take-le at b (omega arith))
          ∙ rw (take-length t, e);
      size = g.size;
    }

-- The bytes from a place on, so many.
taken : (s : List ℕ) (from n : ℕ) → from + n ≤ length s → take n (drop from s) ≡ slice from (from + n) s
taken s from n h =
    sym (ap (drop from) (take-add from n s) ∙ drop_at (take from s) (take n (drop from s)) from (length-take-le from s (omega arith)))

-- ---- a record in the other form

-- The bytes of a record that was read, and L: moved, they are its bytes in the other form.
pub moved_is : (new : Bool) (s : List ℕ) (start L : ℕ) (e : OldValues) → start + L ≤ length s → slice start (start + L) s ≡ body_in (not new) e → GoodIn (not new) (2 ^ 21) e
    → moved_record new s start L ≡ record_in new e
unfolding record_in
moved_is true s start L e h p g =
    let k : groups (kind_number e.kind) ≡ 0 ∷ [] = groups_one (kind_number e.kind) (omega (arith, g.kind)) ∙ ap (λ (n : ℕ). n ∷ []) g.kind in
    let l : L ≡ length (from_marks e) = omega (arith, length-slice start (start + L) s h, ap length p) in
    rw (p, k, l) (ap (λ (n : ℕ). 0 ∷ (from_marks e ++ (n ∷ []))) (omega arith))
moved_is false s start L e h p g =
    let k : groups (kind_number e.kind) ≡ kind_number e.kind ∷ [] = groups_one (kind_number e.kind) (omega (arith, g.kind)) in
    let q : slice start (start + L) s ≡ kind_number e.kind ∷ from_marks e = p ∙ ap (λ (r : List ℕ). r ++ from_marks e) k in
    let l : L - 1 ≡ length (from_marks e) = omega (arith, length-slice start (start + L) s h, ap length q) in
    let t : slice (start + 1) (start + L) s ≡ from_marks e = sym (drop-drop 1 start (take (start + L) s)) ∙ ap (drop 1) q in
    rw (t, l)

-- ---- the function that puts one record

-- The bytes of a record that are kept.
abbrev kept : List ℕ → ℕ → ℕ → List ℕ
kept s from end = take (end - from) (drop from s)

kept_is : (s : List ℕ) (from end : ℕ) → from ≤ end → end ≤ length s → kept s from end ≡ slice from end s
kept_is s from end h g = let e : from + (end - from) ≡ end = omega arith in taken s from (end - from) (omega arith) ∙ ap (λ (n : ℕ). slice from n s) e

-- The count of what is put before L, and where it begins; the output once L and the first bytes that are kept are put.
abbrev L : List ℕ → ℕ → ℕ → ℕ → ℕ
L s from end lead = length (kept s from end) + lead

abbrev begin : List ℕ → ℕ → ℕ → ℕ → ℕ → ℕ
begin s from end to lead = to - 1 - L s from end lead

abbrev Copied : List ℕ → List ℕ → ℕ → ℕ → ℕ → ℕ → List ℕ → ℕ → Type 0
Copied out s from end to lead o i =
    let t = kept s from end in
    Copying (set out (to - 1) (L s from end lead)) (begin s from end to lead + lead) t (length t) o i

-- A record in the other form has room before `to`.
pub has_room : (new : Bool) (l to lead skipped : ℕ) → lead ≡ BV new → skipped ≡ BV (not new) → 2 + BV (not new) ≤ l → moved_length new (l + 1) 1 ≤ to → l + lead + 1 ≤ to + skipped
has_room true l to lead skipped a b low h = omega arith
has_room false l to lead skipped a b low h = omega arith

module _ (out s : List ℕ) (from end to lead : ℕ) (order : from ≤ end) (inside : end ≤ length s) (room : to ≤ length out) where
  long : length (kept s from end) ≡ end - from
  long = omega (arith, ap length (kept_is s from end order inside), length-slice from end s inside)

  -- Before the first byte is copied, whatever stands in the place of L.
  pub copy_starts : (x : ℕ) → end + lead + 1 ≤ to + from
      → let o = set out (to - 1) x in Copying o (begin s from end to lead + lead) (kept s from end) (length (kept s from end)) o 0
  copy_starts x h =
      record {
        some = omega arith;
        held = omega arith;
        room = omega (arith, long, h, length-set out (to - 1) x);
        size = refl;
        whole = paste-zero (set out (to - 1) x) (begin s from end to lead + lead) (kept s from end);
      }

  -- What is kept and the count L stand right before the output's place `to`.
  kept_put : {o : List ℕ} {i : ℕ} → Copied out s from end to lead o i → length (kept s from end) ≤ i → end + lead + 1 ≤ to + from
      → PutBefore to (slice from end s ++ (L s from end lead ∷ [])) out o (begin s from end to lead + lead)
  kept_put {o} {i} g f h =
      let n = L s from end lead in
      let at = begin s from end to lead + lead in
      let first = before_one out to (to - 1) n (omega arith) room in
      let p = before_copy (set out (to - 1) n) (to - 1) at (kept s from end) (omega (arith, long)) (omega (arith, first.size)) g f in
      subst (λ (r : List ℕ). PutBefore to (r ++ (n ∷ [])) out o at) (kept_is s from end order inside) (before_then first p)

  pub puts_new : {o : List ℕ} {i : ℕ} → Copied out s from end to lead o i → length (kept s from end) ≤ i → (new : Bool) (start l : ℕ) → new ≡ true → lead ≡ BV new → from ≡ start → end ≡ start + l
      → end + lead + 1 ≤ to + from → PutBefore to (moved_record new s start l) out (set o (begin s from end to lead) 0) (begin s from end to lead)
  puts_new {o} {i} g f true start l _ a b e h =
      let at = begin s from end to lead in
      let p = kept_put g f h in
      let count : L s from end lead ≡ l + 1 = omega (arith, long) in
      let last = before_one o (at + lead) at 0 (omega arith) (omega (arith, p.size, long)) in
      let r : slice from end s ++ (L s from end lead ∷ []) ≡ slice start (start + l) s ++ ((l + 1) ∷ []) = rw (count, b, e) in
      subst (λ (r : List ℕ). PutBefore to (0 ∷ r) out (set o at 0) at) r (before_then p last)
  puts_new g f false start l n a b e h = absurd (cc)

  pub puts_old : {o : List ℕ} {i : ℕ} → Copied out s from end to lead o i → length (kept s from end) ≤ i → (new : Bool) (start l : ℕ) → new ≡ false → lead ≡ BV new → from ≡ start + 1
      → end ≡ start + l → end + lead + 1 ≤ to + from → PutBefore to (moved_record new s start l) out o (begin s from end to lead)
  puts_old g f true start l n a b e h = absurd (cc)
  puts_old {o} {i} g f false start l _ a b e h =
      let at = begin s from end to lead in
      let count : L s from end lead ≡ l - 1 = omega (arith, long) in
      let place : at + lead ≡ at = omega arith in
      let r : slice from end s ++ (L s from end lead ∷ []) ≡ slice (start + 1) (start + l) s ++ ((l - 1) ∷ []) = rw (count, b, e) in
      subst (λ (m : ℕ). PutBefore to (moved_record false s start l) out o m) place (subst (λ (r : List ℕ). PutBefore to r out o (at + lead)) r (kept_put g f h))

-- ---- the loop over all records

moved_record_length : (new : Bool) (s : List ℕ) (start L : ℕ) → 1 ≤ L → start + L ≤ length s → length (moved_record new s start L) ≡ moved_length new (L + 1) 1
moved_record_length true s start L h g =
    omega (arith, length-append (slice start (start + L) s) ((L + 1) ∷ []), length-slice start (start + L) s g)
moved_record_length false s start L h g =
    omega (arith, length-append (slice (start + 1) (start + L) s) ((L - 1) ∷ []), length-slice (start + 1) (start + L) s g)

-- The records of the first `used` bytes are still to be put, before the output's place `to`; from there on it is as it will be.
pub record Writing (new : Bool) (s out₀ : List ℕ) (total : ℕ) (out : List ℕ) (used to : ℕ) : Type 0 where
  pub all : Moves new s total (length out₀)
  pub older : List OldValues
  pub read : records_of (not new) s used ≡ some older
  pub inside : used ≤ length s
  pub place : to ≡ length (row new older)
  pub near : to ≤ length out₀
  pub size : length out ≡ length out₀
  pub whole : row new older ++ drop to out ≡ row new all.entries ++ drop total out₀

pub starts : {new : Bool} {s out : List ℕ} {total : ℕ} → Moves new s total (length out) → Writing new s out total out (length s) total
starts {new} {s} {out} {total} m =
    record {
      all = m;
      older = m.entries;
      read = m.whole;
      inside = omega arith;
      place = m.count;
      near = m.room;
      size = refl;
      whole = refl;
    }

module _ {new : Bool} {s out₀ : List ℕ} {total : ℕ} {out : List ℕ} {used to : ℕ} (g : Writing new s out₀ total out used to) where
  -- The newest of the records that are still to be put.
  record Turn (L start : ℕ) : Type 0 where
    entry : OldValues
    older : List OldValues
    parts : g.older ≡ entry ∷ older
    read : records_of (not new) s start ≡ some older
    low : 2 + BV (not new) ≤ L
    high : L ≤ 27 + BV (not new)
    end : start + L + 1 ≡ used
    bytes : moved_record new s start L ≡ record_in new entry

  turn : 0 < used → Turn (get_or s (used - 1) 0) (used - 1 - get_or s (used - 1) 0)
  turn h =
      let L = get_or s (used - 1) 0 in
      let start = used - 1 - L in
      let w = parted (not new) s used g.older h g.read in
      let f = newest_found (not new) (2 ^ 21) s used w.entry w.left w.last in
      let b = read_only_in (not new) (2 ^ 21) (slice start (used - 1) s) w.entry f.read in
      let e : start + L ≡ used - 1 = omega (arith, f.room) in
      let p : slice start (start + L) s ≡ body_in (not new) w.entry = rw e b.0 in
      record {
        entry = w.entry;
        older = w.older;
        parts = w.whole;
        read = rw f.left at w.before;
        low = f.low;
        high = f.high;
        end = omega (arith, f.room);
        bytes = moved_is new s start L w.entry (omega (arith, f.room, g.inside)) p b.1;
      }

  pub reaches : 0 < used → get_or s (used - 1) 0 ≤ used - 1
  reaches h = omega (arith, (turn h).end)

  -- What `put_record` is asked for.
  pub asked : 0 < used → let L = get_or s (used - 1) 0 in let start = used - 1 - L in
      (start + L ≤ length s) × (2 + BV (not new) ≤ L) × (L ≤ 27 + BV (not new)) × (moved_length new (L + 1) 1 ≤ to) × (to ≤ length out)
  asked h =
      let L = get_or s (used - 1) 0 in
      let start = used - 1 - L in
      let t = turn h in
      let l = moved_record_length new s start L (omega (arith, t.low)) (omega (arith, t.end, g.inside)) in
      let n : to ≡ length (row new t.older) + length (record_in new t.entry) =
      g.place ∙ ap (λ (es : List OldValues). length (row new es)) t.parts ∙ length-append (row new t.older) (record_in new t.entry)
      in
      (omega (arith, t.end, g.inside), t.low, t.high, omega (arith, n, l, ap length t.bytes), omega (arith, g.near, g.size))

  pub goes_back : 0 < used → {out' : List ℕ} {at : ℕ} → PutBefore to (moved_record new s (used - 1 - get_or s (used - 1) 0) (get_or s (used - 1) 0)) out out' at
      → Writing new s out₀ total out' (used - 1 - get_or s (used - 1) 0) at
  goes_back h {out'} {at} p =
      let L = get_or s (used - 1) 0 in
      let start = used - 1 - L in
      let t = turn h in
      let r = row new t.older in
      let n : to ≡ length r + length (record_in new t.entry) =
      g.place ∙ ap (λ (es : List OldValues). length (row new es)) t.parts ∙ length-append r (record_in new t.entry)
      in
      record {
        all = g.all;
        older = t.older;
        read = t.read;
        inside = omega (arith, g.inside);
        place = omega (arith, n, p.place, ap length t.bytes);
        near = omega (arith, g.near, p.place);
        size = p.size ∙ g.size;
        whole =
            ap (λ (x : List ℕ). r ++ x) (p.bytes ∙ ap (λ (x : List ℕ). x ++ drop to out) t.bytes)
            ∙ sym (append_assoc r (record_in new t.entry) (drop to out))
            ∙ ap (λ (es : List OldValues). row new es ++ drop to out) (sym t.parts)
            ∙ g.whole;
      }

  pub ends : used ≤ 0 → move new s out₀ ≡ (Ok total, out)
  unfolding move
  ends h =
      let z : used ≡ 0 = omega arith in
      let a : some g.older ≡ some [] = sym g.read ∙ ap (records_of (not new) s) z ∙ none_of (not new) s in
      let b : g.older ≡ [] = cc in
      let c : to ≡ 0 = g.place ∙ ap (λ (es : List OldValues). length (row new es)) b in
      let d : out ≡ row new g.all.entries ++ drop total out₀ =
      ap (λ (k : ℕ). drop k out) (sym c) ∙ ap (λ (es : List OldValues). row new es ++ drop to out) (sym b) ∙ g.whole
      in
      let m = g.all in
      let k = m.count in
      rw (m.whole, le-ltb (length out₀) (length (row new m.entries)) (omega (arith, m.room, k)), d, k)
