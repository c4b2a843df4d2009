-- A record put right after the bytes in use: the trail keeps its length, and the record stands at the end of the bytes in use. And the law of copying
-- byte by byte, by which the crate moving puts the bytes of a record.
-- Assumes nothing.
use Prim.Native.Nat.{ℕ, ◌+◌, ◌<◌, ◌≤◌}
use mathlib.Core.Path.{◌≡◌, ◌∙◌}
use mathlib.Core.List.{List, ◌++◌, append_assoc}
use native.Mathlib.Omega.{arith}
use native.Mathlib.Numerals.{add-one}
use lib.ListN.{length, take, drop, get_or, set, length-set, length-append, length-take, length-drop}
use lib.Seq.{paste, paste-suc, take_at}
use Rattle.trail.specs.Records.{put}

-- ---- what is put into a trail

-- A record that fits leaves the trail as long as it was, and stands at the end of the bytes in use.
pub put_length : (trail : List ℕ) (used : ℕ) (r : List ℕ) → used + length r ≤ length trail → length (put trail used r) ≡ length trail
put_length trail used r h = simp (length-append, length-take, length-drop) (omega arith)

pub put_in_use : (trail : List ℕ) (used : ℕ) (r : List ℕ) → used ≤ length trail → take (used + length r) (put trail used r) ≡ take used trail ++ r
put_in_use trail used r h =
    rw (← append_assoc (take used trail) r (drop (used + length r) trail))
    (take_at (take used trail ++ r) (drop (used + length r) trail) (used + length r) (simp (length-append, length-take) (omega arith)))

-- ---- a copy, byte by byte

-- Of the n bytes of b, the first i are copied: the trail is the old one with these pasted in.
pub record Copying (old : List ℕ) (used : ℕ) (b : List ℕ) (n : ℕ) (new : List ℕ) (i : ℕ) : Type 0 where
  pub some : i ≤ n
  pub held : n ≤ length b
  pub room : used + n ≤ length old
  pub size : length new ≡ length old
  pub whole : new ≡ paste old used b i

module _ {old : List ℕ} {used : ℕ} {b : List ℕ} {n : ℕ} {new : List ℕ} {i : ℕ} (g : Copying old used b n new i) where
  pub goes_on : i < n → Copying old used b n (set new (used + i) (get_or b i 0)) (i + 1)
  goes_on h =
      record {
        some = omega arith;
        held = g.held;
        room = g.room;
        size = length-set new (used + i) (get_or b i 0) ∙ g.size;
        whole = rw (g.whole, add-one) (paste-suc old used b i 0 (omega (arith, g.room)) (omega (arith, g.held)));
      }
