-- The marks of an operation's record tell what changed and the old flags, since each is one bit of their sum; so its old values are such as a record can hold.
-- Assumes nothing.
use Prim.Native.Nat.{ℕ, ◌+◌, ◌*◌, ◌/◌, ◌%◌, ◌^◌, ◌<◌, ◌≤◌}
use mathlib.Core.Path.{◌≡◌, refl}
use mathlib.Core.Bool.{Bool, true, false, cond}
use native.Mathlib.Omega.{arith}
use lib.Dec.{eqb}
use borrow.Author.Tests.{eq-eqb, ne_eqb}
use Rattle.std.specs.Prelude.{Some, None}
use Rattle.std.specs.Int.{from_bool}
use Rattle.report.specs.AnnexA.{BV}
use Rattle.machine.specs.declared.Machine.{Machine}
use Rattle.machine.specs.Held.{where_of}
use Rattle.machine.specs.declared.Place.{Place}
use Rattle.machine.specs.declared.Place.TheVariants.{Main, Port}
use Rattle.trail.specs.declared.Kind.{Kind}
use Rattle.trail.specs.declared.Kind.TheVariants.{FromOld, Step, Reset, Force, Set}
use Rattle.trail.specs.Numbers.{GoodIf}
use Rattle.trail.specs.Records.{Word, marked, differs, word_changed, word_place, word_value, place_number, marks_by, Addressed, Good, kind_number, old_values}

pub bit : (t : Bool) → BV t ≤ 1
bit true = omega arith
bit false = omega arith

-- A mark as the code has it, and the sum of six.
pub byte_bit : (t : Bool) → from_bool t ≡ BV t
byte_bit true = refl
byte_bit false = refl

pub marks_sum : (ta tx ty tw tb ts : Bool) {a x y w f : ℕ} → a ≡ from_bool ta → x ≡ from_bool tx → y ≡ from_bool ty → w ≡ from_bool tw → f ≡ 16 * BV tb + 32 * BV ts
    → a + 2 * x + 4 * y + 8 * w + f ≡ marks_by ta tx ty tw tb ts
marks_sum ta tx ty tw tb ts ea ex ey ew ef = omega (arith, byte_bit ta, byte_bit tx, byte_bit ty, byte_bit tw)

odd : (t : Bool) (n : ℕ) → n % 2 ≡ BV t → eqb (n % 2) 1 ≡ t
odd true n h = eq-eqb (n % 2) 1 h
odd false n h = ne_eqb (n % 2) 1 (omega arith)

-- Each mark is one bit of the sum.
pub record Bits (ta tx ty tw tb ts : Bool) : Type 0 where
  pub a : marked 1 (marks_by ta tx ty tw tb ts) ≡ ta
  pub x : marked 2 (marks_by ta tx ty tw tb ts) ≡ tx
  pub y : marked 4 (marks_by ta tx ty tw tb ts) ≡ ty
  pub word : marked 8 (marks_by ta tx ty tw tb ts) ≡ tw
  pub b : marked 16 (marks_by ta tx ty tw tb ts) ≡ tb
  pub stop : marked 32 (marks_by ta tx ty tw tb ts) ≡ ts
  pub few : marks_by ta tx ty tw tb ts < 64

pub bits : (ta tx ty tw tb ts : Bool) → Bits ta tx ty tw tb ts
bits ta tx ty tw tb ts =
    let m : ℕ = marks_by ta tx ty tw tb ts in
    let h₁ = bit ta in
    let h₂ = bit tx in
    let h₃ = bit ty in
    let h₄ = bit tw in
    let h₅ = bit tb in
    let h₆ = bit ts in
    record {
      a = odd ta (m / 1) (omega arith);
      x = odd tx (m / 2) (omega arith);
      y = odd ty (m / 4) (omega arith);
      word = odd tw (m / 8) (omega arith);
      b = odd tb (m / 16) (omega arith);
      stop = odd ts (m / 32) (omega arith);
      few = omega arith;
    }

-- A, X, Y and the word are marked exactly when they changed.
abbrev pub Marks : Machine → Machine → Word → Type 0
Marks old new w = Bits (differs old.a new.a) (differs old.x new.x) (differs old.y new.y) (word_changed w) old.b old.stop

pub marks : (old new : Machine) (w : Word) → Marks old new w
marks old new w = bits (differs old.a new.a) (differs old.x new.x) (differs old.y new.y) (word_changed w) old.b old.stop

-- ---- the old values of an operation are such as a record can hold

good_if : (t : Bool) (bound n : ℕ) → n < bound → GoodIf t bound (cond t n 0)
good_if true bound n h = h
good_if false bound n h = refl

pub good_place : (w : Word) → Addressed w → GoodIf (word_changed w) (2 ^ 21) (word_place w)
good_place None h = refl
good_place (Some w) h = go w.place h
  where
    go : (q : Place) → (where_of q).1 < 2 ^ 20 → place_number q < 2 ^ 21
    go (Main n) l = omega arith
    go (Port n) l = omega arith

good_value : (w : Word) → word_value w < 2 ^ 32 → GoodIf (word_changed w) (2 ^ 32) (word_value w)
good_value None h = refl
good_value (Some w) h = h

-- P and the address of the word that changed are below 2^20, and the registers and the word's old value below 2^32.
pub record Sound (old : Machine) (w : Word) : Type 0 where
  pub p : old.p < 2 ^ 20
  pub a : old.a < 2 ^ 32
  pub x : old.x < 2 ^ 32
  pub y : old.y < 2 ^ 32
  pub address : Addressed w
  pub value : word_value w < 2 ^ 32

kind_few : (k : Kind) → kind_number k < 5
kind_few FromOld = omega arith
kind_few Step = omega arith
kind_few Reset = omega arith
kind_few Force = omega arith
kind_few Set = omega arith

pub old_values_good : (k : Kind) {old : Machine} (new : Machine) {w : Word} → Sound old w → Good (2 ^ 21) (old_values k old new w)
unfolding old_values
old_values_good k {old} new {w} s =
    let m = marks old new w in
    record {
      kind = kind_few k;
      marks = m.few;
      p = s.p;
      a = rw m.a (good_if (differs old.a new.a) (2 ^ 32) old.a s.a);
      x = rw m.x (good_if (differs old.x new.x) (2 ^ 32) old.x s.x);
      y = rw m.y (good_if (differs old.y new.y) (2 ^ 32) old.y s.y);
      place = rw m.word (good_place w s.address);
      value = rw m.word (good_value w s.value);
    }
