-- Document 02, W12, over the definition of a move: what is accepted, what a move there and back gives, and how long it is.
-- Assumes nothing.
use Prim.Native.Nat.{ℕ, ◌+◌, ◌<◌, ◌≤◌}
use mathlib.Core.Path.{◌≡◌, refl, ap, sym, ◌∙◌}
use mathlib.Core.Bool.{Bool, true, false, not, cond}
use mathlib.Core.Option.{Option, none, some}
use mathlib.Core.List.{List, [], ◌∷◌, ◌++◌, map}
use native.Mathlib.Omega.{arith}
use lib.Dec.{ltb}
use lib.ListN.{length, take, drop}
use lib.Seq.{take_at}
use borrow.Author.Tests.{ltb-true, ltb-false, lt-ltb, le-ltb}
use Rattle.trail.specs.declared.Kind.TheVariants.{FromOld}
use Rattle.trail.specs.declared.OldValues.{OldValues}
use Rattle.trail.specs.Records.{record_in}
use Rattle.std.specs.Prelude.{Ok, Err}
use Rattle.moving.specs.declared.MoveRefusal.TheVariants as refusal
use Rattle.moving.specs.Rows.{row, GoodRow, records}
use Rattle.moving.specs.Moving.{Moved, put_records, move}
use Rattle.moving.proofs.Entries.{kind_small}
use Rattle.moving.proofs.Division.{reads, only, row_lengths}

-- ---- a move is accepted exactly if the bytes are some records in a row, and the output holds them, moved

-- The input is the row of these records, and the output after the move begins with that row in the other form.
pub record Accepted (new : Bool) (s out : List ℕ) (n : ℕ) (out' : List ℕ) : Type 0 where
  pub entries : List OldValues
  pub good : GoodRow (not new) entries
  pub input : s ≡ row (not new) entries
  pub count : n ≡ length (row new entries)
  pub room : n ≤ length out
  pub output : out' ≡ row new entries ++ drop n out

-- The same, refused.
pub record Refused (new : Bool) (s out : List ℕ) : Type 0 where
  pub entries : List OldValues
  pub good : GoodRow (not new) entries
  pub input : s ≡ row (not new) entries
  pub short : length out < length (row new entries)

pub accepted : (new : Bool) (es : List OldValues) (out : List ℕ) → GoodRow (not new) es → length (row new es) ≤ length out
    → move new (row (not new) es) out ≡ (Ok (length (row new es)), row new es ++ drop (length (row new es)) out)
unfolding move
accepted new es out g h = rw (reads (not new) es g, le-ltb (length out) (length (row new es)) h)

pub refused_short : (new : Bool) (es : List OldValues) (out : List ℕ) → GoodRow (not new) es → length out < length (row new es)
    → move new (row (not new) es) out ≡ (Err refusal.Short, out)
unfolding move
refused_short new es out g h = rw (reads (not new) es g, lt-ltb (length out) (length (row new es)) h)

-- Each answer, and what it says.
abbrev pub Says : Bool → List ℕ → List ℕ → List ℕ → Moved → Type 0
Says new s out out' (Ok n) = Accepted new s out n out'
Says new s out out' (Err refusal.Short) = Refused new s out × (out' ≡ out)
Says new s out out' (Err refusal.Broken) = ((es : List OldValues) → GoodRow (not new) es → s ≡ row (not new) es → ⊥) × (out' ≡ out)

pub says : (new : Bool) (s out : List ℕ) → Says new s out (move new s out).1 (move new s out).0
unfolding move
says new s out = go (records (not new) s) refl
  where
    fits : (es : List OldValues) (t : Bool) → records (not new) s ≡ some es → ltb (length out) (length (row new es)) ≡ t
        → let r = cond {A = Moved × List ℕ} t (Err refusal.Short, out) (Ok (length (row new es)), row new es ++ drop (length (row new es)) out) in Says new s out r.1 r.0
    fits es true e f =
        let w = only (not new) s es e in
        (record { entries = es; good = w.1; input = w.0; short = ltb-true (length out) (length (row new es)) f }, refl)
    fits es false e f =
        let w = only (not new) s es e in
        record { entries = es; good = w.1; input = w.0; count = refl; room = ltb-false (length out) (length (row new es)) f; output = refl }

    go : (r : Option (List OldValues)) → records (not new) s ≡ r → Says new s out (put_records new r out).1 (put_records new r out).0
    go none e = (
      λ es g p.
          let q : ◌≡◌ {A = Option (List OldValues)} none (some es) = sym e ∙ ap (records (not new)) p ∙ reads (not new) es g in
          let z : ◌≡◌ {A = ℕ} 0 1 = cc in
          absurd (omega arith),
      refl,
    )
    go (some es) e = fits es (ltb (length out) (length (row new es))) e refl

-- The bytes that were written.
pub written : {new : Bool} {s out : List ℕ} {n : ℕ} {out' : List ℕ} (a : Accepted new s out n out') → take n out' ≡ row new a.entries
written {new} {s} {out} {n} {out'} a =
    ap (take n) a.output ∙ take_at (row new a.entries) (drop n out) n (sym a.count)

-- ---- how long the moved trail is

pub longer : {s out : List ℕ} {n : ℕ} {out' : List ℕ} (a : Accepted true s out n out') → n ≡ length s + length a.entries
longer {s} {out} {n} {out'} a =
    omega (arith, a.count, row_lengths a.entries, ap length a.input)

pub shorter : {s out : List ℕ} {n : ℕ} {out' : List ℕ} (a : Accepted false s out n out') → n + length a.entries ≡ length s
shorter {s} {out} {n} {out'} a =
    omega (arith, a.count, row_lengths a.entries, ap length a.input)

-- ---- there and back

-- Records of an old trail are good records of a new one.
pub good_new : (es : List OldValues) → GoodRow false es → GoodRow true es
good_new [] g = tt
good_new (e ∷ es) g = (record { kind = kind_small e.kind; marks = g.0.marks; p = g.0.p; a = g.0.a; x = g.0.x; y = g.0.y; place = g.0.place; value = g.0.value }, good_new es g.1)

-- Old to new to old gives the same bytes.
pub there_and_back : {s out : List ℕ} {n : ℕ} {out' : List ℕ} → Accepted true s out n out' → (out₂ : List ℕ) → length s ≤ length out₂
    → move false (take n out') out₂ ≡ (Ok (length s), s ++ drop (length s) out₂)
there_and_back {s} {out} {n} {out'} a out₂ h =
    rw (written a, a.input)
    (accepted false a.entries out₂ (good_new a.entries a.good) (omega (arith, ap length a.input)))

-- The same records, with each kind 0.
abbrev pub kind_zero : OldValues → OldValues
kind_zero e = record { kind = FromOld; marks = e.marks; p = e.p; a = e.a; x = e.x; y = e.y; place = e.place; value = e.value }

pub zero_good : (es : List OldValues) → GoodRow true es → GoodRow false (map kind_zero es)
zero_good [] g = tt
zero_good (e ∷ es) g = (record { kind = refl; marks = g.0.marks; p = g.0.p; a = g.0.a; x = g.0.x; y = g.0.y; place = g.0.place; value = g.0.value }, zero_good es g.1)

-- In the old form they have the same bytes.
zero_entry : (e : OldValues) → record_in false (kind_zero e) ≡ record_in false e
unfolding record_in
zero_entry e = refl

pub zero_row : (es : List OldValues) → row false (map kind_zero es) ≡ row false es
zero_row [] = refl
zero_row (e ∷ es) = rw (zero_row es, zero_entry e)

-- New to old to new gives the same with each kind 0.
pub back_and_there : {s out : List ℕ} {n : ℕ} {out' : List ℕ} (a : Accepted false s out n out') → (out₂ : List ℕ) → length s ≤ length out₂
    → move true (take n out') out₂ ≡ (Ok (length s), row true (map kind_zero a.entries) ++ drop (length s) out₂)
back_and_there {s} {out} {n} {out'} a out₂ h =
    let es = map kind_zero a.entries in
    let l : length (row true es) ≡ length s = zero_length a in
    rw (written a, ← zero_row a.entries, ← l) (accepted true es out₂ (zero_good a.entries a.good) (omega arith))
  where
    map_length : (es : List OldValues) → length (map kind_zero es) ≡ length es
    map_length [] = refl
    map_length (e ∷ es) = omega (arith, map_length es)

    zero_length : (a : Accepted false s out n out') → length (row true (map kind_zero a.entries)) ≡ length s
    zero_length a =
        let es = a.entries in
        omega (arith, row_lengths (map kind_zero es), row_lengths es, ap length (zero_row es), map_length es, ap length a.input)

-- ---- the two readings: a moved trail is taken back value by value as the old one was

-- Read in its form, it holds the same records.
pub same_values : {s out : List ℕ} {n : ℕ} {out' : List ℕ} (a : Accepted true s out n out') → records true (take n out') ≡ records false s
same_values {s} {out} {n} {out'} a =
    rw (written a, a.input) (reads true a.entries (good_new a.entries a.good) ∙ sym (reads false a.entries a.good))
