-- What C sees is what the call's own contract says, with its answer as a number.
-- Assumes nothing.
use Rattle.std.specs.Prelude.{Result, Ok, Err}
use Prim.Native.Nat.{ℕ, ◌+◌, ◌<◌, ◌≤◌, ◌/◌, ◌^◌}
use mathlib.Core.Path.{◌≡◌, refl}
use mathlib.Core.Bool.{Bool, true, false, cond}
use mathlib.Core.List.{List}
use native.Mathlib.Omega.{arith}
use lib.Dec.{ltb, eqb}
use lib.ListN.{length}
use borrow.Author.Tests.{ltb-true, ltb-false}
use Rattle.listing.specs.Listing.{answer, Lists}
use Rattle.listing.proofs.Lengths.{listing_at_most}
use Rattle.listing.proofs.Answers.{answered}
use Rattle.listing.specs.declared.store.ListRefusal.TheVariants.{StoreTooLong}
use Rattle.listing.specs.declared.store.ListRefusal.{ListRefusal}
use Rattle.intel_hex.specs.Exported.{blocks, exported_length, export_answer, Exports}
use Rattle.intel_hex.specs.declared.exporting.ExportRefusal.{ExportRefusal}
use Rattle.intel_hex.specs.declared.exporting.ExportRefusal.TheVariants.{MainTooLong, OutTooShort}
use Rattle.intel_hex.specs.Imported.{used_after, Imports}
use Rattle.intel_hex.specs.declared.importing.ImportRefusal.{ImportRefusal}
use Rattle.surface.specs.Texts.{list_number, listed, line_number, import_number, imported, export_number, exported, Countable}

pub list_seen : {main out after : List ℕ} {answer : Result ℕ ListRefusal} {n : ℕ} → Lists main out answer after → n ≡ list_number answer
    → ◌≡◌ {A = ℕ × List ℕ} (n, after) (listed main out)
list_seen l e = rw (e, l.answer_is, l.output_is)

-- The bytes of a listing fit the low half.
pub list_within : (main : List ℕ) (room n : ℕ) → answer main room ≡ Ok n → n < 2 ^ 32
unfolding answer
list_within main room n e = go (ltb (2 ^ 20) (length main)) refl
  where
    go : (t : Bool) → ltb (2 ^ 20) (length main) ≡ t → n < 2 ^ 32
    go true h = let f : Err StoreTooLong ≡ Ok n = rw h at e in cc
    go false h = omega (arith, answered main room n e, listing_at_most main, ltb-false (2 ^ 20) (length main) h)

pub import_seen : (main text : List ℕ) (used : ℕ) {after : List ℕ} {answer : Result ℕ ImportRefusal} {n left : ℕ} → Imports main text answer after
    → (n ≡ import_number answer) × (left ≡ used_after answer used)
    → ◌≡◌ {A = ℕ × List ℕ × ℕ} (n, after, left) (imported main used text)
import_seen main text used i e = rw (e.0, e.1, i.answer_is, i.main_is)

pub export_seen : {main out after : List ℕ} {answer : Result ℕ ExportRefusal} {n : ℕ} → Exports main out answer after → n ≡ export_number answer
    → ◌≡◌ {A = ℕ × List ℕ} (n, after) (exported main out)
export_seen x e = rw (e, x.answer_is, x.out_is)

-- A line's number fits 32 bits.
pub line_within : (n : ℕ) → line_number n < 2 ^ 32
line_within n = go (ltb n (2 ^ 32)) refl
  where
    go : (t : Bool) → ltb n (2 ^ 32) ≡ t → cond t n 4294967295 < 2 ^ 32
    go true e = ltb-true n (2 ^ 32) e
    go false e = omega arith

-- The bytes of an export do too: they are 11,535,372 at most.
blocks_within : (n : ℕ) → n ≤ 1048576 → blocks n ≤ 64
blocks_within n h = go (eqb n 0)
  where
    go : (t : Bool) → cond t 1 ((n + 16383) / 16384) ≤ 64
    go true = omega arith
    go false = omega arith

length_within : (n : ℕ) → n ≤ 1048576 → exported_length n < 2 ^ 32
unfolding exported_length
length_within n h = omega (arith, blocks_within n h)

answer_countable : (n room : ℕ) → Countable (export_answer n room)
unfolding export_answer
answer_countable n room = go (ltb 1048576 n) refl (ltb room (exported_length n))
  where
    go : (t : Bool) → ltb 1048576 n ≡ t → (s : Bool) → Countable (cond t (Err MainTooLong) (cond s (Err OutTooShort) (Ok (exported_length n))))
    go true e s = tt
    go false e true = tt
    go false e false = length_within n (ltb-false 1048576 n e)

pub export_countable : {main out after : List ℕ} {answer : Result ℕ ExportRefusal} → Exports main out answer after → Countable answer
export_countable {main} {out} x = rw x.answer_is (answer_countable (length main) (length out))
