-- `newest` meets its contract: L and the tests on it, then what `read_record` finds, then whether the word's place is fitted.
-- Assumes nothing.
use Prim.Native.Nat.{ℕ, ◌-◌, ◌^◌, ◌<◌, ◌≤◌}
use mathlib.Core.Bool.{Bool, true, false, cond}
use mathlib.Core.List.{List}
use mathlib.Core.Path.{◌≡◌, refl, ap, sym, ◌∙◌}
use native.Mathlib.Omega.{arith}
use lib.ListN.{length, get_or}
use lib.Seq.{slice}
use Rattle.std.specs.Prelude.{Result, Ok}
use Rattle.trail.specs.declared.Newest.{Newest}
use Rattle.trail.specs.declared.Broken.{Broken}
use Rattle.trail.specs.Newest.{fits, newest_fitted, only_fitted, broken_record, leaving, read_in_form}
use Rattle.trail.specs.Numbers.{read_below}
use Rattle.trail.specs.Records.{marked, where_of_number}
use Rattle.trail.proofs.NewestReadsBack.{too_short, too_long, past_the_first, by_L}
use Rattle.reading.specs.Finding.{read_of, word_fits}
use Rattle.reading.proofs.ReadingNumbers.{next_byte, no_next_byte, the_error}
use Rattle.reading.proofs.from_end.newest.Goals as goal

-- The last byte in use is read as L, below 29.
module _ (s : List ℕ) (used : ℕ) (known : (0 < used) × (used ≤ length s)) {old : List ℕ} (made : old ≡ slice (used - 1) used s) {r : Result ℕ Broken} (rest : List ℕ) {l : ℕ} (read : read_below 29 old ≡ read_of r rest) (is : r ≡ Ok l) where
  L : (get_or s (used - 1) 0 ≡ l) × (l < 29)
  L = let b = next_byte s (used - 1) used 29 (omega arith) (omega arith) (omega arith) made rest read is in (b.0, b.1)

  -- Where L is neither too small nor past the first byte, the newest record is what is read of the bytes before it.
  found : (main ports : ℕ) → 3 ≤ l → l ≤ used - 1 → {n : Result Newest Broken} → n ≡ leaving (used - 1 - l) (read_in_form true (2 ^ 21) (slice (used - 1 - l) (used - 1) s)) → newest_fitted main ports s used ≡ only_fitted main ports n
  unfolding newest_fitted
  found main ports h p e = rw (by_L true (2 ^ 21) s used (omega (arith, L)) (omega (arith, L)) (omega (arith, L)), L.0) (ap (only_fitted main ports) (sym e))

-- The word is fitted, or it is not.
stays : (main ports : ℕ) (r : Newest) → word_fits main ports r.values ≡ true → only_fitted main ports (Ok r) ≡ Ok r
stays main ports r h = go (marked 8 r.values.marks) h
  where
    go : (t : Bool) → cond t (fits main ports (where_of_number r.values.place)) true ≡ true → cond t (cond (fits main ports (where_of_number r.values.place)) (Ok r) broken_record) (Ok r) ≡ Ok r
    go true e = rw e
    go false e = refl

goes : (main ports : ℕ) (r : Newest) → word_fits main ports r.values ≡ false → only_fitted main ports (Ok r) ≡ broken_record
goes main ports r h = go (marked 8 r.values.marks) h
  where
    go : (t : Bool) → cond t (fits main ports (where_of_number r.values.place)) true ≡ false → cond t (cond (fits main ports (where_of_number r.values.place)) (Ok r) broken_record) (Ok r) ≡ broken_record
    go true e = rw e
    go false e = let z : true ≡ false = e in absurd (cc)

pub returns-in_err-l : goal.returns-in_err-l
unfolding newest_fitted
returns-in_err-l c =
    let a = c.args in
    let l = no_next_byte a.trail.now (a.used - 1) a.used 29 (omega arith) (omega arith) (omega arith) c.new.ensures _ c.next_number.ensures.reads c.in_err-l.was in
    rw (the_error c.from_residual.result c.from_residual.ensures.0, too_long true (2 ^ 21) a.trail.now a.used l)

pub returns-then-n-lt-SHORTEST : goal.returns-then-n-lt-SHORTEST
unfolding newest_fitted
returns-then-n-lt-SHORTEST c =
    let l = L c.args.trail.now c.args.used c.requires c.new.ensures _ c.next_number.ensures.reads c.in_ok-l.was in
    rw (too_short true (2 ^ 21) c.args.trail.now c.args.used (omega arith))

pub returns-then-end-n : goal.returns-then-end-n
unfolding newest_fitted
returns-then-end-n c =
    let l = L c.args.trail.now c.args.used c.requires c.new.ensures _ c.next_number.ensures.reads c.in_ok-l.was in
    rw (past_the_first true (2 ^ 21) c.args.trail.now c.args.used (omega arith) (omega arith) (omega arith))

pub returns-in_err-record : goal.returns-in_err-record
returns-in_err-record c =
    let a = c.args in
    rw (the_error c.from_residual-in_err-record.result c.from_residual-in_err-record.ensures.0)
    (sym (found a.trail.now a.used c.requires c.new.ensures _ c.next_number.ensures.reads c.in_ok-l.was a.main a.ports c.if-n-lt-SHORTEST.false c.if-end-n.false c.in_err-record.ensures))

pub returns-then-is_fitted : goal.returns-then-is_fitted
returns-then-is_fitted c =
    let a = c.args in
    sym (found a.trail.now a.used c.requires c.new.ensures _ c.next_number.ensures.reads c.in_ok-l.was a.main a.ports c.if-n-lt-SHORTEST.false c.if-end-n.false c.in_ok-record.ensures
    ∙ stays a.main a.ports c.in_ok-record.record (sym c.is_fitted.ensures ∙ c.if-is_fitted.true))

pub returns : goal.returns
returns c =
    let a = c.args in
    sym (found a.trail.now a.used c.requires c.new.ensures _ c.next_number.ensures.reads c.in_ok-l.was a.main a.ports c.if-n-lt-SHORTEST.false c.if-end-n.false c.in_ok-record.ensures
    ∙ goes a.main a.ports c.in_ok-record.record (sym c.is_fitted.ensures ∙ c.if-is_fitted.false))
