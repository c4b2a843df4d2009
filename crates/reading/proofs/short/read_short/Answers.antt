-- `read_short` meets its contract: L below 5, the kind, and then two bytes or three, of which the first is the marks.
-- Assumes nothing.
use Prim.Native.Nat.{ℕ, suc, ◌-◌, ◌%◌, ◌<◌, ◌≤◌}
use mathlib.Core.Path.{◌≡◌, refl}
use mathlib.Core.List.{List}
use native.Mathlib.Omega.{arith}
use lib.ListN.{length, get_or}
use lib.Seq.{slice}
use Rattle.std.specs.Prelude.{Result, Ok, Err}
use Rattle.trail.specs.declared.Broken.{Broken}
use Rattle.trail.specs.declared.Kind.{Kind}
use Rattle.trail.specs.Records.{kind_read}
use Rattle.trail.specs.Newest.{newest_fitted}
use Rattle.trail.specs.Numbers.{read_below}
use Rattle.reading.specs.Finding.{MarksAt, Tells, TwoBytes, after_kind, read_of, read_up_to, with_value}
use Rattle.reading.specs.declared.short.MarkedRecord.{MarkedRecord}
use Rattle.reading.proofs.ReadingNumbers.{kind_unread, next_byte, no_next_byte, the_error}
use Rattle.reading.proofs.ShortRecords.{tells_newest, too_few, past, marks_broken, pair_broken, pair_says, kind_large, tells_kind}
use Rattle.reading.proofs.short.read_short.Goals as goal

-- A record that is broken.
abbrev bad : Result MarkedRecord Broken
bad = Err (record {})

-- The last byte in use is read as L, below 5.
module _ (s : List ℕ) (used : ℕ) (known : (0 < used) × (used ≤ length s)) {old : List ℕ} (made : old ≡ slice (used - 1) used s) {r : Result ℕ Broken} (rest : List ℕ) {l : ℕ} (read : read_below 5 old ≡ read_of r rest) (is : r ≡ Ok l) where
  L : (get_or s (used - 1) 0 ≡ l) × (l < 5)
  L = let b = next_byte s (used - 1) used 5 (omega arith) (omega arith) (omega arith) made rest read is in (b.0, b.1)

  -- The first byte that L counts is read as the kind: what is told of the j bytes after it is told of the newest record.
  kind_read_at : 3 ≤ l → l ≤ used - 1 → {kind : Kind} → Ok kind ≡ kind_read (get_or s (used - 1 - l) 0)
      → (j : ℕ) → l ≡ suc j → (found : Result MarkedRecord Broken) → Tells found (after_kind kind s (used - 1) j)
      → (main ports : ℕ) → Tells found (newest_fitted main ports s used)
  kind_read_at low inside {kind} read₂ = tells_kind s used l L.0 low (omega (arith, L)) inside (omega arith) kind read₂

  -- The same where L is not 3, and so 4.
  kind_read_4 : 3 ≤ l → l ≤ used - 1 → (l ≡ 3 → ⊥) → {kind : Kind} → Ok kind ≡ kind_read (get_or s (used - 1 - l) 0)
      → (found : Result MarkedRecord Broken) → (4 ≤ used - 1 → Tells found (after_kind kind s (used - 1) 3))
      → (main ports : ℕ) → Tells found (newest_fitted main ports s used)
  kind_read_4 low inside more read₂ found tells = kind_read_at low inside read₂ 3 (omega (arith, L)) found (tells (omega (arith, L)))

-- The third byte before L is read as the marks.
marks_read : (s : List ℕ) (end : ℕ) → 3 ≤ end → end < length s → {old : List ℕ} → old ≡ slice (end - 3) (end - 2) s → {r : Result ℕ Broken} (rest : List ℕ) → read_below 64 old ≡ read_of r rest → {m : ℕ} → r ≡ Ok m → MarksAt s (end - 3) m
marks_read s end h fits made rest read is =
    let m = next_byte s (end - 3) (end - 2) 64 (omega arith) (omega arith) (omega arith) made rest read is in
    record { byte = m.0; small = m.1 }

pub returns-then-l-lt-SHORTEST : goal.returns-then-l-lt-SHORTEST
returns-then-l-lt-SHORTEST c =
    let l = L c.args.trail.now c.args.used c.requires c.new.ensures _ c.next_number.ensures.reads c.in-Ok.is in
    too_few c.args.trail.now c.args.used (omega arith)

pub returns-then-end-l : goal.returns-then-end-l
returns-then-end-l c =
    let a = c.args in
    let l = L a.trail.now a.used c.requires c.new.ensures _ c.next_number.ensures.reads c.in-Ok.is in
    tells_newest a.trail.now a.used _ bad l.0 (past a.trail.now (a.used - 1) _ c.if-l-lt-SHORTEST.false (omega arith) c.if-end-l.true)

pub returns-in_err-kind : goal.returns-in_err-kind
returns-in_err-kind c =
    let s = c.args.trail.now in
    let end = c.args.used - 1 in
    let n = c.in-Ok.n in
    let l = L s c.args.used c.requires c.new.ensures _ c.next_number.ensures.reads c.in-Ok.is in
    let large = kind_unread (get_or s (end - n) 0) c.in_err-kind.field-0.0 c.in_err-kind.ensures in
    rw (the_error c.from_residual.result c.from_residual.ensures.0)
    (tells_newest s c.args.used n bad l.0 (kind_large s end n c.if-l-lt-SHORTEST.false (omega arith) c.if-end-l.false (omega arith) large))

pub returns-in_err-two_bytes : goal.returns-in_err-two_bytes
returns-in_err-two_bytes c =
    rw (the_error c.from_residual-in_err-two_bytes.result c.from_residual-in_err-two_bytes.ensures.0)
    (kind_read_at c.args.trail.now c.args.used c.requires c.new.ensures _ c.next_number.ensures.reads c.in-Ok.is c.if-l-lt-SHORTEST.false c.if-end-l.false c.in_ok-kind.ensures
    2 c.if-l-eq-SHORTEST.true bad c.in_err-two_bytes.ensures)

pub returns-then-l-eq-SHORTEST : goal.returns-then-l-eq-SHORTEST
returns-then-l-eq-SHORTEST c =
    kind_read_at c.args.trail.now c.args.used c.requires c.new.ensures _ c.next_number.ensures.reads c.in-Ok.is c.if-l-lt-SHORTEST.false c.if-end-l.false c.in_ok-kind.ensures
    2 c.if-l-eq-SHORTEST.true (Ok c.in_ok-two_bytes.field-0) c.in_ok-two_bytes.ensures

pub returns-in_err-marks : goal.returns-in_err-marks
returns-in_err-marks c =
    let s = c.args.trail.now in
    let end = c.args.used - 1 in
    let large = no_next_byte s (end - 3) (end - 2) 64 (omega arith) (omega arith) (omega arith) c.new-2.ensures _ c.next_number-2.ensures.reads c.in_err-marks.was in
    rw (the_error c.from_residual-in_err-marks.result c.from_residual-in_err-marks.ensures.0)
    (kind_read_4 s c.args.used c.requires c.new.ensures _ c.next_number.ensures.reads c.in-Ok.is c.if-l-lt-SHORTEST.false c.if-end-l.false c.if-l-eq-SHORTEST.false c.in_ok-kind.ensures
    bad (λ four. marks_broken c.in_ok-kind.kind s end 3 (get_or s (end - 3) 0) (omega arith) four (omega arith) refl large))

pub wide_p-requires : goal.wide_p-requires
wide_p-requires c =
    let l = L c.args.trail.now c.args.used c.requires c.new.ensures _ c.next_number.ensures.reads c.in-Ok.is in
    (omega arith, omega arith, marks_read c.args.trail.now (c.args.used - 1) (omega arith) (omega arith) c.new-2.ensures _ c.next_number-2.ensures.reads c.in_ok-marks.was, c.if-marks-eq0.true)

pub returns-in_err-wide_p : goal.returns-in_err-wide_p
returns-in_err-wide_p c =
    rw (the_error c.from_residual-in_err-wide_p.result c.from_residual-in_err-wide_p.ensures.0)
    (kind_read_4 c.args.trail.now c.args.used c.requires c.new.ensures _ c.next_number.ensures.reads c.in-Ok.is c.if-l-lt-SHORTEST.false c.if-end-l.false c.if-l-eq-SHORTEST.false c.in_ok-kind.ensures
    bad (λ four. c.in_err-wide_p.ensures))

pub returns-then-marks-eq0 : goal.returns-then-marks-eq0
returns-then-marks-eq0 c =
    kind_read_4 c.args.trail.now c.args.used c.requires c.new.ensures _ c.next_number.ensures.reads c.in-Ok.is c.if-l-lt-SHORTEST.false c.if-end-l.false c.if-l-eq-SHORTEST.false c.in_ok-kind.ensures
    (Ok c.in_ok-wide_p.field-0) (λ four. c.in_ok-wide_p.ensures)

pub returns-in_err-p : goal.returns-in_err-p
returns-in_err-p c =
    let s = c.args.trail.now in
    let end = c.args.used - 1 in
    let marks = marks_read s end (omega arith) (omega arith) c.new-2.ensures _ c.next_number-2.ensures.reads c.in_ok-marks.was in
    rw (the_error c.from_residual-in_err-p.result c.from_residual-in_err-p.ensures.0)
    (kind_read_4 s c.args.used c.requires c.new.ensures _ c.next_number.ensures.reads c.in-Ok.is c.if-l-lt-SHORTEST.false c.if-end-l.false c.if-l-eq-SHORTEST.false c.in_ok-kind.ensures
    bad (λ four. pair_broken c.in_ok-kind.kind s end _ four (omega arith) marks c.if-marks-eq0.false c.in_err-p.ensures))

-- P and the value are read: what is made of them is told.
module _ (s : List ℕ) (end : ℕ) (kind : Kind) (m : ℕ) (marks : MarksAt s (end - 3) m) (some : m % 16 ≡ 0 → ⊥) (fits : end < length s) {p v : ℕ} (two : TwoBytes s end (read_up_to p v)) where
  value_told : {r : Result MarkedRecord Broken} → r ≡ with_value kind m p v (end - 4) → 4 ≤ end → Tells r (after_kind kind s end 3)
  value_told e four = rw e (pair_says kind s end m four fits marks some p v two)

pub returns-in_err-with_value : goal.returns-in_err-with_value
returns-in_err-with_value c =
    let s = c.args.trail.now in
    let end = c.args.used - 1 in
    let marks = marks_read s end (omega arith) (omega arith) c.new-2.ensures _ c.next_number-2.ensures.reads c.in_ok-marks.was in
    rw (the_error c.from_residual-in_err-with_value.result c.from_residual-in_err-with_value.ensures.0)
    (kind_read_4 s c.args.used c.requires c.new.ensures _ c.next_number.ensures.reads c.in-Ok.is c.if-l-lt-SHORTEST.false c.if-end-l.false c.if-l-eq-SHORTEST.false c.in_ok-kind.ensures
    bad (value_told s end c.in_ok-kind.kind c.in_ok-marks.marks marks c.if-marks-eq0.false (omega arith) c.in_ok-p.ensures c.in_err-with_value.ensures))

pub returns : goal.returns
returns c =
    let s = c.args.trail.now in
    let end = c.args.used - 1 in
    let marks = marks_read s end (omega arith) (omega arith) c.new-2.ensures _ c.next_number-2.ensures.reads c.in_ok-marks.was in
    kind_read_4 s c.args.used c.requires c.new.ensures _ c.next_number.ensures.reads c.in-Ok.is c.if-l-lt-SHORTEST.false c.if-end-l.false c.if-l-eq-SHORTEST.false c.in_ok-kind.ensures
    (Ok c.in_ok-with_value.field-0) (value_told s end c.in_ok-kind.kind c.in_ok-marks.marks marks c.if-marks-eq0.false (omega arith) c.in_ok-p.ensures c.in_ok-with_value.ensures)
