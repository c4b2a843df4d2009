-- `newest_start` meets its contract: L and the tests on it, then what `read_record` finds.
-- Assumes nothing.
use Prim.Native.Nat.{ℕ, ◌+◌, ◌-◌, ◌^◌, ◌<◌, ◌≤◌}
use mathlib.Core.Path.{◌≡◌}
use mathlib.Core.Bool.{Bool, true, false}
use mathlib.Core.List.{List}
use native.Mathlib.Omega.{arith}
use lib.ListN.{length, get_or}
use lib.Seq.{slice}
use Rattle.report.specs.AnnexA.{BV}
use Rattle.trail.specs.Numbers.{read_below}
use Rattle.reading.specs.Finding.{Number, number_of, read_broken, read_up_to}
use Rattle.reading.proofs.ReadingNumbers.{is_byte, no_byte, the_error}
use Rattle.trail.proofs.NewestReadsBack.{too_short, too_long, past_the_first}
use Rattle.moving.proofs.Counting.{by_record}
use Rattle.moving.proofs.judging.newest_start.Goals as goal

bit : (t : Bool) → BV t ≤ 1
bit true = omega arith
bit false = omega arith

-- r is what the code found of the byte of L, which is below 28, or 29 in a form with kinds.
module _ (kinds : Bool) (s : List ℕ) (used : ℕ) (some_used : 0 < used) (fits : used ≤ length s) {lead : ℕ} (leads : lead ≡ BV kinds)
    {r : Number} (p : r ≡ number_of used (read_below (28 + lead) (slice (used - 1) used s))) where
  is_L : {l next : ℕ} → r ≡ read_up_to l next → (get_or s (used - 1) 0 ≡ l) × (l < 28 + BV kinds)
  is_L e =
      let small = bit kinds in
      rw leads at (is_byte s (used - 1) used (28 + lead) (omega arith) fits (omega arith) p e)

  no_L : r ≡ read_broken → 27 + BV kinds < get_or s (used - 1) 0
  no_L e =
      let small = bit kinds in
      omega (arith, no_byte s (used - 1) used (28 + lead) (omega arith) fits (omega arith) p e)

pub returns-in_err-l : goal.returns-in_err-l
returns-in_err-l c =
    rw (
      the_error c.from_residual.result c.from_residual.ensures.0,
      too_long c.args.kinds (2 ^ 21) c.args.s.now c.args.used (no_L c.args.kinds c.args.s.now c.args.used c.requires.0 c.requires.1 c.kind_bytes-lead.ensures c.read_number.ensures c.in_err-l.was),
    )

pub returns-then-n-lead : goal.returns-then-n-lead
returns-then-n-lead c =
    let l = is_L c.args.kinds c.args.s.now c.args.used c.requires.0 c.requires.1 c.kind_bytes-lead.ensures c.read_number.ensures c.in_ok-l.was in
    rw (too_short c.args.kinds (2 ^ 21) c.args.s.now c.args.used (omega (arith, l, c.if-n-lead.true, c.kind_bytes-lead.ensures)))

pub returns-then-end-n : goal.returns-then-end-n
returns-then-end-n c =
    let l = is_L c.args.kinds c.args.s.now c.args.used c.requires.0 c.requires.1 c.kind_bytes-lead.ensures c.read_number.ensures c.in_ok-l.was in
    rw (past_the_first c.args.kinds (2 ^ 21) c.args.s.now c.args.used (omega (arith, l, c.kind_bytes-lead.ensures, c.if-n-lead.false)) (omega (arith, l)) (omega (arith, l, c.if-end-n.true)))

pub returns-in_err-record : goal.returns-in_err-record
returns-in_err-record c =
    let l = is_L c.args.kinds c.args.s.now c.args.used c.requires.0 c.requires.1 c.kind_bytes-lead.ensures c.read_number.ensures c.in_ok-l.was in
    rw (the_error c.from_residual-in_err-record.result c.from_residual-in_err-record.ensures.0)
    (by_record c.args.kinds c.args.s.now c.args.used c.in_ok-l.l l.0 (omega (arith, c.if-n-lead.false, c.kind_bytes-lead.ensures)) (omega (arith, l)) c.if-end-n.false c.read_record.ensures c.in_err-record.was)

pub returns : goal.returns
returns c =
    let l = is_L c.args.kinds c.args.s.now c.args.used c.requires.0 c.requires.1 c.kind_bytes-lead.ensures c.read_number.ensures c.in_ok-l.was in
    by_record c.args.kinds c.args.s.now c.args.used c.in_ok-l.l l.0 (omega (arith, c.if-n-lead.false, c.kind_bytes-lead.ensures)) (omega (arith, l)) c.if-end-n.false c.read_record.ensures c.in_ok-record.was
