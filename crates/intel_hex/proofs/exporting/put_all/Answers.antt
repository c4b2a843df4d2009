-- The first type 04 record, the rows, the end record.
-- Assumes nothing.
use Prim.Native.Nat.{ℕ, ◌+◌, ◌/◌}
use mathlib.Core.Path.{◌≡◌, ap}
use native.Mathlib.Omega.{arith}
use lib.ListN.{length, length-append}
use mathlib.Core.List.{append-nil, append_assoc}
use Rattle.intel_hex.specs.Exported.{exported, upper_line, end_line, row, rows}
use Rattle.intel_hex.proofs.Lengths.{whole_length, upper_length, rows_room, one_row_more}
use Rattle.text.proofs.Placing.{put_then}
use Rattle.intel_hex.proofs.exporting.put_all.Goals as goal

pub put_line-at-requires : goal.put_line-at-requires
put_line-at-requires c = (omega (arith, whole_length c.args.main.now), omega arith)

pub loop-i-init : goal.loop-i-init
unfolding upper_line rows
loop-i-init c = (c.put_line-at.auto.out, rw append-nil c.put_line-at.ensures)

pub put_row-at-requires : goal.put_row-at-requires
put_row-at-requires c =
    let l = c.loop-i in
    let main = c.args.main.now in (
      omega (
        arith,
        whole_length main,
        upper_length 0,
        length-append (upper_line 0) (rows 0 l.i main),
        rows_room l.i ((length main + 3) / 4) main (omega (arith, c.div_ceil-i-end.ensures)),
        l.invariant.0,
        l.invariant.1.next_is,
      ),
      omega (arith, c.div_ceil-i-end.ensures),
      omega (arith, c.div_ceil-i-end.ensures),
    )

pub loop-i-preserved : goal.loop-i-preserved
loop-i-preserved c =
    let l = c.loop-i in
    let main = c.args.main.now in (
      omega (arith, c.put_row-at.auto.out, l.invariant.0),
      rw (one_row_more l.i main, ← append_assoc (upper_line 0) (rows 0 l.i main) (row l.i main))
          (put_then (omega arith) l.invariant.1 c.put_row-at.ensures),
    )

pub put_line-requires : goal.put_line-requires
put_line-requires c =
    let l = c.loop-i in
    let main = c.args.main.now in
    let k : l.i ≡ (length main + 3) / 4 = omega (arith, c.div_ceil-i-end.ensures) in (
      omega (arith, whole_length main, upper_length 0, length-append (upper_line 0) (rows 0 l.i main), ap (λ (n : ℕ). length (rows 0 n main)) k, l.invariant.1.next_is, l.invariant.0),
      omega arith,
    )

pub returns : goal.returns
unfolding exported end_line
returns c =
    let l = c.loop-i in
    let k : l.i ≡ (length c.args.main.now + 3) / 4 = omega (arith, c.div_ceil-i-end.ensures) in
    rw (← k) (put_then (omega arith) l.invariant.1 c.put_line.ensures)
