-- `fill_marks_and_p` meets its contract: P is put after the marks, and L after both; their sizes leave room for each.
-- Assumes nothing.
use Prim.Native.Nat.{ℕ}
use native.Mathlib.Omega.{arith}
use lib.ListN.{set, length-set}
use Rattle.trail.proofs.Lengths.{p_size}
use Rattle.trail.proofs.Putting.{put_first, put_then, put_count}
use Rattle.trail.proofs.Putting.{put_one}
use Rattle.trail.proofs.records.fill_marks_and_p.Goals as goal

pub bounds-bytes-n : goal.bounds-bytes-n
bounds-bytes-n c = omega (arith, p_size c.requires.1, length-set {A = ℕ})

pub returns : goal.returns
returns c =
    let b = c.args.bytes.now in
    put_count
    (put_then (put_first b 1 (omega arith))
    (put_then (put_one (set b 0 1) 1 c.args.marks (omega (arith, length-set b 0 1)))
    c.put_number-n.ensures))
    (omega (arith, p_size c.requires.1, length-set {A = ℕ}))
