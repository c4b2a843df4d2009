-- `fill_value` meets its contract: each number is put after those before it, and L after them all; their sizes leave room for each.
-- Assumes nothing.
use native.Mathlib.Omega.{arith}
use Prim.Native.Nat.{ℕ}
use lib.ListN.{set, length-set}
use Rattle.trail.specs.OneChange.{one_value}
use Rattle.trail.proofs.Lengths.{value_sizes}
use Rattle.trail.proofs.Putting.{put_first, put_then, put_count}
use Rattle.trail.proofs.Putting.{put_one}
use Rattle.trail.proofs.records.fill_value.Goals as goal

pub put_if-at_value-requires : goal.put_if-at_value-requires
put_if-at_value-requires c = omega (arith, value_sizes c.args.marks c.requires.1 c.requires.2 c.ranges.v.fits, length-set {A = ℕ})

pub put_number-n-requires : goal.put_number-n-requires
put_number-n-requires c = omega (arith, value_sizes c.args.marks c.requires.1 c.requires.2 c.ranges.v.fits, length-set {A = ℕ})

pub bounds-bytes-n : goal.bounds-bytes-n
bounds-bytes-n c = omega (arith, value_sizes c.args.marks c.requires.1 c.requires.2 c.ranges.v.fits, length-set {A = ℕ})

pub returns : goal.returns
unfolding one_value
returns c =
    let b = c.args.bytes.now in
    put_count
    (put_then (put_first b 1 (omega arith))
    (put_then (put_one (set b 0 1) 1 c.args.marks (omega (arith, length-set b 0 1)))
    (put_then c.put_number-at_place.ensures
    (put_then c.put_if-at_value.ensures
    c.put_number-n.ensures))))
    (omega (arith, value_sizes c.args.marks c.requires.1 c.requires.2 c.ranges.v.fits, length-set {A = ℕ}))
