-- Nothing within a 64 KiB, its record where a further one starts.
-- Assumes nothing.
use Prim.Native.Nat.{◌/◌, ◌%◌}
use mathlib.Core.Path.{◌≡◌}
use native.Mathlib.Omega.{arith}
use Rattle.text.proofs.Placing.{put_nothing}
use Rattle.intel_hex.specs.Exported.{upper_line}
use Rattle.intel_hex.proofs.Lengths.{upper_length, no_upper, one_upper, no_upper_within}
use Rattle.intel_hex.proofs.exporting.put_upper_before.Goals.{then-i-eq0-via-then-i-eq0, then-i-eq0-via-else-i-eq0+then-i-ne0}
use Rattle.intel_hex.proofs.exporting.put_upper_before.Goals as goal

pub returns-then-i-eq0 : goal.returns-then-i-eq0
returns-then-i-eq0 c =
    elim c.then-i-eq0.branch [
      | then-i-eq0-via-then-i-eq0 w ↦ rw (no_upper c.args.i (omega arith)) (put_nothing c.args.at c.args.out.now)
      | then-i-eq0-via-else-i-eq0+then-i-ne0 w ↦ rw (no_upper_within c.args.i (λ z. omega (arith, z, w.if-i-ne0.true))) (put_nothing c.args.at c.args.out.now)
    ]

pub put_line-requires : goal.put_line-requires
put_line-requires c =
    let e = one_upper c.args.i (omega arith) (omega arith) in
    let r = rw e at c.requires.0 in
    rw c.to_be_bytes.ensures (omega (arith, upper_length (c.args.i / 4096), r), omega arith)

pub returns : goal.returns
unfolding upper_line
returns c =
    let e = one_upper c.args.i (omega arith) (omega arith) in
    let high : c.args.i / 4096 / 256 % 256 ≡ c.args.i / 4096 / 256 = omega arith in
    rw e (rw (c.to_be_bytes.ensures, high) at c.put_line.ensures)
