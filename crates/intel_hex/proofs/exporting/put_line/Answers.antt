-- The colon and the head, then the data, then the sum of both and the line feed.
-- Assumes nothing.
use Prim.Native.Nat.{◌/◌, ◌%◌}
use mathlib.Core.Path.{◌≡◌}
use native.Mathlib.Omega.{arith}
use Rattle.text.proofs.Placing.{put_then}
use Rattle.intel_hex.specs.Layout.{sum_byte, record_line}
use Rattle.intel_hex.proofs.Lengths.{pairs_length}
use Rattle.intel_hex.proofs.exporting.put_line.Goals as goal

pub put_pairs-next-requires-3 : goal.put_pairs-next-requires-3
put_pairs-next-requires-3 c =
    omega (arith, pairs_length c.args.bytes.now)

pub put_text-requires : goal.put_text-requires
put_text-requires c = omega (arith, pairs_length c.args.bytes.now)

pub returns : goal.returns
unfolding record_line sum_byte
returns c =
    let n = pairs_length c.args.bytes.now in
    let high : c.args.address / 256 % 256 ≡ c.args.address / 256 = omega arith in
    let head = put_then (omega arith) c.put_text-next.ensures c.put_pairs-next.ensures in
    let end = put_then (omega (arith, n)) c.put_pairs-next-3.ensures c.put_text.ensures in
    let line = put_then (omega arith) head (put_then (omega arith) c.put_pairs-next-2.ensures end) in
    rw (c.sum_of.ensures.value, c.sum_of-2.ensures.value, c.to_be_bytes.ensures, high) at line
