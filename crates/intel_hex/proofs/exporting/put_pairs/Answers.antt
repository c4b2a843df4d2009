-- Each byte is two digits more.
-- Assumes nothing.
use Prim.Native.Nat.{◌≤◌}
use mathlib.Core.Path.{◌≡◌, refl}
use native.Mathlib.Omega.{arith}
use lib.ListN.{length, get_or}
use Rattle.text.specs.Digits.{hex}
use Rattle.text.proofs.Digits.{hex_length}
use Rattle.text.proofs.Placing.{put_then}
use Rattle.intel_hex.proofs.Lengths.{pairs_more}
use Rattle.intel_hex.proofs.exporting.put_pairs.Goals as goal

pub put_text-next-requires : goal.put_text-next-requires
put_text-next-requires c =
    let l = c.loop-byte in
    let b = get_or c.args.bytes.now l.byte-index 0 in
    let pair : c.as_bytes.result.now ≡ hex 2 b = rw (c.as_bytes.ensures, c.push_hex.ensures, c.new-pair.ensures) refl in
    rw pair (omega (arith, hex_length 2 b, l.invariant.0, l.invariant.1, c.loop-byte-test.true, c.requires))

pub loop-byte-preserved : goal.loop-byte-preserved
loop-byte-preserved c =
    let l = c.loop-byte in
    let b = get_or c.args.bytes.now l.byte-index 0 in
    let pair : c.as_bytes.result.now ≡ hex 2 b = rw (c.as_bytes.ensures, c.push_hex.ensures, c.new-pair.ensures) refl in
    let two : length c.as_bytes.result.now ≡ 2 = rw pair (hex_length 2 b) in
    let room : c.args.at ≤ length c.args.out.now = omega (arith, c.requires) in (
      omega (arith, c.put_text-next.auto.out, l.invariant.0),
      omega (arith, c.put_text-next.ensures.next_is, two, l.invariant.1),
      rw (pairs_more c.args.bytes.now l.byte-index c.loop-byte-test.true, ← pair)
          (put_then room l.invariant.2 c.put_text-next.ensures),
    )
