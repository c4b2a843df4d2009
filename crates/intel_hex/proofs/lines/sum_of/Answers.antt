-- A byte that is none leaves no sum; else the bytes' sum is that of those passed and the next.
-- Assumes nothing.
use Prim.Native.Nat.{ℕ, ◌*◌}
use mathlib.Core.Path.{◌≡◌}
use native.Mathlib.Omega.{arith}
use lib.ListN.{drop}
use borrow.Author.Tests.{lt-ltb}
use lib.Seq.{drop-drop}
use Rattle.std.specs.Prelude.{Option, Some, None}
use Rattle.intel_hex.specs.Digits.{byte, some_byte}
use Rattle.intel_hex.specs.Lines.{bytes}
use Rattle.intel_hex.proofs.Bytes.{no_byte, lacks_byte, all_more, sum_more, summed_is}
use Rattle.intel_hex.proofs.lines.sum_of.Goals as goal

pub returns-in_err-total : goal.returns-in_err-total
returns-in_err-total c =
    let s = drop 1 c.args.line.now in
    let e : ◌≡◌ {A = Option ℕ} None (some_byte (byte (drop (2 * c.loop-k.k) s))) = rw drop-drop c.in_err-total.ensures in
    rw (c.from_residual.ensures, lacks_byte c.args.count c.loop-k.k s (omega arith) (no_byte (byte (drop (2 * c.loop-k.k) s)) e))

pub loop-k-preserved : goal.loop-k-preserved
loop-k-preserved c =
    let l = c.loop-k in
    let s = drop 1 c.args.line.now in
    let b = c.in_ok-total.field-0 in
    let e : ◌≡◌ {A = Option ℕ} (Some b) (some_byte (byte (drop (2 * l.k) s))) = rw drop-drop c.in_ok-total.ensures in
    (all_more l.k b s e l.invariant.0, omega (arith, sum_more l.k b s e, l.invariant.1))

pub returns : goal.returns
returns c =
    let l = c.loop-k in
    let k : l.k ≡ c.args.count = omega arith in
    let s = drop 1 c.args.line.now in
    rw (← k, summed_is (bytes l.k s) l.invariant.0, ← l.invariant.1, lt-ltb l.total 256 (omega arith))
