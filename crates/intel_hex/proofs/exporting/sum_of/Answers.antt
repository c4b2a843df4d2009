-- Each of at most sixteen bytes is at most 255.
-- Assumes nothing.
use mathlib.Core.Path.{◌≡◌}
use native.Mathlib.Omega.{arith}
use Rattle.std.specs.Prelude.{sum}
use Rattle.std.proofs.Common.{rules}
use Rattle.intel_hex.proofs.Lengths.{sum_small}
use Rattle.intel_hex.proofs.exporting.sum_of.Goals as goal

pub returns-clause-small : goal.returns-clause-small
returns-clause-small c =
    let value : c.sum.result ≡ sum c.args.bytes.now = search rules in
    omega (arith, sum_small c.args.bytes.now (λ i. omega (arith, c.type_inv.bytes i)))
