-- The constant alone, or with X or Y added: a wrapped sum is the sum modulo 2^32.
use Rattle.std.proofs.Common.{arith}
use Rattle.instruction.proofs.Sources.{constant_taken, index_taken}
use Rattle.instruction.proofs.address.Goals as goal

pub returns-then-msf-lt2 : goal.returns-then-msf-lt2
returns-then-msf-lt2 c =
    constant_taken c.args.addr c.args.sources.now c.requires.1 c.requires.2 c.requires.3 c.args.msf (omega (arith, c.if-msf-lt2.true))

pub returns : goal.returns
returns c =
    index_taken c.args.addr c.args.sources.now c.requires.1 c.requires.2 c.requires.3 c.args.msf (omega arith) c.requires.0
