-- The element taken is REG at its number.
use Rattle.instruction.proofs.Sources.{register_taken}
use Rattle.instruction.proofs.register.Goals as goal

pub returns : goal.returns
returns c = register_taken c.args.rsf c.args.sources.now c.requires.0 c.requires.1
