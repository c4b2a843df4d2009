use Rattle.std.proofs.Common.{arith}
use Rattle.text.proofs.Digits.{one_more_fits}
use Rattle.text.proofs.texts.+decimal_digits.Goals as goal

pub push-requires-2 : goal.push-requires-2
push-requires-2 t c = (omega arith, rw c.decimal_digits-digits.ensures (one_more_fits c.args.n (omega arith) (omega arith)))
