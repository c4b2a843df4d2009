-- A word is unlike its low twenty bits exactly when it is 2^20 or more.
use Rattle.std.proofs.Common.{sym}
use Rattle.report.proofs.Readings.{invalid_is}
use Rattle.word.proofs.invalid.Goals as goal

pub returns : goal.returns
returns c = sym (invalid_is c.args.v)
