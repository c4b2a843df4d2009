-- A well-formed line has its address.
-- Assumes nothing.
use Rattle.intel_hex.proofs.Bytes.{none_there}
use Rattle.intel_hex.proofs.Fields.{high_there, low_there}
use Rattle.intel_hex.proofs.lines.layout_of.Goals as goal

pub returns-in_err-byte_at : goal.returns-in_err-byte_at
returns-in_err-byte_at c = λ w. none_there (high_there c.args.line.now w) c.in_err-byte_at.ensures

pub returns-in_err-address : goal.returns-in_err-address
returns-in_err-address c = λ w. none_there (low_there c.args.line.now w) c.in_err-address.ensures
