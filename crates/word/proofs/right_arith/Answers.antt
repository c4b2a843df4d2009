-- Halving the signed number downwards is the shift that copies the sign.
use Rattle.std.proofs.Common.{◌∙◌}
use Rattle.word.proofs.Casts.{shift_is}
use Rattle.word.proofs.right_arith.Goals as goal

pub returns : goal.returns
returns c =
    c.word_of.ensures
    ∙ shift_is c.signed_word.result c.args.r c.signed_word.ensures c.ranges.r.fits
