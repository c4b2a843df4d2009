-- The i64 difference is exact, so leaving -2^31 to 2^31 - 1 is overflow as Annex B says it.
use Rattle.std.proofs.Common.{arith}
use Rattle.word.proofs.Casts.{dif_back}
use Rattle.word.proofs.Carries.{difference_is_sub}
use Rattle.word.proofs.subtract.Goals as goal

pub returns : goal.returns
returns c =
    let s = c.args in
    let f = c.ranges in
    let wrapped = c.overflowing_sub-value.ensures in
    difference_is_sub s.r s.m f.r.fits f.m.fits c.overflows.ensures (omega arith) wrapped.value wrapped.overflow
    (dif_back c.signed.result c.signed-2.result s.r s.m c.signed.ensures c.signed-2.ensures f.r.fits f.m.fits)
