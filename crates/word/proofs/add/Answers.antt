-- The i64 sum is exact, so leaving -2^31 to 2^31 - 1 is overflow as Annex B says it.
use Rattle.word.proofs.Casts.{sum_back}
use Rattle.word.proofs.Carries.{sum_is_add}
use Rattle.word.proofs.add.Goals as goal

pub returns : goal.returns
returns c =
    let s = c.args in
    let f = c.ranges in
    let wrapped = c.overflowing_add-value.ensures in
    sum_is_add s.r s.m f.r.fits f.m.fits c.overflows.ensures wrapped.value wrapped.overflow
    (sum_back c.signed.result c.signed-2.result s.r s.m c.signed.ensures c.signed-2.ensures f.r.fits f.m.fits)
