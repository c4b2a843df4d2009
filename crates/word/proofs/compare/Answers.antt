-- Arm 12 is the test of that number on less, equal and borrow: another test there is seen to differ from it. What is none of 0 to 14 is the last test:
-- COMPARE takes any other number so.
use Rattle.std.proofs.Common.{arith}
use Rattle.std.proofs.Common.{refl, ne_eqb}
use Rattle.report.proofs.Readings.{tests, by_test}
use Rattle.word.proofs.compare.Goals as goal

pub returns-in-12 : goal.returns-in-12
unfolding tests
returns-in-12 c =
    by_test c.args.r c.args.m c.ranges.r.fits c.ranges.m.fits c.args.fsf 12 c.args.b c.less-l.result c.in-12.is c.less-l.ensures

pub returns-in_default : goal.returns-in_default
unfolding tests
returns-in_default c =
    simp (ne_eqb c.args.fsf 0 (omega arith), ne_eqb c.args.fsf 1 (omega arith), ne_eqb c.args.fsf 2 (omega arith), ne_eqb c.args.fsf 3 (omega arith), ne_eqb c.args.fsf 4 (omega arith), ne_eqb c.args.fsf 5 (omega arith), ne_eqb c.args.fsf 6 (omega arith), ne_eqb c.args.fsf 7 (omega arith), ne_eqb c.args.fsf 8 (omega arith), ne_eqb c.args.fsf 9 (omega arith), ne_eqb c.args.fsf 10 (omega arith), ne_eqb c.args.fsf 11 (omega arith), ne_eqb c.args.fsf 12 (omega arith), ne_eqb c.args.fsf 13 (omega arith), ne_eqb c.args.fsf 14 (omega arith))
    at (by_test c.args.r c.args.m c.ranges.r.fits c.ranges.m.fits c.args.fsf c.args.fsf c.args.b c.less-l.result refl c.less-l.ensures)
