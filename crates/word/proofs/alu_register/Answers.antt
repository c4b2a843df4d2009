-- The sums and the differences are the report's own terms; what is none of 0 to 12 stops.
use Rattle.std.proofs.Common.{arith, ne_eqb}
use mathlib.Core.Bool.{or-false}
use Rattle.report.specs.Section3.{ALU}
use Rattle.report.specs.Parts.{computed}
use Rattle.word.proofs.Results.{not_p, register_is}
use Rattle.word.proofs.alu_register.Goals as goal

pub returns-in-4 : goal.returns-in-4
unfolding ALU
returns-in-4 c dsf h = rw (c.in-4.is, not_p dsf h, c.new-in-4.ensures, ← c.add-sum.ensures)

pub returns-in-5 : goal.returns-in-5
unfolding ALU
returns-in-5 c dsf h = rw (c.in-5.is, not_p dsf h, c.new-in-5.ensures, ← c.add-sum-in-5.ensures, or-false)

pub returns-in-6 : goal.returns-in-6
unfolding ALU
returns-in-6 c dsf h = rw (c.in-6.is, not_p dsf h, c.new-in-6.ensures, ← c.subtract-dif.ensures)

pub returns-in-7 : goal.returns-in-7
unfolding ALU
returns-in-7 c dsf h = rw (c.in-7.is, not_p dsf h, c.new-in-7.ensures, ← c.subtract-dif-in-7.ensures, or-false)

pub returns-in_default : goal.returns-in_default
unfolding computed
returns-in_default c dsf h =
    rw (
      register_is c.args.fsf c.args.msf dsf c.args.r c.args.m c.args.b h c.ranges.r.fits c.ranges.m.fits,
      c.new-in_default.ensures,
      ne_eqb c.args.fsf 0 (omega arith),
      ne_eqb c.args.fsf 1 (omega arith),
      ne_eqb c.args.fsf 2 (omega arith),
      ne_eqb c.args.fsf 3 (omega arith),
      ne_eqb c.args.fsf 4 (omega arith),
      ne_eqb c.args.fsf 5 (omega arith),
      ne_eqb c.args.fsf 6 (omega arith),
      ne_eqb c.args.fsf 7 (omega arith),
      ne_eqb c.args.fsf 8 (omega arith),
      ne_eqb c.args.fsf 9 (omega arith),
      ne_eqb c.args.fsf 10 (omega arith),
      ne_eqb c.args.fsf 11 (omega arith),
      ne_eqb c.args.fsf 12 (omega arith),
    )
