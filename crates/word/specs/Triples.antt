-- What the code delivers, as the report's triples: a word and two flags.
-- Assumes nothing.
use Rattle.report.specs.Section3.{Triple}
use Rattle.word.specs.declared.Sum.{Sum}
use Rattle.word.specs.declared.AluResult.{AluResult}

abbrev pub sum_triple : Sum → Triple
sum_triple s = (s.value, s.carry, s.overflow)

abbrev pub result_triple : AluResult → Triple
result_triple x = (x.value, x.b, x.stop)
