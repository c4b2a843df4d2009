-- `next_number` meets its contract: the bytes after the number are those from the place after it.
-- Assumes nothing.
use mathlib.Core.Bool.{true}
use mathlib.Core.Path.{ap, sym, ◌∙◌}
use native.Mathlib.Omega.{arith}
use Rattle.trail.specs.Numbers.{read_below}
use Rattle.reading.proofs.ReadingNumbers.{is_got}
use Rattle.reading.proofs.reader.TrailReader.next_number.Goals as goal

pub returns-clause-reads : goal.returns-clause-reads
returns-clause-reads c =
    let r = c.self.inside in
    ap (read_below c.args.bound) (sym c.self.view_is)
    ∙ (is_got true c.args.bound r.bytes.now r.place r.end c.in_ok-n.n c.in_ok-n.next (omega arith) (omega arith) (sym c.in_ok-n.was ∙ c.read_number.ensures)).0
