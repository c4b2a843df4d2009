-- `read_record` meets its contract: where no byte is left the numbers are the record's.
-- Assumes nothing.
use Rattle.reading.proofs.ReadingNumbers.{whole}
use Rattle.reading.proofs.from_end.read_record.Goals as goal

pub returns-then-is_at_end : goal.returns-then-is_at_end
returns-then-is_at_end c =
    whole c.args.kinds c.new-r.ensures c.in_ok-next_if.ensures.reads c.in_ok-kind.ensures c.in_ok-marks.ensures.reads c.in_ok-p.ensures.reads c.in_ok-a.ensures.reads c.in_ok-x.ensures.reads c.in_ok-y.ensures.reads c.in_ok-place.ensures.reads
    c.in_ok-value.ensures.reads c.is_at_end.ensures c.if-is_at_end.true
