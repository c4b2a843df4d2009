-- Document 01, "The trail": taking back restores the values of the newest record, and writes no trail byte.
-- Assumes nothing.
use Rattle.std.specs.Prelude.{Result, Ok, Err}
use Rattle.trail.specs.Records.{restored}
use Rattle.trail.specs.declared.Newest.{Newest}
use Rattle.trail.specs.declared.Broken.{Broken}
use Rattle.viper.specs.Refusals.{if_done}
use Rattle.viper.specs.Operations.{Bench, back, answer, newest_of, Outcome}

abbrev pub put_back : Result Newest Broken → Bench → Bench
put_back (Ok r) b = record { state = restored r.values b.state; trail = b.trail; used = r.left }
put_back (Err e) b = b

abbrev pub back_outcome : Bench → Outcome
back_outcome b = let a = answer back b in record { answered = a; bench = if_done a (put_back (newest_of b) b) b }
