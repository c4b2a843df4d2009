-- Refusals 1, 3 and 6, or the record in the trail.
use native.Mathlib.Omega.{arith}
use lib.ListN.{length}
use Rattle.std.specs.Prelude.{None}
use Rattle.std.proofs.lemmas.Result.{err_from_is_err_and}
use Rattle.machine.specs.Held.{ram}
use Rattle.trail.proofs.Marks.{Sound, old_values_good}
use Rattle.trail.proofs.Lengths.{kept_short}
use Rattle.viper.proofs.Exits.{passed, noted_full, noted_done}
use Rattle.viper.proofs.calls.note.Goals as goal

pub add-requires : goal.add-requires
add-requires c =
    let l = passed c.args.m.p 0 0 (length c.args.trail.now) c.args.used c.judge.result c.judge.ensures c.in_ok-judge.was in
    let z : Sound c.args.m None = record { p = l.p_lt; a = omega arith; x = omega arith; y = omega arith; address = tt; value = omega arith } in
    (l.used_le, rw c.old_values-o.ensures (old_values_good c.args.kind c.args.after z), rw c.old_values-o.ensures (kept_short c.args.kind c.args.after z))

pub returns-in_err-used : goal.returns-in_err-used
returns-in_err-used c = λ main ports.
    let p = err_from_is_err_and c.from_residual-in_err-used.result c.from_residual-in_err-used.ensures.1 in
    rw (p.1, p.2) (noted_full c.args.kind c.args.m c.args.after (ram main ports) c.args.trail.now c.args.used c.judge.result c.judge.ensures c.in_ok-judge.was c.old_values-o.result c.add.result c.add.new.trail c.old_values-o.ensures c.add.ensures c.in_err-used.was)

pub returns : goal.returns
returns c = λ main ports. noted_done c.args.kind c.args.m c.args.after (ram main ports) c.args.trail.now c.args.used c.judge.result c.judge.ensures c.in_ok-judge.was c.old_values-o.result c.add.result c.add.new.trail c.old_values-o.ensures c.add.ensures c.in_ok-used.used c.in_ok-used.was
