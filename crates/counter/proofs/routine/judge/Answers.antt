use Rattle.std.proofs.Common.{arith, ap, sym, ◌∙◌, ◌≡◌, suc, ◌+◌, ◌-◌, ◌*◌, length, drop, length-drop, Ok}
use lib.Seq.{drop-drop}
use Rattle.counter.specs.Routine.{routine_of}
use Rattle.counter.proofs.Reading.{line_of_rest, nine_bytes, no_line, line_too_many, ill_formed_line, one_line, after_one}
use Rattle.counter.proofs.routine.judge.Goals as goal

pub returns-then-done-room : goal.returns-then-done-room
returns-then-done-room c =
    let l = c.loop-done in
    let z : c.args.room - l.done ≡ 0 = omega arith in
    sym (l.invariant.2 ∙ rw (z, line_too_many (drop (9 * l.done) c.args.text.now) (rw length-drop (omega arith))))

pub returns-in_default : goal.returns-in_default
returns-in_default c =
    let l = c.loop-done in
    let f = sym (line_of_rest (9 * l.done) c.args.text.now c.read_line.ensures) ∙ c.in_default.is in
    sym (l.invariant.2 ∙ rw (ill_formed_line (c.args.room - l.done) (drop (9 * l.done) c.args.text.now) (rw length-drop (omega arith)) f))

pub loop-done-preserved : goal.loop-done-preserved
loop-done-preserved c =
    let l = c.loop-done in
    let rest = drop (9 * l.done) c.args.text.now in
    let left = c.args.room - (l.done + 1) in
    let k : c.args.room - l.done ≡ suc left = omega arith in
    let next : 9 * l.done + 9 ≡ 9 * (l.done + 1) = omega arith in
    let well_formed = sym (line_of_rest (9 * l.done) c.args.text.now c.read_line.ensures) ∙ c.in-Some.is in (
      omega (arith, length-drop (9 * l.done) c.args.text.now, nine_bytes rest _ well_formed),
      omega arith,
      l.invariant.2
          ∙ rw (k, one_line left rest _ well_formed, drop-drop, next)
          (after_one l.done _ (routine_of left (drop (9 * (l.done + 1)) c.args.text.now))),
    )

pub returns : goal.returns
returns c =
    let l = c.loop-done in
    let n : c.div_ceil-lines.result ≡ l.done = omega arith in
    let none : length c.args.text.now - 9 * l.done ≡ 0 = omega arith in
    sym
    (l.invariant.2
    ∙ rw (no_line (c.args.room - l.done) (drop (9 * l.done) c.args.text.now) (rw length-drop none)) (ap Ok (omega (arith, n))))
