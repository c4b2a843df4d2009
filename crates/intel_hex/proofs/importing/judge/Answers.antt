use mathlib.Core.Path.{◌≡◌, sym, ◌∙◌}
use native.Mathlib.Omega.{arith}
use lib.ListN.{length, drop}
use Rattle.intel_hex.specs.Lines.{size_of, line_of}
use Rattle.intel_hex.specs.Imported.{named, turn_of, text_of, verdict}
use Rattle.intel_hex.proofs.Texts.{no_size, size_is_at, size_some, on_within, text_bad, text_on, ended_good, ended_more, after_none, after_one}
use Rattle.intel_hex.proofs.importing.judge.Goals as goal

pub loop-size-init : goal.loop-size-init
loop-size-init c = (omega arith, after_none (verdict (text_of c.args.room 0 c.args.text.now)))

pub returns-in-None : goal.returns-in-None
returns-in-None c =
    let l = c.loop-size in
    let t = l.rest.now in
    let turn = no_size t (turn_of c.args.room l.base (line_of t)) c.in-None.ensures in
    sym (l.invariant.1 ∙ rw (text_bad c.args.room l.base t turn))

pub returns-then-size-rest : goal.returns-then-size-rest
returns-then-size-rest c =
    let l = c.loop-size in
    let t = l.rest.now in
    let e = size_is_at t (turn_of c.args.room l.base (line_of t)) c.in-Some-Ended-default.ensures c.in-Some-Ended-default.field-0-0-is in
    let n : length t ≡ size_of t = omega (arith, c.if-size-rest.true, e.1) in
    sym (l.invariant.1 ∙ rw (ended_good c.args.room l.base t e.0 n))

pub returns-in-Some-Ended-default : goal.returns-in-Some-Ended-default
returns-in-Some-Ended-default c =
    let l = c.loop-size in
    let t = l.rest.now in
    let e = size_is_at t (turn_of c.args.room l.base (line_of t)) c.in-Some-Ended-default.ensures c.in-Some-Ended-default.field-0-0-is in
    sym (l.invariant.1 ∙ rw (ended_more c.args.room l.base t e.0 (λ n. c.if-size-rest.false (e.1 ∙ sym n))))

pub split_at-requires : goal.split_at-requires
split_at-requires c =
    let l = c.loop-size in
    let t = l.rest.now in
    let e = size_is_at t (turn_of c.args.room l.base (line_of t)) c.in-Some-On-default.ensures c.in-Some-On-default.field-0-0-is in
    omega (arith, e.1, on_within c.args.room l.base t e.0)

pub loop-size-smaller : goal.loop-size-smaller
loop-size-smaller c =
    let l = c.loop-size in
    let t = l.rest.now in
    let e = size_is_at t (turn_of c.args.room l.base (line_of t)) c.in-Some-On-default.ensures c.in-Some-On-default.field-0-0-is in
    omega (arith, e.1, size_some t, c.split_at.ensures.back_len)

pub loop-size-preserved : goal.loop-size-preserved
loop-size-preserved c =
    let l = c.loop-size in
    let t = l.rest.now in
    let e = size_is_at t (turn_of c.args.room l.base (line_of t)) c.in-Some-On-default.ensures c.in-Some-On-default.field-0-0-is in (
      omega (arith, e.1, size_some t, c.split_at.ensures.back_len, l.invariant.0),
      rw (c.split_at.ensures.back, e.1)
          (l.invariant.1 ∙ rw (text_on c.args.room l.base t e.0) (after_one l.lines (named l.base (line_of t) t) (text_of c.args.room c.in-Some-On-default.start (drop (size_of t) t)))),
    )
