use mathlib.Core.Path.{ap, sym, ◌∙◌}
use native.Mathlib.Omega.{arith}
use lib.ListN.{length}
use Rattle.std.specs.Prelude.{Some}
use Rattle.intel_hex.proofs.Texts.{turned, good_line, no_good_line, size_some, on_within, on_has_words, text_bad, ended_words, not_good, stored_on}
use Rattle.intel_hex.proofs.importing.store.Goals as goal

pub returns-in-None : goal.returns-in-None
returns-in-None c =
    let l = c.loop-line in
    let room = length c.args.main.now in
    let f = good_line room l.base l.rest.now l.invariant.1 c.in-Some.ensures in
    not_good (text_bad room l.base l.rest.now (turned room l.base l.rest.now l.invariant.0 f.0 c.in-None.ensures)) l.invariant.1

pub returns-in-Some-Ended : goal.returns-in-Some-Ended
returns-in-Some-Ended c =
    let l = c.loop-line in
    let room = length c.args.main.now in
    let f = good_line room l.base l.rest.now l.invariant.1 c.in-Some.ensures in
    let turn = turned room l.base l.rest.now l.invariant.0 f.0 (ap Some (sym c.in-Some-Ended.field-0-is) ∙ c.in-Some-Ended.ensures) in
    sym (l.invariant.2 ∙ rw (ended_words room l.base l.rest.now turn))

pub store_line-requires : goal.store_line-requires
store_line-requires c =
    let l = c.loop-line in
    let room = length c.args.main.now in
    let f = good_line room l.base l.rest.now l.invariant.1 c.in-Some.ensures in
    (f.0, on_has_words (length l.main) l.base c.in-Some-On.start c.in-Some.line (sym (ap Some (sym c.in-Some-On.field-0-is) ∙ c.in-Some-On.ensures)))

pub split_at-requires : goal.split_at-requires
split_at-requires c =
    let l = c.loop-line in
    let room = length c.args.main.now in
    let f = good_line room l.base l.rest.now l.invariant.1 c.in-Some.ensures in
    let turn = turned room l.base l.rest.now l.invariant.0 f.0 (ap Some (sym c.in-Some-On.field-0-is) ∙ c.in-Some-On.ensures) in
    omega (arith, f.1, on_within room l.base l.rest.now turn)

pub loop-line-smaller : goal.loop-line-smaller
loop-line-smaller c =
    let l = c.loop-line in
    let f = good_line (length c.args.main.now) l.base l.rest.now l.invariant.1 c.in-Some.ensures in
    omega (arith, f.1, size_some l.rest.now, c.split_at.ensures.back_len)

pub loop-line-preserved : goal.loop-line-preserved
loop-line-preserved c =
    let l = c.loop-line in
    let room = length c.args.main.now in
    let f = good_line room l.base l.rest.now l.invariant.1 c.in-Some.ensures in
    let turn = turned room l.base l.rest.now l.invariant.0 f.0 (ap Some (sym c.in-Some-On.field-0-is) ∙ c.in-Some-On.ensures) in
    let o = stored_on room l.base l.rest.now l.main turn l.invariant.1 in
    let named = rw f.0 at o.1 in (
      omega (arith, c.store_line.auto.main, l.invariant.0),
      rw (c.split_at.ensures.back, f.1) o.0,
      l.invariant.2 ∙ rw (c.split_at.ensures.back, f.1, c.store_line.ensures) named,
    )

pub returns : goal.returns
returns c =
    let l = c.loop-line in
    no_good_line (length c.args.main.now) l.base l.rest.now l.invariant.1 c.in_default.ensures
