-- `old_values` meets its contract: field by field.
-- Assumes nothing.
use mathlib.Core.Path.{ap, ◌∙◌}
use Rattle.std.specs.Int.{from_bool}
use Rattle.trail.specs.Records.{differs, word_changed, old_values}
use Rattle.trail.proofs.Marks.{marks_sum}
use Rattle.trail.proofs.records.old_values.Goals as goal

pub word_place-requires : goal.word_place-requires
word_place-requires c = c.requires

pub returns : goal.returns
unfolding old_values
returns c =
    let o = c.args.old in
    let n = c.args.new in
    let word = c.from-4.ensures ∙ ap from_bool c.is_some.ensures in
    rw (
      marks_sum (differs o.a n.a) (differs o.x n.x) (differs o.y n.y) (word_changed c.args.word) o.b o.stop c.from.ensures c.from-2.ensures c.from-3.ensures word c.flags.ensures.0,
      c.value_if.ensures,
      c.value_if-2.ensures,
      c.value_if-3.ensures,
      c.word_place.ensures,
      c.word_value.ensures,
    )
