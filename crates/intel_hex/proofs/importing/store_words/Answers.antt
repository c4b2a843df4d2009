use Prim.Native.Nat.{suc, ◌+◌, ◌*◌, ◌-◌}
use mathlib.Core.Path.{◌≡◌, ◌∙◌}
use native.Mathlib.Omega.{arith}
use lib.ListN.{length-set}
use lib.Seq.{drop-drop}
use Rattle.intel_hex.proofs.Texts.{each_word, word_within}
use Rattle.intel_hex.proofs.importing.store_words.Goals as goal

pub split_at-requires : goal.split_at-requires
split_at-requires c = word_within c.args.text.now c.args.count c.loop-i.i c.loop-i-test.true c.requires.1

pub word_of-requires : goal.word_of-requires
word_of-requires c = rw c.split_at.ensures.back (each_word c.args.text.now c.args.count c.loop-i.i c.loop-i-test.true c.requires.1)

pub loop-i-preserved : goal.loop-i-preserved
loop-i-preserved c =
    let a = c.args in
    let l = c.loop-i in
    let k : a.count - l.i ≡ suc (a.count - (l.i + 1)) = omega arith in
    let p : suc (a.place + l.i) ≡ a.place + (l.i + 1) = omega arith in
    let n : 8 * l.i + 8 ≡ 8 * (l.i + 1) = omega arith in (
      simp length-set l.invariant.0,
      l.invariant.1 ∙ rw (k, drop-drop 8 (8 * l.i) a.text.now, n, p, c.word_of.ensures, c.split_at.ensures.back),
    )
