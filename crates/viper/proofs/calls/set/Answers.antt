-- Refusals 1 to 3 and 5, or the word written, with its record on the trail.
use mathlib.Core.Path.{refl, ◌∙◌}
use native.Mathlib.Omega.{arith}
use lib.ListN.{length}
use Rattle.std.specs.Prelude.{Ok, Err}
use Rattle.std.proofs.lemmas.Result.{err_from_is_err_and}
use Rattle.machine.specs.Held.{ram}
use Rattle.trail.proofs.Marks.{Sound, old_values_good}
use Rattle.trail.proofs.Lengths.{same_short}
use Rattle.trail.specs.declared.Kind.TheVariants as kind
use Rattle.trail.specs.Records.{trail_full}
use Rattle.viper.specs.Operations.{set_word}
use Rattle.step.specs.Phases as phases
use Rattle.step.proofs.Stores.{changing_addressed, changing_value, finish_full, finish_done}
use Rattle.step.proofs.Completing.{written_over}
use Rattle.viper.proofs.Exits.{passed, refused_first, set_fitted, set_full, set_done}
use borrow.Author.Rules.{rules}
use Rattle.viper.proofs.calls.set.Goals as goal

pub returns-in_err-judge : goal.returns-in_err-judge
returns-in_err-judge c =
    let a = c.args in
    refused_first a.m a.main.now a.ports.now a.trail.now a.used (set_word a.place a.value) c.judge.result _ c.from_residual.result refl c.judge.ensures c.in_err-judge.was c.from_residual.ensures.1

pub old_values-o-requires : goal.old_values-o-requires
old_values-o-requires c =
    let a = c.args in
    let stores = ram a.main.now a.ports.now in
    rw (c.changed_to.ensures ∙ written_over stores a.place c.word_at-old.result a.value c.word_at-old.ensures)
    (changing_addressed stores (phases.Word a.place a.value) (set_fitted a.m a.main.now a.ports.now a.trail.now a.used a.place a.value c.judge.result c.judge.ensures c.in_ok-judge.was c.is_fitted.result c.is_fitted.ensures c.if-not-is_fitted.false))

pub add-requires : goal.add-requires
add-requires c =
    let a = c.args in
    let stores = ram a.main.now a.ports.now in
    let w = c.changed_to in
    let hw = w.ensures ∙ written_over stores a.place c.word_at-old.result a.value c.word_at-old.ensures in
    let l = passed a.m.p (length a.main.now) (length a.ports.now) (length a.trail.now) a.used c.judge.result c.judge.ensures c.in_ok-judge.was in
    let z : Sound a.m w.result = record {
      p = l.p_lt;
      a = omega arith;
      x = omega arith;
      y = omega arith;
      address = rw hw (changing_addressed stores (phases.Word a.place a.value) (set_fitted a.m a.main.now a.ports.now a.trail.now a.used a.place a.value c.judge.result c.judge.ensures c.in_ok-judge.was c.is_fitted.result c.is_fitted.ensures c.if-not-is_fitted.false));
      value = rw hw (changing_value a.main.now a.ports.now (phases.Word a.place a.value) (λ i. search rules) (λ i. search rules));
    } in
    (l.used_le, rw c.old_values-o.ensures (old_values_good kind.Set a.m z), rw c.old_values-o.ensures (same_short kind.Set a.m z))

pub returns-in_err-used : goal.returns-in_err-used
returns-in_err-used c =
    let a = c.args in
    let stores = ram a.main.now a.ports.now in
    let w = c.changed_to in
    let hw = w.ensures ∙ written_over stores a.place c.word_at-old.result a.value c.word_at-old.ensures in
    let v = c.old_values-o in
    let n = c.add in
    let p = err_from_is_err_and c.from_residual-in_err-used.result c.from_residual-in_err-used.ensures.1 in
    rw (p.1, p.2)
    (set_full a.m a.main.now a.ports.now a.trail.now a.used a.place a.value c.judge.result c.judge.ensures c.in_ok-judge.was c.is_fitted.result c.is_fitted.ensures c.if-not-is_fitted.false (Err trail_full) stores n.new.trail
    (finish_full kind.Set a.m (record { machine = a.m; written = phases.Word a.place a.value }) stores a.trail.now a.used w.result v.result n.result n.new.trail hw v.ensures n.ensures c.in_err-used.was) refl)

pub returns : goal.returns
returns c =
    let a = c.args in
    let stores = ram a.main.now a.ports.now in
    let w = c.changed_to in
    let hw = w.ensures ∙ written_over stores a.place c.word_at-old.result a.value c.word_at-old.ensures in
    let v = c.old_values-o in
    let n = c.add in
    let k = c.in_ok-used in
    let u = c.put_word in
    set_done a.m a.main.now a.ports.now a.trail.now a.used a.place a.value c.judge.result c.judge.ensures c.in_ok-judge.was c.is_fitted.result c.is_fitted.ensures c.if-not-is_fitted.false (Ok k.used) (ram u.new.main u.new.ports) n.new.trail
    (finish_done kind.Set a.m (record { machine = a.m; written = phases.Word a.place a.value }) stores a.trail.now a.used w.result v.result n.result n.new.trail hw v.ensures n.ensures k.used (ram u.new.main u.new.ports) k.was u.ensures) k.used refl
