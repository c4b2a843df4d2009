-- Refusals 1 to 3, 7 and 8, or the old values of the newest record: a short one, or a longer.
use Prim.{tt}
use lib.ListN.{length}
use mathlib.Core.Path.{ap, ◌∙◌}
use Rattle.std.specs.Prelude.{Ok}
use Rattle.std.proofs.lemmas.Result.{err_from_is_err_and}
use Rattle.machine.specs.Held.{ram}
use Rattle.reading.specs.declared.short.Marked.TheVariants.{Any}
use Rattle.viper.proofs.Exits.{back_first, back_refits}
use Rattle.viper.proofs.Finding.{restores, short_restores}
use Rattle.viper.proofs.back.restore_stores.Goals as goal

pub returns-in_err-judge : goal.returns-in_err-judge
returns-in_err-judge c =
    let a = c.args in
    let p = err_from_is_err_and c.from_residual.result c.from_residual.ensures.1 in
    rw (p.1, p.2) (back_first a.m a.main.now a.ports.now a.trail.now a.used c.judge.result c.judge.ensures _ c.in_err-judge.was)

pub returns-in-Some : goal.returns-in-Some
returns-in-Some c =
    let a = c.args in
    short_restores a.m a.main.now a.ports.now a.trail.now a.used c.judge.result c.judge.ensures c.in_ok-judge.was c.if-used-eq0.false c.read_short.result _ (c.read_short.ensures (length a.main.now) (length a.ports.now)) c.in-Some.short
    (c.in_ok-short.was ∙ ap Ok c.in-Some.is)

pub word_restored-requires : goal.word_restored-requires
word_restored-requires c =
    let a = c.args in
    let n = c.in_ok-newest in
    back_refits a.m a.main.now a.ports.now a.trail.now a.used c.judge.result c.judge.ensures c.in_ok-judge.was c.if-used-eq0.false c.newest.result n.newest.values n.newest.left c.newest.ensures n.was

pub returns : goal.returns
returns c =
    let a = c.args in
    let n = c.in_ok-newest in
    restores a.m a.main.now a.ports.now a.trail.now a.used c.judge.result c.judge.ensures c.in_ok-judge.was c.if-used-eq0.false c.newest.result n.newest.values n.newest.left Any (ram c.word_restored.new.main c.word_restored.new.ports) c.newest.ensures n.was c.word_restored.ensures tt
