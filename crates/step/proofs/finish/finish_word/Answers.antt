-- The record is that of an operation that wrote this word, and then the word is put.
use mathlib.Core.List.{List}
use mathlib.Core.Bool.{false}
use Prim.Native.Nat.{ℕ}
use Rattle.machine.specs.Held.{ram}
use Rattle.step.specs.Phases as phases
use Rattle.step.specs.Phases.{held}
use Rattle.step.specs.Finishing.{changed_to}
use Rattle.step.proofs.Completing.{kept_values, completes_full, completes, written_over}
use Rattle.step.proofs.finish.finish_word.Goals as goal

pub returns-in_err-used : goal.returns-in_err-used
returns-in_err-used c =
    let a = c.args in
    let old = c.word_at-old.result in
    let stores = ram a.main.now a.ports.now in
    λ (g : List ℕ). completes_full (held g a.p0 a.b0 false) (record { machine = held g a.p a.b0 false; written = phases.Word a.place a.v }) stores a.trail.now a.used (changed_to a.place old a.v) _ _ _
    (written_over stores a.place old a.v c.word_at-old.ensures) (kept_values g a.p0 a.p a.b0 a.b0 false (changed_to a.place old a.v)) c.note_word.ensures c.in_err-used.was c.from_residual.result g c.from_residual.ensures.1

pub returns : goal.returns
returns c =
    let a = c.args in
    let old = c.word_at-old.result in
    let stores = ram a.main.now a.ports.now in
    λ (g : List ℕ). completes (held g a.p0 a.b0 false) (record { machine = held g a.p a.b0 false; written = phases.Word a.place a.v }) stores a.trail.now a.used (changed_to a.place old a.v) _ _ _
    (written_over stores a.place old a.v c.word_at-old.ensures) (kept_values g a.p0 a.p a.b0 a.b0 false (changed_to a.place old a.v)) c.note_word.ensures
    c.in_ok-used.used (ram c.put_word.new.main c.put_word.new.ports) c.in_ok-used.was c.put_word.ensures
