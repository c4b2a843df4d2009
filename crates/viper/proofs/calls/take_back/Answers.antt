-- The stores are taken back; the machine is put back from the old values, and the count is what the record leaves.
use mathlib.Core.Path.{ap, ◌∙◌}
use Prim.{tt}
use Rattle.std.specs.Prelude.{Ok}
use Rattle.machine.specs.Held.{ram}
use Rattle.machine.specs.declared.Machine.{Machine}
use Rattle.viper.specs.Finding.{Restores}
use Rattle.viper.specs.Told.{bench}
use Rattle.viper.proofs.calls.take_back.Goals as goal

pub returns : goal.returns
returns c =
    let a = c.args in
    let r = c.restore_stores in
    let back = c.in_ok-back.back in
    let found : Restores (ram r.new.main r.new.ports) (bench a.m a.main.now a.ports.now a.trail.now a.used) back.values back.left back.marked = c.in_ok-back.ensures in
    ap (λ (m : Machine). record { answered = Ok tt; bench = bench m r.new.main r.new.ports a.trail.now back.left }) (c.machine_restored.ensures a.main.now a.ports.now)
    ∙ found.outcome
