-- The machine is that of regs; the stores are taken back, and the registers are put back in regs.
use mathlib.Core.Path.{◌≡◌, sym, ap, ◌∙◌}
use Rattle.machine.specs.Held.{ram, state, machine_of}
use Rattle.machine.specs.declared.Machine.{Machine}
use Rattle.trail.specs.Records.{restored}
use Rattle.viper.specs.TakingBack.{back_outcome}
use Rattle.viper_c.specs.Surface.{regs_of_machine}
use Rattle.viper_c.proofs.Handing.{call_seen}
use Rattle.viper_c.proofs.PuttingBack.{all_restored}
use Rattle.viper_c.proofs.viper_back.Goals as goal

pub returns-in-Ok : goal.returns-in-Ok
returns-in-Ok c =
    let a = c.args in
    let m = c.machine_of in
    let k = c.restore_stores in
    let b = c.in-Ok.back in
    let found = rw c.in-Ok.is at k.ensures in
    let stores = ram a.main.now a.ports.now in
    let regs = c.put_back.new.regs in
    let after = machine_of (restored b.values (state m.result stores)) in
    let words : regs ≡ regs_of_machine after =
    c.put_back.ensures
    ∙ all_restored b.values stores a.regs.now
    ∙ ap (λ (n : Machine). regs_of_machine (machine_of (restored b.values (state n stores)))) (sym m.ensures)
    in
    rw words (call_seen a.regs.now a.main.now a.ports.now a.trail.now a.used.now m.result k.new.main k.new.ports a.trail.now after b.left back_outcome m.ensures found.outcome)
