-- The machine is that of regs, the call is viper's run, and what it came to is handed back.
use borrow.Author.Rules.{rules}
use Rattle.viper.specs.Runs.{run_outcome}
use Rattle.viper_c.proofs.Handing.{ended_handed, run_seen}
use Rattle.viper_c.proofs.viper_run.Goals as goal

pub returns-in-Ok : goal.returns-in-Ok
returns-in-Ok c =
    let a = c.args in
    let m = c.machine_of in
    let k = c.run in
    let w = c.write_back in
    run_seen a.regs.now a.main.now a.ports.now a.trail.now a.used.now m.result k.new.main k.new.ports k.new.trail (run_outcome a.budget) k.result _ w.new.regs w.new.used m.ensures k.ensures
    (ended_handed a.regs.now a.used.now k.result c.in-Ok.ran _ w.new.regs w.new.used c.in-Ok.is (search rules) w.ensures)
