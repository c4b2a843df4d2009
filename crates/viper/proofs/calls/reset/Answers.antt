-- The record and the answer are those of `note` at the cleared machine.
use mathlib.Core.Path.{◌≡◌, ◌∙◌}
use mathlib.Core.Bool.{false}
use Rattle.std.proofs.Common.{rules}
use Rattle.machine.specs.Held.{ram}
use Rattle.viper.proofs.Exits.{reset_is}
use Rattle.viper.proofs.calls.reset.Goals as goal

pub returns : goal.returns
returns c =
    let cleared : c.default.result ≡ record { a = 0; x = 0; y = 0; p = 0; b = false; stop = false } = search rules in
    λ main ports. rw cleared at (c.note.ensures main ports) ∙ reset_is c.args.m (ram main ports) c.args.trail.now c.args.used
