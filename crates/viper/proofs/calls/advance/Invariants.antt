-- At its head the loop keeps `Going`: the run of the whole budget is, after the steps done, the run of the rest from the present bench.
use mathlib.Core.Path.{◌≡◌}
use Prim.Native.Nat.{◌-◌}
use lib.ListN.{length}
use Rattle.step.specs.Phases.{held}
use Rattle.viper.proofs.Stepping.{Going}
use Rattle.viper.proofs.calls.advance.Given as goal

abbrev pub invariant-loop-stop : goal.invariant-loop-stop
invariant-loop-stop l =
    Going l.initial.main l.initial.ports l.initial.trail (held l.initial.sources l.initial.p l.initial.b l.initial.stop) l.initial.count l.budget l.main l.ports l.trail (held l.sources l.p l.b l.stop) l.count l.steps × (length l.sources ≡ 4)

abbrev pub decreases-loop-stop : goal.decreases-loop-stop
decreases-loop-stop l =
    l.budget - l.steps
