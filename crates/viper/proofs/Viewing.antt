-- A view of one word is fitted exactly when the word is.
-- Assumes nothing.
use mathlib.Core.Path.{◌≡◌, ap}
use mathlib.Core.List.{List}
use Prim.Native.Nat.{ℕ, ◌+◌}
use native.Mathlib.Omega.{arith}
use lib.Dec.{leb, ltb}
use lib.ListN.{length}
use Rattle.report.specs.Parts.{fitted}
use Rattle.machine.specs.Held.{ram, where_of}
use Rattle.machine.specs.declared.Place.{Place}
use Rattle.machine.specs.declared.Place.TheVariants.{Main, Port}
use Rattle.viper.specs.Views.{view_fitted}

one_fits : (a words : ℕ) → leb (a + 1) words ≡ ltb a words
one_fits a words = ap (λ (n : ℕ). leb n words) (omega arith)

pub view_one : (main ports : List ℕ) (q : Place) → view_fitted (length main) (length ports) q 1 ≡ fitted (ram main ports) (where_of q)
unfolding fitted
view_one main ports (Main n) = one_fits n.0 (length main)
view_one main ports (Port n) = one_fits n.0 (length ports)
