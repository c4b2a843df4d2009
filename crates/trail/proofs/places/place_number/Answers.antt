-- `place_number` meets its contract: by the place.
-- Assumes nothing.
use native.Mathlib.Omega.{arith}
use Rattle.trail.proofs.places.place_number.Goals as goal

pub overflow_add-result : goal.overflow_add-result
overflow_add-result c = omega (arith, rw c.in-Port.is at c.requires)

pub returns-in-Port : goal.returns-in-Port
returns-in-Port c = rw c.in-Port.is
