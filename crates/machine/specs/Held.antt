-- What the bench holds, as the report's state: a machine with its two stores, and a place as the report's io signal and address.
-- Assumes nothing.
use Rattle.std.specs.Prelude.{ℕ, Bool, true, false, List}
use Rattle.report.specs.AnnexA.{Mem}
use Rattle.report.specs.Section3.{State}
use Rattle.report.specs.Parts.{Where}
use Rattle.machine.specs.declared.Machine.{Machine}
use Rattle.machine.specs.declared.Place.{Place}
use Rattle.machine.specs.declared.Place.TheVariants.{Main, Port}

abbrev pub ram : List ℕ → List ℕ → Mem
ram main ports = record { main = main; ports = ports }

-- The report's state of a machine whose stores are main and ports.
abbrev pub state : Machine → Mem → State
state m r = (r, m.p, m.a, m.x, m.y, m.b, m.stop)

-- The machine of a state: all but the stores.
abbrev pub machine_of : State → Machine
machine_of (r, p, a, x, y, b, stop) = record { a = a; x = x; y = y; p = p; b = b; stop = stop }

-- A place, as the report has it.
abbrev pub where_of : Place → Where
where_of (Main n) = (false, n.0)
where_of (Port n) = (true, n.0)

abbrev pub place_by : Bool → ℕ → Place
place_by true n = Port (record { 0 = n })
place_by false n = Main (record { 0 = n })

abbrev pub place_of : Where → Place
place_of (io, n) = place_by io n
