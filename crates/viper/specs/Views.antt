-- Document 01: a view answers n words from an address, as a stretch of the main store or of the port store.
-- Assumes nothing.
use Rattle.std.specs.Prelude.{ℕ, ◌+◌, Bool, cond, List, [], leb, length, take, drop}
use Rattle.machine.specs.declared.Place.{Place}
use Rattle.machine.specs.declared.Place.TheVariants.{Main, Port}

-- The stretch of n words from an address is wholly fitted in a store of this many words. (n = 0: the address is at most the length.)
abbrev pub stretch_fitted : ℕ → ℕ → ℕ → Bool
stretch_fitted words a n = leb (a + n) words

abbrev pub stretch : List ℕ → ℕ → ℕ → List ℕ
stretch store a n = cond (stretch_fitted (length store) a n) (take n (drop a store)) []

abbrev pub viewed : List ℕ → List ℕ → Place → ℕ → List ℕ
viewed main ports (Main a) n = stretch main a.0 n
viewed main ports (Port a) n = stretch ports a.0 n

abbrev pub view_fitted : ℕ → ℕ → Place → ℕ → Bool
view_fitted main ports (Main a) n = stretch_fitted main a.0 n
view_fitted main ports (Port a) n = stretch_fitted ports a.0 n
