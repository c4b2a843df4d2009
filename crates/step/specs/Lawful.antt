-- What a step may count on: none of document 01's refusals 1 to 3 applies.
-- Assumes nothing.
use Rattle.std.specs.Prelude.{ℕ, ◌<◌, ◌≤◌, ◌^◌}

-- By P, the words of both stores, the bytes of the trail and those in use.
pub record Lawful (p main ports trail used : ℕ) : Type 0 where
  pub p_lt : p < 2 ^ 20
  pub main_le : main ≤ 2 ^ 20
  pub ports_le : ports ≤ 2 ^ 20
  pub used_le : used ≤ trail
