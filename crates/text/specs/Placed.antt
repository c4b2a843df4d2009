-- What putting a text into a buffer does, whatever the text is.
-- Assumes nothing.
use Rattle.std.specs.Prelude.{ℕ, ◌+◌, ◌≡◌, List, ◌++◌, length, take, drop}

-- The text stands in the buffer from a place on, up to the next; the other bytes are as before.
pub record Placed (at : ℕ) (text before : List ℕ) (next : ℕ) (after : List ℕ) : Type 0 where
  pub next_is : next ≡ at + length text
  pub after_is : after ≡ take at before ++ text ++ drop next before
