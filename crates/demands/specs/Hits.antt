-- Document 02, W7: which of the operations still listed changed a word, and which of them is the newest.
-- Assumes nothing.
use Rattle.std.specs.Prelude.{ℕ, ◌+◌, ◌≡◌, Bool, true, false, List, [], ◌∷◌, ◌++◌, length}
use Rattle.report.specs.Section3.{State}
use Rattle.report.specs.Parts.{word_at}
use Rattle.machine.specs.Held.{where_of}
use Rattle.machine.specs.declared.Place.{Place}
use Rattle.trail.specs.declared.OldValues.{OldValues}
use Rattle.trail.specs.Records.{differs, old_values_of}
use Rattle.viper.specs.Operations.{Operation, next, kind_of, writes_at}
use Rattle.demands.specs.Histories.{through}

-- What the record of e holds, done after the operations of l.
abbrev pub made_by : Operation → List Operation → State → OldValues
made_by e l s = old_values_of (kind_of e) (through l s) (next e (through l s)) (writes_at e (through l s))

-- Done after those of l, e left another word there than it found.
abbrev pub changes : Place → Operation → List Operation → State → Bool
changes q e l s = differs (word_at (through l s).0 (where_of q)) (word_at (through (e ∷ l) s).0 (where_of q))

-- None of `newer`, done after `older`, did.
abbrev pub NoneChanges : Place → List Operation → List Operation → State → Type 0
NoneChanges q [] older s = Unit {0}
NoneChanges q (e ∷ newer) older s = (changes q e (newer ++ older) s ≡ false) × NoneChanges q newer older s

-- Of the operations of l, the n-th newest is the newest that changed the word, and its record holds o.
pub record Hit (q : Place) (l : List Operation) (s : State) (n : ℕ) (o : OldValues) : Type 0 where
  pub newer : List Operation
  pub operation : Operation
  pub older : List Operation
  pub whole : l ≡ newer ++ (operation ∷ older)
  pub count : n ≡ length newer + 1
  pub values : o ≡ made_by operation older s
  pub changed : changes q operation older s ≡ true
  pub not_since : NoneChanges q newer (operation ∷ older) s
