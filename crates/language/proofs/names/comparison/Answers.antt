-- The table's names are those of the definition.
-- Assumes nothing.
use mathlib.Core.Path.{◌∙◌}
use Rattle.language.specs.Names.{split}
use Rattle.language.proofs.Naming.{comparisons}
use Rattle.language.proofs.names.comparison.Goals as goal

pub returns : goal.returns
unfolding split
returns c = c.named.ensures ∙ comparisons c.args.fsf
