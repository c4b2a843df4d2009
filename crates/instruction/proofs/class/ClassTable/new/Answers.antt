-- The constant is the list whose rule is computed in Table.
use Rattle.instruction.proofs.Table.{entries, entries_classified}
use Rattle.instruction.proofs.class.ClassTable.new.Goals as goal

pub invariant_of-result : goal.invariant_of-result
unfolding entries
invariant_of-result c = record { classified = entries_classified }
