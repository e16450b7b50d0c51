use Rattle.std.proofs.Common.{length}
use Rattle.om_die.proofs.IndexLemmas.{IsIndexed}
use Rattle.om_die.proofs.abbreviation_table.read_table.Given as goal

abbrev pub invariant-loop-table : goal.invariant-loop-table
invariant-loop-table l = IsIndexed l.bytes l.table.by_code l.rest

abbrev pub decreases-loop-table : goal.decreases-loop-table
decreases-loop-table l = length l.rest
