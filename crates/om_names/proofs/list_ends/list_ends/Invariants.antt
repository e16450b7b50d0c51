use Rattle.om_names.specs.ListEnds.{AreLast}
use Rattle.om_names.proofs.list_ends.list_ends.Given as goal

abbrev pub invariant-loop-remainder : goal.invariant-loop-remainder
invariant-loop-remainder l = AreLast l.section l.remainder l.last
