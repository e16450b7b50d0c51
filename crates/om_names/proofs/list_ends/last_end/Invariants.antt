use Rattle.std.proofs.Common.{◌+◌, ◌*◌}
use Rattle.om_names.specs.ListEnds.{IsLastBelow}
use Rattle.om_names.proofs.list_ends.last_end.Given as goal

abbrev pub invariant-loop-entry : goal.invariant-loop-entry
invariant-loop-entry l = IsLastBelow l.section l.remainder (l.remainder + 8 * l.entry) l.last
