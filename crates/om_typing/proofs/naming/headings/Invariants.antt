use Rattle.std.proofs.Common.{◌≡◌, ◌+◌, ◌++◌, length}
use Rattle.om_typing.specs.Queries.{headings_from}
use Rattle.om_typing.proofs.naming.headings.Given as goal

abbrev pub invariant-loop-rest : goal.invariant-loop-rest
invariant-loop-rest l = headings_from 1 l.items ≡ l.headings ++ headings_from (length l.headings + 1) l.rest

abbrev pub decreases-loop-rest : goal.decreases-loop-rest
decreases-loop-rest l = length l.rest
