use Rattle.std.proofs.Common.{◌≡◌, length}
use Rattle.std.specs.List.{list_any}
use Rattle.om_typing.specs.Queries.{has_same_variable}
use Rattle.om_typing.proofs.queries.has_same_variable.Given as goal

abbrev pub invariant-loop-rest : goal.invariant-loop-rest
invariant-loop-rest l = list_any (λ one. has_same_variable one l.table) l.tables ≡ list_any (λ one. has_same_variable one l.table) l.rest

abbrev pub decreases-loop-rest : goal.decreases-loop-rest
decreases-loop-rest l = length l.rest
