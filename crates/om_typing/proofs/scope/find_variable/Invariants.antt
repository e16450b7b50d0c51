use Rattle.std.proofs.Common.{◌≡◌, ◌-◌, ◌≤◌, length}
use Rattle.om_typing.specs.Names.{variable_from}
use Rattle.om_typing.proofs.scope.find_variable.Given as goal

abbrev pub invariant-loop-rest : goal.invariant-loop-rest
invariant-loop-rest l = (length l.rest ≤ length l.catalog) × (variable_from (length l.catalog - length l.rest) l.rest l.name ≡ variable_from 0 l.catalog l.name)

abbrev pub decreases-loop-rest : goal.decreases-loop-rest
decreases-loop-rest l = length l.rest
