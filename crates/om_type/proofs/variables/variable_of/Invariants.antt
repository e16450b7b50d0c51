use Rattle.std.proofs.Common.{◌≡◌, ◌-◌, ◌≤◌, length}
use Rattle.om_parse.specs.Identifiers.{said}
use Rattle.om_type.specs.Checking.{variable_from}
use Rattle.om_type.proofs.variables.variable_of.Given as goal

abbrev pub invariant-loop-rest : goal.invariant-loop-rest
invariant-loop-rest l = (length l.rest ≤ length l.catalog) × (variable_from (length l.catalog - length l.rest) l.rest (said l.name) ≡ variable_from 0 l.catalog (said l.name))

abbrev pub decreases-loop-rest : goal.decreases-loop-rest
decreases-loop-rest l = length l.rest
