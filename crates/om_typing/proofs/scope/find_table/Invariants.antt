use Rattle.std.proofs.Common.{◌≡◌, ◌-◌, ◌≤◌, length}
use Rattle.om_typing.specs.Names.{table_from}
use Rattle.om_typing.proofs.scope.find_table.Given as goal

abbrev pub invariant-loop-rest : goal.invariant-loop-rest
invariant-loop-rest l = (length l.rest ≤ length l.tables) × (table_from (length l.tables - length l.rest) l.rest l.name ≡ table_from 0 l.tables l.name)

abbrev pub decreases-loop-rest : goal.decreases-loop-rest
decreases-loop-rest l = length l.rest
