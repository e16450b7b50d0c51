use Rattle.std.proofs.Common.{◌≡◌, map, length}
use Rattle.om_typing.specs.Names.{column_in}
use Rattle.om_typing.proofs.columns.find_column.Given as goal

abbrev pub invariant-loop-table : goal.invariant-loop-table
invariant-loop-table l = column_in (map (λ entry. (entry.0.now, entry.1)) l.table) l.name ≡ column_in (map (λ entry. (entry.0.now, entry.1)) l.initial.table) l.name

abbrev pub decreases-loop-table : goal.decreases-loop-table
decreases-loop-table l = length l.table
