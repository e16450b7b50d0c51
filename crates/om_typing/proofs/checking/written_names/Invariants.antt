use Rattle.std.proofs.Common.{◌≡◌, map, take}
use Rattle.om_typing.specs.Typing.{written_name}
use Rattle.om_typing.proofs.checking.written_names.Given as goal

abbrev pub invariant-loop-table : goal.invariant-loop-table
invariant-loop-table l = l.names ≡ map written_name (take l.table-index l.tables)
