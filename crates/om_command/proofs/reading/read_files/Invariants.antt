use Rattle.std.proofs.Common.{map, take}
use Rattle.std.specs.Prelude.{string_bytes}
use Rattle.om_command.specs.Reads.{AreMet, OnlyTakes}
use Rattle.om_command.proofs.reading.read_files.Given as goal

-- the files so far are read
abbrev pub invariant-loop-name : goal.invariant-loop-name
invariant-loop-name g l = record {
  met : AreMet (g.F.Shelf.told l.fn.shelf).files (map string_bytes (take l.name-index l.names)) l.contents;
  takes : OnlyTakes (g.F.Shelf.told l.fn.shelf) (g.F.Shelf.told l.shelf) (map string_bytes (take l.name-index l.names));
}
