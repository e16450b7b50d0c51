use Rattle.std.proofs.Common.{◌≡◌, ◌++◌, drop}
use Rattle.std.specs.Prelude.{All}
use Rattle.om_elf.specs.Piece.{IsShort}
use Rattle.om_elf.specs.Sections.{pieces_from}
use Rattle.om_elf.proofs.sections.read_sections.Given as goal

abbrev pub invariant-loop-index : goal.invariant-loop-index
invariant-loop-index l = record {
  same : pieces_from l.file l.names 0 l.headers ≡ l.sections.items ++ pieces_from l.file l.names l.index (drop l.index l.headers);
  short : All IsShort l.sections.items;
}
