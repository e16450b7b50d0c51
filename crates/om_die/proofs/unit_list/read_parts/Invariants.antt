use Rattle.std.proofs.Common.{length}
use Rattle.om_die.specs.UnitList.{AreTables, shown}
use Rattle.om_die.proofs.UnitLaws.{IsAt}
use Rattle.om_die.proofs.unit_list.read_parts.Given as goal

abbrev pub invariant-loop-rest : goal.invariant-loop-rest
invariant-loop-rest l = record {
  here : IsAt (shown l.sections) l.parts l.rest;
  tables : AreTables l.sections.abbreviations.now l.tables;
}

abbrev pub decreases-loop-rest : goal.decreases-loop-rest
decreases-loop-rest l = length l.rest
