use Rattle.std.proofs.Common.{take}
use Rattle.om_die.specs.Units.{dies_of_units}
use Rattle.om_names.specs.Names.{AreNames}
use Rattle.om_names.proofs.names.read_names.Given as goal

abbrev pub invariant-loop-unit : goal.invariant-loop-unit
invariant-loop-unit l = AreNames (dies_of_units (take l.unit-index l.unit-items)) l.names
