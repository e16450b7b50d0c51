use Rattle.std.proofs.Common.{rules}
use Rattle.om_die.specs.UnitList.{skips_in}
use Rattle.om_die.specs.Units.{dies_in, units_in}
use Rattle.om_die.proofs.unit_list.Parts.new.Goals as goal

pub returns : goal.returns
unfolding dies_in skips_in units_in
returns c = search rules
