use Rattle.std.proofs.Common.{◌≡◌, take}
use Rattle.om_names.specs.FoundList.{found_by_units}
use Rattle.om_names.proofs.found.read_found.Given as goal

abbrev pub invariant-loop-unit : goal.invariant-loop-unit
invariant-loop-unit l = l.found ≡ found_by_units l.names l.ranges (take l.unit-index l.unit-items)
