use Rattle.std.proofs.Common.{◌≡◌, ◌≤◌, length, take}
use Rattle.std.specs.Prelude.{sum_by}
use Rattle.std.specs.List.{flat_map}
use Rattle.om_die.specs.Units.{dies_of_units}
use Rattle.om_names.specs.EntryByEntry.{claims_of, count_in_unit, named_in_unit, names_of}
use Rattle.om_names.proofs.functions.read_functions.Given as goal

abbrev pub invariant-loop-unit : goal.invariant-loop-unit
invariant-loop-unit l = record {
  claims : l.functions.claims ≡ claims_of (flat_map (named_in_unit l.names l.section) (take l.unit-index l.unit-items));
  names : l.functions.names ≡ names_of (flat_map (named_in_unit l.names l.section) (take l.unit-index l.unit-items));
  count : l.functions.count ≡ sum_by (count_in_unit l.section) (take l.unit-index l.unit-items);
  few : l.functions.count ≤ length (dies_of_units (take l.unit-index l.unit-items));
}
