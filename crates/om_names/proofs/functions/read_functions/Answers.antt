use Rattle.std.proofs.Common.{◌≡◌, [], length, ap, arith}
use Rattle.om_die.specs.Units.{dies_of_units}
use Rattle.om_names.specs.EntryByEntry.{count_in_unit, named_in_unit}
use Rattle.om_names.proofs.EntryByEntryLemmas.{dies_more, dies_within, made_more, sum_more, unit_small}
use Rattle.om_names.proofs.functions.read_functions.Goals as goal

pub add_unit-requires : goal.add_unit-requires
add_unit-requires c =
    let within = dies_within c.as_slice-unit-items.result.now c.loop-unit.unit-index c.unit-item.result c.unit-item.result c.loop-unit-test.true c.unit-item.is in
    let same : length (dies_of_units c.as_slice-unit-items.result.now) ≡ length (dies_of_units c.args.units.now.list) = ap (λ units. length (dies_of_units units)) c.as_slice-unit-items.ensures in
    omega (arith, within, same, c.loop-unit.invariant.few, c.requires)

pub loop-unit-preserved : goal.loop-unit-preserved
loop-unit-preserved c = record {
  claims = made_more _ (named_in_unit c.args.names.now c.args.section.now) c.as_slice-unit-items.result.now c.loop-unit.unit-index c.unit-item.result c.unit-item.result [] c.loop-unit.functions.claims _ c.loop-unit-test.true
      c.unit-item.is c.loop-unit.invariant.claims c.in_ok-add_unit.ensures.claims;
  names = made_more _ (named_in_unit c.args.names.now c.args.section.now) c.as_slice-unit-items.result.now c.loop-unit.unit-index c.unit-item.result c.unit-item.result [] c.loop-unit.functions.names _ c.loop-unit-test.true
      c.unit-item.is c.loop-unit.invariant.names c.in_ok-add_unit.ensures.names;
  count = omega (
    arith,
    c.in_ok-add_unit.ensures.count,
    c.loop-unit.invariant.count,
    sum_more (count_in_unit c.args.section.now) c.as_slice-unit-items.result.now c.loop-unit.unit-index c.unit-item.result c.unit-item.result c.loop-unit-test.true c.unit-item.is,
  );
  few = omega (
    arith,
    c.in_ok-add_unit.ensures.count,
    c.loop-unit.invariant.few,
    unit_small c.args.section.now c.unit-item.result,
    dies_more c.as_slice-unit-items.result.now c.loop-unit.unit-index c.unit-item.result c.unit-item.result c.loop-unit-test.true c.unit-item.is,
  );
}
