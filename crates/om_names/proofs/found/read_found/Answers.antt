use Rattle.std.proofs.Common.{◌++◌, ap, sym, ◌∙◌}
use Rattle.om_names.specs.FoundList.{found_by_units, found_in_unit}
use Rattle.om_names.proofs.EntryByEntryLemmas.{flat_more}
use Rattle.om_names.proofs.found.read_found.Goals as goal

pub loop-unit-init : goal.loop-unit-init
unfolding found_by_units
loop-unit-init c = c.new-found.ensures

pub loop-unit-preserved : goal.loop-unit-preserved
unfolding found_by_units
loop-unit-preserved c =
    c.in_ok-add_unit.ensures ∙ ap (λ found. found ++ found_in_unit c.args.names.now c.args.ranges.now c.unit-item.result) c.loop-unit.invariant
    ∙ sym (flat_more (found_in_unit c.args.names.now c.args.ranges.now) c.as_slice-unit-items.result.now c.loop-unit.unit-index c.unit-item.result c.unit-item.result c.loop-unit-test.true c.unit-item.is)
