use Rattle.std.proofs.Common.{map, ap, sym, ◌∙◌}
use Rattle.om_base.specs.Firsts.{first_of}
use Rattle.om_names.specs.EntryByEntry.{fault_in}
use Rattle.om_names.proofs.EntryByEntryLemmas.{first_by_units, first_found, first_more, first_none}
use Rattle.om_names.proofs.judging.first_fault.Goals as goal

pub returns-in-Some : goal.returns-in-Some
returns-in-Some c = λ section are.
    first_found (fault_in section) c.as_slice-unit-items.result.now c.loop-unit.unit-index c.unit-item.result c.unit-item.result c.in-Some.fault c.loop-unit-test.true c.unit-item.is (c.loop-unit.invariant section are)
    (sym (c.in-Some.ensures section are))
    ∙ ap (λ units. first_of (map (fault_in section) units)) c.as_slice-unit-items.ensures ∙ first_by_units section c.args.units.now.list

pub loop-unit-preserved : goal.loop-unit-preserved
loop-unit-preserved c = λ section are.
    first_more (fault_in section) c.as_slice-unit-items.result.now c.loop-unit.unit-index c.unit-item.result c.unit-item.result c.loop-unit-test.true c.unit-item.is (c.loop-unit.invariant section are)
    (sym (c.in_default.ensures section are))

pub returns : goal.returns
returns c = λ section are.
    first_none (fault_in section) c.as_slice-unit-items.result.now c.loop-unit.unit-index c.loop-unit-test.false (c.loop-unit.invariant section are)
    ∙ ap (λ units. first_of (map (fault_in section) units)) c.as_slice-unit-items.ensures ∙ first_by_units section c.args.units.now.list
