use Rattle.std.proofs.Common.{map, ap, sym, ◌∙◌}
use Rattle.om_base.specs.Firsts.{first_of}
use Rattle.om_names.specs.Ranges.{range_fault}
use Rattle.om_names.specs.EntryByEntry.{entry_in}
use Rattle.om_names.proofs.EntryByEntryLemmas.{first_found, first_more, first_none}
use Rattle.om_names.proofs.judging.fault_in.Goals as goal

pub returns-in-Some : goal.returns-in-Some
returns-in-Some c = λ section are.
    first_found (λ die. range_fault section (entry_in c.args.unit.now die)) c.as_slice-die-items.result.now c.loop-die.die-index c.die-item.result c.die-item.result c.in-Some.fault c.loop-die-test.true c.die-item.is
    (c.loop-die.invariant section are) (sym (c.in-Some.ensures section c.args.unit.now are))
    ∙ ap (λ dies. first_of (map (λ die. range_fault section (entry_in c.args.unit.now die)) dies)) c.as_slice-die-items.ensures

pub loop-die-preserved : goal.loop-die-preserved
loop-die-preserved c = λ section are.
    first_more (λ die. range_fault section (entry_in c.args.unit.now die)) c.as_slice-die-items.result.now c.loop-die.die-index c.die-item.result c.die-item.result c.loop-die-test.true c.die-item.is
    (c.loop-die.invariant section are) (sym (c.in_default.ensures section c.args.unit.now are))

pub returns : goal.returns
returns c = λ section are.
    first_none (λ die. range_fault section (entry_in c.args.unit.now die)) c.as_slice-die-items.result.now c.loop-die.die-index c.loop-die-test.false (c.loop-die.invariant section are)
    ∙ ap (λ dies. first_of (map (λ die. range_fault section (entry_in c.args.unit.now die)) dies)) c.as_slice-die-items.ensures
