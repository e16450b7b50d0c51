use Rattle.std.proofs.Common.{ℕ, Option, map, sym, ap, ◌∙◌}
use Rattle.om_base.specs.Firsts.{first_of}
use Rattle.om_die.specs.declared.unit.Unit.{Unit}
use Rattle.om_names.specs.KeptVariables.{loop_by}
use Rattle.om_names.specs.declared.names.Names.{Names}
use Rattle.om_names.proofs.EntryByEntryLemmas.{first_found, first_more, first_none}
use Rattle.om_names.proofs.VariableLemmas.{first_by_unit}
use Rattle.om_names.proofs.variables.first_loop.Goals as goal

loops : Names → Unit → Option ℕ
loops names unit = first_of (map (loop_by names) unit.dies)

pub returns-in-Some : goal.returns-in-Some
unfolding loops
returns-in-Some c =
    first_found (loops c.args.names.now) c.as_slice-unit-items.result.now c.loop-unit.unit-index c.unit-item.result c.unit-item.result c.in-Some.at c.loop-unit-test.true c.unit-item.is c.loop-unit.invariant
    (sym (c.in-Some.ensures ∙ ap (λ dies. first_of (map (loop_by c.args.names.now) dies)) c.as_slice.ensures))
    ∙ ap (λ units. first_of (map (loops c.args.names.now) units)) c.as_slice-unit-items.ensures ∙ first_by_unit (loop_by c.args.names.now) c.args.units.now.list

pub loop-unit-preserved : goal.loop-unit-preserved
unfolding loops
loop-unit-preserved c =
    first_more (loops c.args.names.now) c.as_slice-unit-items.result.now c.loop-unit.unit-index c.unit-item.result c.unit-item.result c.loop-unit-test.true c.unit-item.is c.loop-unit.invariant
    (sym (c.in_default.ensures ∙ ap (λ dies. first_of (map (loop_by c.args.names.now) dies)) c.as_slice.ensures))

pub returns : goal.returns
unfolding loops
returns c =
    first_none (loops c.args.names.now) c.as_slice-unit-items.result.now c.loop-unit.unit-index c.loop-unit-test.false c.loop-unit.invariant
    ∙ ap (λ units. first_of (map (loops c.args.names.now) units)) c.as_slice-unit-items.ensures ∙ first_by_unit (loop_by c.args.names.now) c.args.units.now.list
