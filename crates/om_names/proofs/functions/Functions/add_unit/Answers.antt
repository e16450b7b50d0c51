use Rattle.std.proofs.Common.{◌+◌, ◌++◌, ap, ◌∙◌, arith}
use Rattle.om_names.specs.EntryByEntry.{claims_of, count_by, named_spans, names_of}
use Rattle.om_names.proofs.EntryByEntryLemmas.{count_small, made_more, sum_more, unit_count, unit_named}
use Rattle.om_names.proofs.functions.Functions.add_unit.Goals as goal

pub loop-die-preserved : goal.loop-die-preserved
loop-die-preserved c = record {
  claims = made_more _ (named_spans c.args.names.now c.args.section.now c.base_of-base.result) c.as_slice-die-items.result.now c.loop-die.die-index c.die-item.result c.die-item.result c.args.self.now.claims c.loop-die.self.claims _
      c.loop-die-test.true c.die-item.is c.loop-die.invariant.claims c.in_ok-add.ensures.claims;
  names = made_more _ (named_spans c.args.names.now c.args.section.now c.base_of-base.result) c.as_slice-die-items.result.now c.loop-die.die-index c.die-item.result c.die-item.result c.args.self.now.names c.loop-die.self.names _
      c.loop-die-test.true c.die-item.is c.loop-die.invariant.names c.in_ok-add.ensures.names;
  count = omega (
    arith,
    c.in_ok-add.ensures.count,
    c.loop-die.invariant.count,
    sum_more (count_by c.args.section.now c.base_of-base.result) c.as_slice-die-items.result.now c.loop-die.die-index c.die-item.result c.die-item.result c.loop-die-test.true c.die-item.is,
  );
  few = omega (arith, c.in_ok-add.ensures.count, c.loop-die.invariant.few, count_small c.args.section.now c.base_of-base.result c.die-item.result);
}

pub returns-clause-claims : goal.returns-clause-claims
returns-clause-claims c =
    c.loop-die.invariant.claims
    ∙ ap (λ named. c.args.self.now.claims ++ claims_of named)
    (unit_named c.args.names.now c.args.section.now c.args.unit.now c.base_of-base.result c.loop-die.die-index c.as_slice-die-items.result.now c.base_of-base.ensures c.as_slice-die-items.ensures c.loop-die-test.false)

pub returns-clause-names : goal.returns-clause-names
returns-clause-names c =
    c.loop-die.invariant.names
    ∙ ap (λ named. c.args.self.now.names ++ names_of named)
    (unit_named c.args.names.now c.args.section.now c.args.unit.now c.base_of-base.result c.loop-die.die-index c.as_slice-die-items.result.now c.base_of-base.ensures c.as_slice-die-items.ensures c.loop-die-test.false)

pub returns-clause-count : goal.returns-clause-count
returns-clause-count c =
    c.loop-die.invariant.count
    ∙ ap (λ n. c.args.self.now.count + n)
    (unit_count c.args.section.now c.args.unit.now c.base_of-base.result c.loop-die.die-index c.as_slice-die-items.result.now c.base_of-base.ensures c.as_slice-die-items.ensures c.loop-die-test.false)
