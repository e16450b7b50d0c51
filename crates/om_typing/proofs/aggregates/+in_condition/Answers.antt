use Rattle.std.proofs.Common.{◌≡◌, true, sym, ap, ◌∙◌}
use Rattle.std.specs.List.{list_any}
use Rattle.std.proofs.lemmas.List.{take_all}
use Rattle.std.proofs.lemmas.List.Folds.{list_any_at}
use Rattle.om_typing.specs.Queries.{condition_has_aggregate}
use Rattle.om_typing.proofs.AggregateLemmas.{in_all_is, in_any_is}
use Rattle.om_typing.proofs.aggregates.+in_condition.Goals as goal

pub returns-then-in_condition : goal.returns-then-in_condition
returns-then-in_condition t c =
    let there : condition_has_aggregate c.member-item.result ≡ true = sym c.in_condition-in-loop-member.ensures ∙ c.if-in_condition.true in
    sym (ap condition_has_aggregate c.in-All.is ∙ in_all_is c.in-All.members ∙ ap (list_any condition_has_aggregate) (sym c.as_slice-member-items.ensures)
    ∙ list_any_at condition_has_aggregate c.as_slice-member-items.result.now c.loop-member.member-index c.member-item.result c.loop-member-test.true (ap condition_has_aggregate (sym c.member-item.is) ∙ there))

pub returns-then-in_condition-2 : goal.returns-then-in_condition-2
returns-then-in_condition-2 t c =
    let there : condition_has_aggregate c.member-item-in-loop-member-2.result ≡ true = sym c.in_condition-in-loop-member-2.ensures ∙ c.if-in_condition-2.true in
    sym (ap condition_has_aggregate c.in-Any.is ∙ in_any_is c.in-Any.members ∙ ap (list_any condition_has_aggregate) (sym c.as_slice-member-items-in-Any.ensures)
    ∙ list_any_at condition_has_aggregate c.as_slice-member-items-in-Any.result.now c.loop-member-2.member-index c.member-item-in-loop-member-2.result c.loop-member-2-test.true (ap condition_has_aggregate (sym c.member-item-in-loop-member-2.is) ∙ there))

pub returns-after-loop-member : goal.returns-after-loop-member
returns-after-loop-member t c =
    sym (ap condition_has_aggregate c.in-All.is ∙ in_all_is c.in-All.members
    ∙ ap (list_any condition_has_aggregate) (sym (take_all c.loop-member.member-index c.as_slice-member-items.result.now c.loop-member-test.false ∙ c.as_slice-member-items.ensures)) ∙ c.loop-member.invariant)

pub returns-after-loop-member-2 : goal.returns-after-loop-member-2
returns-after-loop-member-2 t c =
    sym (ap condition_has_aggregate c.in-Any.is ∙ in_any_is c.in-Any.members
    ∙ ap (list_any condition_has_aggregate) (sym (take_all c.loop-member-2.member-index c.as_slice-member-items-in-Any.result.now c.loop-member-2-test.false ∙ c.as_slice-member-items-in-Any.ensures)) ∙ c.loop-member-2.invariant)
