use Rattle.std.proofs.Common.{map, inl, refl, sym, ap, subst, ◌∙◌}
use Rattle.om_typing.specs.Names.{Scope}
use Rattle.om_typing.specs.Queries.{query_mistakes}
use Rattle.om_typing.specs.declared.mistake.Foremost.{Foremost}
use Rattle.om_typing.specs.Typing.{AreAccepted, written_name, outputs_from}
use Rattle.om_typing.proofs.Foremosts.{mistaken, unmistaken, unbuilt, built, typed_is, no_mistake}
use Rattle.om_typing.proofs.AcceptedQueries.{query_accepted}
use Rattle.om_typing.proofs.checking.check.Goals as goal

pub returns-in-Some-clause-gives : goal.returns-in-Some-clause-gives
returns-in-Some-clause-gives c = inl (sym (mistaken c.args.catalog.now c.args.query.now c.judge_query.result c.in-Some.mistake c.judge_query.ensures c.in-Some.is))

pub returns-then-not-is_plain-clause-gives : goal.returns-then-not-is_plain-clause-gives
returns-then-not-is_plain-clause-gives c =
    inl (sym (unbuilt c.args.catalog.now c.args.query.now c.is_plain.result c.is_plain.ensures c.if-not-is_plain.true (unmistaken c.args.catalog.now c.args.query.now c.judge_query.result c.judge_query.ensures c.in_default.is)))

pub returns-clause-gives : goal.returns-clause-gives
returns-clause-gives c =
    let scope : Scope = record { catalog = c.args.catalog.now; tables = c.as_slice-2.result.now; groups = c.as_slice-3.result.now } in
    inl (built c.args.catalog.now c.args.query.now c.is_plain.result scope c.in_ok-tables.tables c.in_ok-conjuncts.conjuncts c.in_ok-outputs.outputs c.is_plain.ensures c.if-not-is_plain.false (unmistaken c.args.catalog.now c.args.query.now c.judge_query.result c.judge_query.ensures c.in_default.is)
    (rw (c.as_slice-2.ensures, c.as_slice-3.ensures, c.in_ok-groups.ensures) refl)
    (c.in_ok-tables.ensures ∙ ap (map written_name) c.as_slice-5.ensures)
    c.in_ok-conjuncts.ensures
    (c.in_ok-outputs.ensures ∙ ap (outputs_from scope 1) c.as_slice-6.ensures))

pub returns-clause-accepted : goal.returns-clause-accepted
returns-clause-accepted c =
    let scope : Scope = record { catalog = c.args.catalog.now; tables = c.as_slice-2.result.now; groups = c.as_slice-3.result.now } in
    let typed = typed_is c.args.catalog.now c.args.query.now scope c.in_ok-tables.tables c.in_ok-conjuncts.conjuncts c.in_ok-outputs.outputs
    (rw (c.as_slice-2.ensures, c.as_slice-3.ensures, c.in_ok-groups.ensures) refl)
    (c.in_ok-tables.ensures ∙ ap (map written_name) c.as_slice-5.ensures)
    c.in_ok-conjuncts.ensures
    (c.in_ok-outputs.ensures ∙ ap (outputs_from scope 1) c.as_slice-6.ensures) in
    let none = no_mistake (query_mistakes c.args.catalog.now c.args.query.now) (ap (λ (f : Foremost). f.mistake) (sym c.judge_query.ensures) ∙ c.in_default.is) in
    subst (AreAccepted c.args.catalog.now) (sym typed) (query_accepted c.args.catalog.now c.args.query.now (sym c.is_plain.ensures ∙ c.if-not-is_plain.false) none)
