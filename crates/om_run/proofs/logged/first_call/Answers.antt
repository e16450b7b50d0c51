use Rattle.std.proofs.Common.{sym, ap, subst, ◌∙◌}
use Rattle.om_log.specs.Grammar.{AreLawful}
use Rattle.om_log.specs.declared.entry.Entry.{Entry}
use Rattle.std.proofs.Common.{List}
use Rattle.om_run.specs.Run.{due}
use Rattle.om_run.proofs.PositionLemmas.{drop_item, due_behind, none_at, stand_behind}
use Rattle.om_run.proofs.logged.first_call.Goals as goal

pub returns-then-step-at : goal.returns-then-step-at
returns-then-step-at c =
    let here = drop_item c.args.entries.now c.loop-entry.entry-index c.entry-item.result c.loop-entry-test.true c.entry-item.is in
    sym (c.loop-entry.invariant.0 ∙ ap (λ (es : List Entry). due es c.args.at) here
    ∙ none_at c.args.at c.entry-item.result _ (subst (AreLawful c.args.at) here c.loop-entry.invariant.1) (λ same. c.if-step-at.true (c.step.ensures ∙ same)))

pub loop-entry-preserved : goal.loop-entry-preserved
loop-entry-preserved c =
    let here = drop_item c.args.entries.now c.loop-entry.entry-index c.entry-item.result c.loop-entry-test.true c.entry-item.is in
    let none = sym c.call_in.ensures ∙ c.in_default.is in (
      c.loop-entry.invariant.0 ∙ ap (λ (es : List Entry). due es c.args.at) here ∙ due_behind c.entry-item.result _ c.args.at none,
      stand_behind c.args.at c.entry-item.result _ (subst (AreLawful c.args.at) here c.loop-entry.invariant.1) (sym c.step.ensures ∙ c.if-step-at.false) none,
    )
