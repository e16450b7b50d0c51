use Rattle.std.proofs.Common.{◌+◌, List, drop, Option, sym, ap, subst, ◌∙◌}
use Rattle.std.specs.Option.{option_or}
use Rattle.om_log.specs.Grammar.{AreLawful}
use Rattle.om_log.specs.declared.entry.Entry.{Entry}
use Rattle.om_run.specs.Departure.{departs_at_marks}
use Rattle.om_run.specs.declared.departure.Departure.{Departure}
use Rattle.om_run.specs.Run.{Marked, marks_of}
use Rattle.om_run.proofs.PositionLemmas.{drop_item, marks_next, stand_behind_mark, unmarked_by_late, unmarked_unless}
use Rattle.om_run.proofs.judge.judge_marks.Goals as goal

pub returns-in_default : goal.returns-in_default
returns-in_default c =
    let here = drop_item c.args.entries.now c.loop-entry.entry-index c.entry-item.result c.loop-entry-test.true c.entry-item.is in
    sym (c.loop-entry.invariant.0 ∙ ap (λ (es : List Entry). departs_at_marks (marks_of es c.args.at) c.args.at c.args.machine.now.state) here
    ∙ ap (λ (marks : List Marked). departs_at_marks marks c.args.at c.args.machine.now.state) (unmarked_unless c.args.at c.entry-item.result _ (subst (AreLawful c.args.at) here c.loop-entry.invariant.1) c.in_default.not-Mark))

pub returns-then-step-at : goal.returns-then-step-at
returns-then-step-at c =
    let here = drop_item c.args.entries.now c.loop-entry.entry-index c.entry-item.result c.loop-entry-test.true c.entry-item.is in
    sym (c.loop-entry.invariant.0 ∙ ap (λ (es : List Entry). departs_at_marks (marks_of es c.args.at) c.args.at c.args.machine.now.state) here
    ∙ ap (λ (marks : List Marked). departs_at_marks marks c.args.at c.args.machine.now.state)
    (unmarked_by_late c.args.at c.in-Mark.step c.in-Mark.pc c.in-Mark.sum c.entry-item.result _ (subst (AreLawful c.args.at) here c.loop-entry.invariant.1) c.in-Mark.is c.if-step-at.true))

pub loop-entry-preserved : goal.loop-entry-preserved
loop-entry-preserved c =
    let here = drop_item c.args.entries.now c.loop-entry.entry-index c.entry-item.result c.loop-entry-test.true c.entry-item.is in (
      c.loop-entry.invariant.0 ∙ ap (λ (es : List Entry). departs_at_marks (marks_of es c.args.at) c.args.at c.args.machine.now.state) here
          ∙ ap (λ (marks : List Marked). departs_at_marks marks c.args.at c.args.machine.now.state)
          (marks_next c.args.at c.in-Mark.step c.in-Mark.pc c.in-Mark.sum c.entry-item.result _ c.in-Mark.is c.if-step-at.false)
          ∙ ap (λ (found : Option Departure). option_or found (departs_at_marks (marks_of (drop (c.loop-entry.entry-index + 1) c.args.entries.now) c.args.at) c.args.at c.args.machine.now.state)) (sym c.judge_mark.ensures ∙ c.in_default-judge_mark.is),
      stand_behind_mark c.args.at c.in-Mark.step c.in-Mark.pc c.in-Mark.sum c.entry-item.result _ (subst (AreLawful c.args.at) here c.loop-entry.invariant.1) c.in-Mark.is c.if-step-at.false,
    )
