use Rattle.std.proofs.Common.{◌≡◌, sym, ◌∙◌}
use Rattle.om_eval.specs.Meaning.{truth}
use Rattle.om_eval.proofs.Members.{truth-Compare, at_no, at_end, after_yes, after_unknown}
use Rattle.om_eval.proofs.evaluation.+truth_of_tree.Goals as goal
use Rattle.om_eval.proofs.evaluation.+truth_of_tree.Goals.{in-Unknown, in-Yes, in-Compare-member, in-And-member}

pub returns-in-No : goal.returns-in-No
returns-in-No g t c =
    let known : c.match-member.of_member ≡ truth (g.C.Cells.tuple c.args.cells.now) c.member-item.result = elim c.match-member.branch [
      | in-Compare-member v ↦ v.of_member-is ∙ rw v.in-Compare-member.is (rw truth-Compare v.truth_of_comparison-of_member.ensures)
      | in-And-member v ↦ v.of_member-is ∙ v.truth_of_tree-of_member.ensures
    ] in
    rw (c.in-And.is, ← c.as_slice-member-items.ensures) (at_no _ _ _ _ record { within = c.loop-member-test.true; is = c.member-item.is; known = sym c.in-No.is ∙ known })

pub loop-member-preserved : goal.loop-member-preserved
loop-member-preserved g t c =
    let known : c.match-member.of_member ≡ truth (g.C.Cells.tuple c.args.cells.now) c.member-item.result = elim c.match-member.branch [
      | in-Compare-member v ↦ v.of_member-is ∙ rw v.in-Compare-member.is (rw truth-Compare v.truth_of_comparison-of_member.ensures)
      | in-And-member v ↦ v.of_member-is ∙ v.truth_of_tree-of_member.ensures
    ] in
    elim c.match-of_member.branch [
      | in-Unknown w ↦ rw w.truth-is (after_unknown _ _ _ _ c.member-item.result record { within = c.loop-member-test.true; is = c.member-item.is; known = sym w.in-Unknown.is ∙ known } c.loop-member.invariant)
      | in-Yes w ↦ rw w.truth-is (after_yes _ _ _ _ c.member-item.result record { within = c.loop-member-test.true; is = c.member-item.is; known = sym w.in-Yes.is ∙ known } c.loop-member.invariant)
    ]

pub returns-in-Compare : goal.returns-in-Compare
returns-in-Compare g t c = rw c.in-Compare.is (rw truth-Compare c.truth_of_comparison.ensures)

pub returns-after-loop-member : goal.returns-after-loop-member
returns-after-loop-member g t c =
    rw (c.in-And.is, ← c.as_slice-member-items.ensures) (at_end _ _ _ _ c.loop-member-test.false c.loop-member.invariant)
