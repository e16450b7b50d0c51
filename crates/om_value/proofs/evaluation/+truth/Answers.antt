use Rattle.std.proofs.Common.{refl, sym, ◌∙◌}
use Rattle.om_value.specs.Meaning.{is_yes, is_no}
use Rattle.om_value.specs.declared.truth.Truth.TheVariants.{Yes, No}
use Rattle.om_value.proofs.Members.{at_stop, after_neither, after_unknown}
use Rattle.om_value.proofs.Truths.{truth-Compare, truth-Between, truth-In, truth-IsNull, truth-Not, truth-All, truth-Any}
use Rattle.om_value.proofs.evaluation.+truth.Goals as goal
use Rattle.om_value.proofs.evaluation.+truth.Goals.{truth_of_all-in-Unknown, truth_of_all-in-Yes, truth_of_any-in-Unknown, truth_of_any-in-No}

pub truth_of_tree-returns-in-Compare : goal.truth_of_tree-returns-in-Compare
truth_of_tree-returns-in-Compare g t c = rw (c.in-Compare.is, truth-Compare) c.truth_of_comparison.ensures

pub truth_of_tree-returns-in-Between : goal.truth_of_tree-returns-in-Between
truth_of_tree-returns-in-Between g t c = rw (c.in-Between.is, truth-Between, ← c.truth_of_between.ensures) c.with_polarity.ensures

pub truth_of_tree-returns-in-In : goal.truth_of_tree-returns-in-In
truth_of_tree-returns-in-In g t c = rw (c.in-In.is, truth-In, ← c.as_slice.ensures, ← c.truth_of_in.ensures) c.with_polarity-in-In.ensures

pub truth_of_tree-returns-in-IsNull : goal.truth_of_tree-returns-in-IsNull
truth_of_tree-returns-in-IsNull g t c = rw (c.in-IsNull.is, truth-IsNull, ← c.value_at.ensures, ← c.is_null.ensures) c.with_polarity-in-IsNull.ensures

pub truth_of_tree-returns-in-Not : goal.truth_of_tree-returns-in-Not
truth_of_tree-returns-in-Not g t c = rw (c.in-Not.is, truth-Not, ← c.get.ensures, ← c.truth_of_tree.ensures) c.negated.ensures

pub truth_of_tree-returns-in-All : goal.truth_of_tree-returns-in-All
truth_of_tree-returns-in-All g t c = rw (c.in-All.is, truth-All, ← c.as_slice-in-All.ensures) c.truth_of_all.ensures

pub truth_of_tree-returns-in-Any : goal.truth_of_tree-returns-in-Any
truth_of_tree-returns-in-Any g t c = rw (c.in-Any.is, truth-Any, ← c.as_slice-in-Any.ensures) c.truth_of_any.ensures

pub truth_of_all-returns-in-No : goal.truth_of_all-returns-in-No
truth_of_all-returns-in-No g t c = at_stop is_no No Yes _ _ _ _ No refl record { within = c.loop-member-test.true; is = c.member-item.is; known = sym c.in-No.is ∙ c.truth_of_tree.ensures }

pub truth_of_all-loop-member-preserved : goal.truth_of_all-loop-member-preserved
truth_of_all-loop-member-preserved g t c =
    elim c.match-truth_of_tree.branch [
      | truth_of_all-in-Unknown w ↦ rw w.truth-is (after_unknown _ _ _ _ _ _ c.member-item.result refl record { within = c.loop-member-test.true; is = c.member-item.is; known = sym w.in-Unknown.is ∙ c.truth_of_tree.ensures } c.loop-member.invariant)
      | truth_of_all-in-Yes w ↦ rw w.truth-is (after_neither _ _ _ _ _ _ c.member-item.result Yes refl refl record { within = c.loop-member-test.true; is = c.member-item.is; known = sym w.in-Yes.is ∙ c.truth_of_tree.ensures } c.loop-member.invariant)
    ]

pub truth_of_any-returns-in-Yes : goal.truth_of_any-returns-in-Yes
truth_of_any-returns-in-Yes g t c = at_stop is_yes Yes No _ _ _ _ Yes refl record { within = c.loop-member-test.true; is = c.member-item.is; known = sym c.in-Yes.is ∙ c.truth_of_tree.ensures }

pub truth_of_any-loop-member-preserved : goal.truth_of_any-loop-member-preserved
truth_of_any-loop-member-preserved g t c =
    elim c.match-truth_of_tree.branch [
      | truth_of_any-in-Unknown w ↦ rw w.truth-is (after_unknown _ _ _ _ _ _ c.member-item.result refl record { within = c.loop-member-test.true; is = c.member-item.is; known = sym w.in-Unknown.is ∙ c.truth_of_tree.ensures } c.loop-member.invariant)
      | truth_of_any-in-No w ↦ rw w.truth-is (after_neither _ _ _ _ _ _ c.member-item.result No refl refl record { within = c.loop-member-test.true; is = c.member-item.is; known = sym w.in-No.is ∙ c.truth_of_tree.ensures } c.loop-member.invariant)
    ]
