use Rattle.om_value.specs.Meaning.{near, is_yes, is_no, truth_with}
use Rattle.om_value.specs.Known.{value_by}
use Rattle.om_value.specs.declared.truth.Truth.TheVariants.{Yes, No}
use Rattle.om_value.proofs.Members.{IsSoFar}
use Rattle.om_value.proofs.evaluation.+truth.Given as goal

abbrev pub invariant-truth_of_all-loop-member : goal.invariant-truth_of_all-loop-member
invariant-truth_of_all-loop-member g l = IsSoFar is_no Yes (truth_with (value_by near (g.C.Cells.known l.cells))) l.members l.member-index l.truth

abbrev pub invariant-truth_of_any-loop-member : goal.invariant-truth_of_any-loop-member
invariant-truth_of_any-loop-member g l = IsSoFar is_yes No (truth_with (value_by near (g.C.Cells.known l.cells))) l.members l.member-index l.truth
