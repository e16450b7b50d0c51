use Rattle.om_eval.proofs.Members.{IsTruthSoFar}
use Rattle.om_eval.proofs.evaluation.+truth_of_tree.Given as goal

abbrev pub invariant-loop-member : goal.invariant-loop-member
invariant-loop-member g l = IsTruthSoFar (g.C.Cells.tuple l.cells) l.member-items l.member-index l.truth
