use Rattle.om_type.proofs.ConjunctLemmas.{AreFoundSoFar}
use Rattle.om_type.proofs.checking.+push_conjuncts.Given as goal

abbrev pub decreases-push_conjuncts : goal.decreases-push_conjuncts
decreases-push_conjuncts l = goal.size-push_conjuncts l

abbrev pub invariant-loop-member : goal.invariant-loop-member
invariant-loop-member l = AreFoundSoFar l.catalog l.initial.conjuncts l.conjuncts l.member-items l.member-index
