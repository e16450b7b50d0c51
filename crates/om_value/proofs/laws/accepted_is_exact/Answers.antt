use Rattle.om_value.proofs.Intervals.{expr_sound}
use Rattle.om_value.proofs.Acceptance.{cond_sound}
use Rattle.om_value.proofs.laws.accepted_is_exact.Goals as goal

pub returns-clause-values : goal.returns-clause-values
returns-clause-values c = λ columns tuple expr found has is. (expr_sound columns tuple has expr found is).0

pub returns-clause-truths : goal.returns-clause-truths
returns-clause-truths c = λ columns tuple cond has is. cond_sound columns tuple has cond is
