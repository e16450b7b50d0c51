use Rattle.om_value.proofs.Settling.{settled, cond_settled}
use Rattle.om_value.proofs.laws.answers_are_enough.Goals as goal

pub returns-clause-values : goal.returns-clause-values
returns-clause-values c = settled

pub returns-clause-truths : goal.returns-clause-truths
returns-clause-truths c = cond_settled
