use Rattle.om_value.specs.Known.{value_by}
use Rattle.om_value.specs.Meaning.{value_with}
use Rattle.om_value.proofs.Values.{by_value, truth_same}
use Rattle.om_value.proofs.laws.rows_answer_for_themselves.Goals as goal

pub returns-clause-values : goal.returns-clause-values
returns-clause-values c = by_value

pub returns-clause-truths : goal.returns-clause-truths
returns-clause-truths c = λ round tuple cond. truth_same (value_by round (value_with round tuple)) (value_with round tuple) (by_value round tuple) cond
