use Rattle.om_value.proofs.Settling.{rows_settle, cond_rows_settle}
use Rattle.om_value.proofs.laws.other_rows_are_free.Goals as goal

pub returns-clause-values : goal.returns-clause-values
returns-clause-values c = rows_settle

pub returns-clause-truths : goal.returns-clause-truths
returns-clause-truths c = cond_rows_settle
