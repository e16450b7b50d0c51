use Rattle.om_die.proofs.TableLaws.{one_table, some_table}
use Rattle.om_die.proofs.laws.one_table.Goals as goal

pub returns-clause-some : goal.returns-clause-some
returns-clause-some c = some_table

pub returns-clause-once : goal.returns-clause-once
returns-clause-once c = one_table
