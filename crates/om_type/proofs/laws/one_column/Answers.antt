use Rattle.om_type.proofs.ColumnLemmas.{column_settles}
use Rattle.om_type.proofs.SettlesLemmas.{one}
use Rattle.om_type.proofs.laws.one_column.Goals as goal

pub returns : goal.returns
returns c = λ name. one (column_settles name)
