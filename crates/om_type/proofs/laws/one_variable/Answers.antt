use Rattle.om_type.proofs.SettlesLemmas.{one}
use Rattle.om_type.proofs.VariableLemmas.{variable_settles}
use Rattle.om_type.proofs.laws.one_variable.Goals as goal

pub returns : goal.returns
returns c = λ catalog name. one (variable_settles catalog name)
