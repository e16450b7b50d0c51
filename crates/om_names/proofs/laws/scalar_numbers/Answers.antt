use Rattle.om_names.proofs.VariableLaws.{all_numbered}
use Rattle.om_names.proofs.laws.scalar_numbers.Goals as goal

pub returns : goal.returns
returns c = all_numbered
