use Rattle.om_die.proofs.ValueLaws.{one_value}
use Rattle.om_die.proofs.laws.one_value.Goals as goal

pub returns : goal.returns
returns c = one_value
