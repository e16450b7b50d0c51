use Rattle.om_names.proofs.VariableLaws.{all_alike, other_sign, two_differ}
use Rattle.om_names.proofs.laws.ambiguous_names.Goals as goal

pub returns-clause-two : goal.returns-clause-two
returns-clause-two c = two_differ

pub returns-clause-alike : goal.returns-clause-alike
returns-clause-alike c = all_alike

pub returns-clause-sign : goal.returns-clause-sign
returns-clause-sign c = other_sign
