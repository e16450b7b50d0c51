use Rattle.om_die.proofs.AttributeLaws.{list_or_gap, one_gap, one_list, whole_or_not}
use Rattle.om_die.proofs.laws.one_list_of_attributes.Goals as goal

pub returns-clause-list : goal.returns-clause-list
returns-clause-list c = one_list

pub returns-clause-apart : goal.returns-clause-apart
returns-clause-apart c = whole_or_not

pub returns-clause-gap : goal.returns-clause-gap
returns-clause-gap c = one_gap

pub returns-clause-total : goal.returns-clause-total
returns-clause-total c = list_or_gap
