use Rattle.om_die.proofs.FormLaws.{each_form_has_code, each_form_spells, one_code}
use Rattle.om_die.proofs.laws.each_form.Goals as goal

pub returns-clause-code : goal.returns-clause-code
returns-clause-code c = each_form_has_code

pub returns-clause-once : goal.returns-clause-once
returns-clause-once c = one_code

pub returns-clause-spells : goal.returns-clause-spells
returns-clause-spells c = each_form_spells
