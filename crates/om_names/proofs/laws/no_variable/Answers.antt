use Rattle.om_names.proofs.VariableLaws.{no_declaration, no_local}
use Rattle.om_names.proofs.laws.no_variable.Goals as goal

pub returns-clause-declaration : goal.returns-clause-declaration
returns-clause-declaration c = no_declaration

pub returns-clause-inside : goal.returns-clause-inside
returns-clause-inside c = no_local
