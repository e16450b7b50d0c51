use Rattle.om_names.proofs.DebugLaws.{no_function, the_first}
use Rattle.om_names.proofs.laws.first_function.Goals as goal

pub returns-clause-none : goal.returns-clause-none
returns-clause-none c = no_function

pub returns-clause-first : goal.returns-clause-first
returns-clause-first c = the_first
