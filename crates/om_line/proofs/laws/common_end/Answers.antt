use Rattle.om_line.proofs.LawLemmas.{same_broken, same_instructions}
use Rattle.om_line.proofs.laws.common_end.Goals as goal

pub returns-clause-instructions : goal.returns-clause-instructions
returns-clause-instructions c = same_instructions

pub returns-clause-broken : goal.returns-clause-broken
returns-clause-broken c = same_broken
