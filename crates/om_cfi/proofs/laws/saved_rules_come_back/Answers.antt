use Rattle.om_cfi.proofs.LawLemmas.{saved_again}
use Rattle.om_cfi.proofs.laws.saved_rules_come_back.Goals as goal

pub returns : goal.returns
returns c = λ scale rules few. saved_again scale rules few
