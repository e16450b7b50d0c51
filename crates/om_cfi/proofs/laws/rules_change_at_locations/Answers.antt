use Rattle.om_cfi.proofs.LawLemmas.{same_between}
use Rattle.om_cfi.proofs.laws.rules_change_at_locations.Goals as goal

pub returns : goal.returns
returns c = λ factors low high first instructions rules order none. same_between factors low high first instructions rules order none
