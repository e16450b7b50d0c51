use Rattle.om_claims.proofs.LawLemmas.{none_meant}
use Rattle.om_claims.proofs.laws.nobody.Goals as goal

pub returns : goal.returns
returns c = none_meant
