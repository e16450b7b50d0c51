use Rattle.om_claims.proofs.LawLemmas.{first_meant}
use Rattle.om_claims.proofs.laws.first_wins.Goals as goal

pub returns : goal.returns
returns c = first_meant
