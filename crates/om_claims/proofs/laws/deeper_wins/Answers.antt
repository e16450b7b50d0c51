use Rattle.om_claims.proofs.LawLemmas.{deeper_meant}
use Rattle.om_claims.proofs.laws.deeper_wins.Goals as goal

pub returns : goal.returns
returns c = deeper_meant
