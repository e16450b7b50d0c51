use Rattle.om_type.proofs.SplittingLemmas as lemmas
use Rattle.om_type.proofs.laws.splitting.Goals as goal

pub returns : goal.returns
returns c = lemmas.splitting
