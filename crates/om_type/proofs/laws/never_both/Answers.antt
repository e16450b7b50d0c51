use Rattle.om_type.proofs.SettlesLemmas.{never_both}
use Rattle.om_type.proofs.TypingLemmas.{query_settles}
use Rattle.om_type.proofs.laws.never_both.Goals as goal

pub returns : goal.returns
returns c = λ catalog query. never_both (query_settles catalog query)
