use Rattle.om_type.proofs.SettlesLemmas.{either}
use Rattle.om_type.proofs.TypingLemmas.{query_settles}
use Rattle.om_type.proofs.laws.typing_or_unbuilt.Goals as goal

pub returns : goal.returns
returns c = λ catalog query. either (query_settles catalog query)
