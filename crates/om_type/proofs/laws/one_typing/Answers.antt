use Rattle.om_type.proofs.SettlesLemmas.{one}
use Rattle.om_type.proofs.TypingLemmas.{query_settles}
use Rattle.om_type.proofs.laws.one_typing.Goals as goal

pub returns : goal.returns
returns c = λ catalog query. one (query_settles catalog query)
