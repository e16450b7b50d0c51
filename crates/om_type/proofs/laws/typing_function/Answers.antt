use Rattle.om_type.proofs.TypingLemmas.{query_settles}
use Rattle.om_type.proofs.laws.typing_function.Goals as goal

pub returns-clause-typed : goal.returns-clause-typed
returns-clause-typed c = λ catalog query typed. ((query_settles catalog query).is typed, (query_settles catalog query).finds typed)

pub returns-clause-unbuilt : goal.returns-clause-unbuilt
returns-clause-unbuilt c = λ catalog query. ((query_settles catalog query).isnt, (query_settles catalog query).misses)
