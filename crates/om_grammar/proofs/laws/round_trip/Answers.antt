use Rattle.om_grammar.proofs.RoundTrip as laws
use Rattle.om_grammar.proofs.laws.round_trip.Goals as goal

pub returns-clause-again : goal.returns-clause-again
returns-clause-again c = laws.again

pub returns-clause-same : goal.returns-clause-same
returns-clause-same c = laws.same
