use Rattle.om_record.proofs.LawLemmas.{no_departure, same_end, same_states}
use Rattle.om_record.proofs.BoundLemmas.{made_apart, within_limit}
use Rattle.om_record.proofs.SizeLemmas.{made_short}
use Rattle.om_record.proofs.laws.never_departs.Goals as goal

pub returns-clause-ending : goal.returns-clause-ending
returns-clause-ending c = same_end

pub returns-clause-states : goal.returns-clause-states
returns-clause-states c = same_states

pub returns-clause-departure : goal.returns-clause-departure
returns-clause-departure c = no_departure

pub returns-clause-within : goal.returns-clause-within
returns-clause-within c = within_limit

pub returns-clause-apart : goal.returns-clause-apart
returns-clause-apart c = made_apart

pub returns-clause-size : goal.returns-clause-size
returns-clause-size c = made_short
