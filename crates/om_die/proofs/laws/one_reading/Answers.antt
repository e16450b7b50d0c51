use Rattle.om_die.proofs.UnitOnce.{not_refused, one_refusal, one_units}
use Rattle.om_die.proofs.laws.one_reading.Goals as goal

pub returns-clause-units : goal.returns-clause-units
returns-clause-units c = one_units

pub returns-clause-refusal : goal.returns-clause-refusal
returns-clause-refusal c = one_refusal

pub returns-clause-apart : goal.returns-clause-apart
returns-clause-apart c = not_refused
