use Rattle.om_die.proofs.TotalLaws.{units_or_refusal}
use Rattle.om_die.proofs.laws.units_or_refusal.Goals as goal

pub returns : goal.returns
returns c = units_or_refusal
