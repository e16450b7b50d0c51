use Rattle.om_log.proofs.TotalLaws.{body_or_fault}
use Rattle.om_log.proofs.laws.body_or_fault.Goals as goal

pub returns : goal.returns
returns c = body_or_fault
