use Rattle.om_log.proofs.TotalLaws.{log_or_fault}
use Rattle.om_log.proofs.laws.log_or_fault.Goals as goal

pub returns : goal.returns
returns c = log_or_fault
