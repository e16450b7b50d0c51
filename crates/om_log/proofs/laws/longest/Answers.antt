use Rattle.om_log.proofs.LogLaws.{longest_list}
use Rattle.om_log.proofs.laws.longest.Goals as goal

pub returns : goal.returns
returns c = longest_list
