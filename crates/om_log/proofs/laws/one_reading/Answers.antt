use Rattle.om_log.proofs.LogLaws.{one_list, one_log, one_fault, no_fault}
use Rattle.om_log.proofs.laws.one_reading.Goals as goal

pub returns-clause-entries : goal.returns-clause-entries
returns-clause-entries c = one_list

pub returns-clause-log : goal.returns-clause-log
returns-clause-log c = one_log

pub returns-clause-fault : goal.returns-clause-fault
returns-clause-fault c = one_fault

pub returns-clause-either : goal.returns-clause-either
returns-clause-either c = no_fault
