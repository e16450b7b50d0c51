use Rattle.om_command.proofs.EndsLemmas.{early_ends, late_ends, moved_none, read_none}
use Rattle.om_command.proofs.program.serve.Goals as goal

pub returns-in-Ok-clause-ends : goal.returns-in-Ok-clause-ends
returns-in-Ok-clause-ends g c = late_ends _ _ _ _ _ _ _ c.in-Ok.ensures.prepares c.in-Ok.ensures.takes c.deliver.ensures.leaves

pub returns-in-Err-clause-ends : goal.returns-in-Err-clause-ends
returns-in-Err-clause-ends g c = early_ends _ _ _ _ _ c.in-Err.ensures.prepares c.in-Err.ensures.takes

pub returns-in-Ok-clause-faultless : goal.returns-in-Ok-clause-faultless
returns-in-Ok-clause-faultless g c = moved_none _ _ _ _ _ c.in-Ok.ensures.takes c.deliver.ensures.faultless

pub returns-in-Err-clause-faultless : goal.returns-in-Err-clause-faultless
returns-in-Err-clause-faultless g c = read_none _ _ _ _ c.in-Err.ensures.takes
