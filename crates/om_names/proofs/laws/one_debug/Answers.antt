use Rattle.om_names.proofs.DebugLaws.{lawful_or_refused, one_fault, one_information, some_reading}
use Rattle.om_names.proofs.laws.one_debug.Goals as goal

pub returns-clause-information : goal.returns-clause-information
returns-clause-information c = one_information

pub returns-clause-refusal : goal.returns-clause-refusal
returns-clause-refusal c = one_fault

pub returns-clause-apart : goal.returns-clause-apart
returns-clause-apart c = lawful_or_refused

pub returns-clause-total : goal.returns-clause-total
returns-clause-total c = some_reading
