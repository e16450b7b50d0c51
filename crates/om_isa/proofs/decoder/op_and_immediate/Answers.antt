use Rattle.std.proofs.Common.{rules}
use Rattle.om_isa.specs.Table.{table}
use Rattle.om_isa.proofs.decoder.op_and_immediate.Goals as goal

pub returns-in_default-clause-parts : goal.returns-in_default-clause-parts
unfolding table
returns-in_default-clause-parts c = search rules

pub returns-in-55-clause-parts : goal.returns-in-55-clause-parts
unfolding table
returns-in-55-clause-parts c = search rules

pub returns-in-23-clause-parts : goal.returns-in-23-clause-parts
unfolding table
returns-in-23-clause-parts c = search rules

pub returns-in-111-clause-parts : goal.returns-in-111-clause-parts
unfolding table
returns-in-111-clause-parts c = search rules
