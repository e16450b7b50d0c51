use Rattle.om_line.specs.declared.fault.LineFault.TheVariants.{NoMemory}
use Rattle.om_line.proofs.SharingLemmas.{head_told, program_broken, table_lawful, table_lines}
use Rattle.om_line.proofs.lines.Lines.read.Goals as goal

pub returns-in-Err-clause-fault : goal.returns-in-Err-clause-fault
returns-in-Err-clause-fault c = head_told c.args.section.now c.args.at c.in-Err.fault NoMemory c.in-Err.ensures.fault

pub returns-in-Ok-run-clause-lines : goal.returns-in-Ok-run-clause-lines
returns-in-Ok-run-clause-lines c = table_lines c.args.section.now c.args.at c.in-Ok.table c.in-Ok-run.ran.lines c.in-Ok.ensures.table c.in-Ok-run.ensures.rows c.in-Ok-run.ensures.files

pub returns-in-Ok-run-clause-lawful : goal.returns-in-Ok-run-clause-lawful
returns-in-Ok-run-clause-lawful c = table_lawful c.args.section.now c.args.at c.in-Ok.table c.in-Ok.ensures.table c.in-Ok-run.ensures.whole

pub returns-in-Err-run-clause-fault : goal.returns-in-Err-run-clause-fault
returns-in-Err-run-clause-fault c = program_broken c.args.section.now c.args.at c.in-Ok.table c.in-Err-run.fault NoMemory c.in-Ok.ensures.table c.in-Err-run.ensures.fault
