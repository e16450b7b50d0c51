use Rattle.om_line.specs.declared.fault.LineFault.TheVariants.{NoMemory}
use Rattle.om_line.proofs.SharingLemmas.{added, program_broken}
use Rattle.om_line.proofs.tables.add_table.Goals as goal

pub returns-in-Err-clause-fault : goal.returns-in-Err-clause-fault
returns-in-Err-clause-fault c section at opened = program_broken section at c.args.table c.in-Err.fault NoMemory opened c.in-Err.ensures.fault

pub returns-clause-adds : goal.returns-clause-adds
returns-clause-adds c section at opened =
    added section at c.args.table c.in-Ok.ran c.args.gathered.now c.add.new.self c.of.result opened c.in_ok-add.ensures c.in-Ok.ensures.whole c.in-Ok.ensures.rows c.in-Ok.ensures.files
    c.in-Ok.ensures.starts c.in-Ok.ensures.relative c.of.ensures
