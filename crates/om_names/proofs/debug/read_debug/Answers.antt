use Rattle.om_names.proofs.DebugLaws.{reads_all, refuses_all}
use Rattle.om_names.proofs.debug.read_debug.Goals as goal

pub returns-clause-reads : goal.returns-clause-reads
returns-clause-reads c = reads_all c.args.elf.now c.read.result c.read.ensures.debug c.read.ensures.fault

pub returns-clause-refuses : goal.returns-clause-refuses
returns-clause-refuses c = refuses_all c.args.elf.now c.read.result c.read.ensures.debug c.read.ensures.fault
