use Rattle.om_log.proofs.ReadLaws.{reads, refuses}
use Rattle.om_log.proofs.reader.read_log.Goals as goal

pub returns-clause-reads : goal.returns-clause-reads
returns-clause-reads c = reads c.args.file.now c.read.result c.read.ensures.log c.read.ensures.fault

pub returns-clause-refuses : goal.returns-clause-refuses
returns-clause-refuses c = refuses c.args.file.now c.read.result c.read.ensures.log c.read.ensures.fault
