use Rattle.om_die.specs.Shown.{sections_of}
use Rattle.om_die.proofs.ReadLaws.{reads, refuses}
use Rattle.om_die.proofs.unit_reader.read_units.Goals as goal

pub returns-clause-reads : goal.returns-clause-reads
returns-clause-reads c = reads (sections_of c.args.info.now c.args.abbreviations.now c.args.strings.now) c.read.result c.read.ensures.units c.read.ensures.fault

pub returns-clause-refuses : goal.returns-clause-refuses
returns-clause-refuses c = refuses (sections_of c.args.info.now c.args.abbreviations.now c.args.strings.now) c.read.result c.read.ensures.units c.read.ensures.fault
