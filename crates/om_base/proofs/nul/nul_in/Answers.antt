use Rattle.memchr.specs.Find.{is_byte}
use Rattle.om_base.proofs.PlaceLemmas.{first_byte}
use Rattle.om_base.proofs.nul.nul_in.Goals as goal

pub returns-clause-place : goal.returns-clause-place
returns-clause-place c = first_byte (is_byte 0) c.args.bytes.now c.memchr.result c.memchr.ensures
