use Rattle.om_base.specs.Leb.{uleb_of}
use Rattle.om_base.proofs.FieldLaws.{from_start, nul_after, number_from}
use Rattle.om_base.proofs.laws.read_from_a_place.Goals as goal

pub returns-clause-number : goal.returns-clause-number
returns-clause-number c = number_from

pub returns-clause-nul : goal.returns-clause-nul
returns-clause-nul c = nul_after

pub returns-clause-start : goal.returns-clause-start
returns-clause-start c bytes = from_start (uleb_of bytes)
