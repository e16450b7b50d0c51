use Rattle.om_base.proofs.FieldLaws.{number_reads, text_reads}
use Rattle.om_base.proofs.LebLaws.{sleb_reads, uleb_reads}
use Rattle.om_base.proofs.ReadingLaws.{in_turn}
use Rattle.om_base.proofs.laws.read_what_stands_there.Goals as goal

pub returns-clause-unsigned : goal.returns-clause-unsigned
returns-clause-unsigned c = uleb_reads

pub returns-clause-signed : goal.returns-clause-signed
returns-clause-signed c = sleb_reads

pub returns-clause-number : goal.returns-clause-number
returns-clause-number c = number_reads

pub returns-clause-text : goal.returns-clause-text
returns-clause-text c = text_reads

pub returns-clause-in_turn : goal.returns-clause-in_turn
returns-clause-in_turn c = in_turn uleb_reads (λ n. sleb_reads)
