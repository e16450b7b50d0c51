use Rattle.om_base.specs.Leb.{IsUleb}
use Rattle.om_base.proofs.LebLaws.{uleb_reads}
use Rattle.om_base.proofs.ReadingLaws.{each_more, longest_once, same_front}
use Rattle.om_base.proofs.laws.one_list_of_numbers.Goals as goal

pub returns-clause-front : goal.returns-clause-front
returns-clause-front c = same_front (λ at. uleb_reads)

pub returns-clause-longest : goal.returns-clause-longest
returns-clause-longest c = longest_once (λ at. uleb_reads)

pub returns-clause-more : goal.returns-clause-more
returns-clause-more c = each_more (λ at. IsUleb)
