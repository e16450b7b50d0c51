use Rattle.om_cfi.proofs.BehindLemmas.{items_next}
use Rattle.om_cfi.proofs.laws.one_by_one.Goals as goal

pub returns : goal.returns
returns c = λ byte bytes. items_next byte bytes
