use Rattle.om_loc.proofs.LawLemmas.{read_as}
use Rattle.om_loc.proofs.laws.one_place.Goals as goal

pub returns : goal.returns
returns c = read_as
