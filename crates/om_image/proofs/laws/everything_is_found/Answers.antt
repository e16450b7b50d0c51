use Rattle.om_image.proofs.ReadLemmas.{everything_is_found}
use Rattle.om_image.proofs.laws.everything_is_found.Goals as goal

pub returns : goal.returns
returns c = everything_is_found
