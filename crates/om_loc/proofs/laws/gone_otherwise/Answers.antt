use Rattle.std.proofs.Common.{refl}
use Rattle.om_loc.specs.declared.place.Place.TheVariants as p
use Rattle.om_loc.proofs.LawLemmas.{never_gone, says}
use Rattle.om_loc.proofs.laws.gone_otherwise.Goals as goal

pub returns-clause-says : goal.returns-clause-says
returns-clause-says c = says

pub returns-clause-never : goal.returns-clause-never
returns-clause-never c text is = never_gone text p.Gone is refl
