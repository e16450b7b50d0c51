use Rattle.om_grammar.proofs.DepthLaws as laws
use Rattle.om_grammar.proofs.laws.one_depth.Goals as goal

pub returns-clause-one : goal.returns-clause-one
returns-clause-one c = laws.one_too_deep

pub returns-clause-never_both : goal.returns-clause-never_both
returns-clause-never_both c = laws.never_shallow

pub returns-clause-either : goal.returns-clause-either
returns-clause-either c = laws.shallow_or_deep
