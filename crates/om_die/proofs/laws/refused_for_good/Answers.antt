use Rattle.om_die.proofs.ValueLaws.{refused_for_good, refused_is_absent}
use Rattle.om_die.proofs.laws.refused_for_good.Goals as goal

pub returns-clause-absent : goal.returns-clause-absent
returns-clause-absent c = refused_is_absent

pub returns-clause-for_good : goal.returns-clause-for_good
returns-clause-for_good c = refused_for_good
