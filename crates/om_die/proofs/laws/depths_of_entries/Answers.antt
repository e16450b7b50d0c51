use Rattle.om_die.proofs.DepthLaws.{deeper_below_children, depth_of_next, first_below_none, one_deeper}
use Rattle.om_die.proofs.laws.depths_of_entries.Goals as goal

pub returns-clause-first : goal.returns-clause-first
returns-clause-first c = first_below_none

pub returns-clause-most : goal.returns-clause-most
returns-clause-most c = one_deeper

pub returns-clause-children : goal.returns-clause-children
returns-clause-children c = deeper_below_children

pub returns-clause-next : goal.returns-clause-next
returns-clause-next c = depth_of_next
