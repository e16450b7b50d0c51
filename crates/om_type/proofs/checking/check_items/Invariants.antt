use Rattle.std.proofs.Common.{◌≡◌, ◌+◌, length}
use Rattle.om_type.specs.Checking.{after, all_some, outputs_from}
use Rattle.om_type.proofs.checking.check_items.Given as goal

abbrev pub invariant-loop-items : goal.invariant-loop-items
invariant-loop-items l = all_some (outputs_from l.catalog 1 l.initial.items) ≡ after l.outputs (all_some (outputs_from l.catalog (length l.outputs + 1) l.items))

abbrev pub decreases-loop-items : goal.decreases-loop-items
decreases-loop-items l = length l.items
