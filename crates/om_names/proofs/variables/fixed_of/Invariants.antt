use Rattle.std.proofs.Common.{◌≡◌, map, take}
use Rattle.om_names.specs.ByName.{held_by}
use Rattle.om_names.proofs.variables.fixed_of.Given as goal

abbrev pub invariant-loop-seen : goal.invariant-loop-seen
invariant-loop-seen l = l.held ≡ map held_by (take l.seen-index l.list)
