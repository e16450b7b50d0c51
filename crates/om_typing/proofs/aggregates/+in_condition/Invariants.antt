use Rattle.std.proofs.Common.{◌≡◌, false, take}
use Rattle.std.specs.List.{list_any}
use Rattle.om_typing.specs.Queries.{condition_has_aggregate}
use Rattle.om_typing.proofs.aggregates.+in_condition.Given as goal

abbrev pub invariant-loop-member : goal.invariant-loop-member
invariant-loop-member l = list_any condition_has_aggregate (take l.member-index l.member-items) ≡ false

abbrev pub invariant-loop-member-2 : goal.invariant-loop-member-2
invariant-loop-member-2 l = list_any condition_has_aggregate (take l.member-index l.member-items) ≡ false
