use Rattle.std.proofs.Common.{◌≡◌, ◌++◌, take}
use Rattle.std.specs.List.{flat_map}
use Rattle.om_typing.proofs.ConditionsIn.{conjuncts_of}
use Rattle.om_typing.proofs.resolving.+push_conjuncts.Given as goal

abbrev pub invariant-loop-member : goal.invariant-loop-member
invariant-loop-member l = l.conjuncts ≡ l.initial.conjuncts ++ flat_map (conjuncts_of l.scope) (take l.member-index l.member-items)
