use Rattle.std.proofs.Common.{◌≡◌, take}
use Rattle.std.specs.List.{flat_map}
use Rattle.om_typing.specs.Conditions.{condition_mistakes}
use Rattle.om_typing.specs.Mistakes.{noted_all}
use Rattle.om_typing.proofs.conditions.+judge_condition.Given as goal

abbrev pub invariant-loop-member : goal.invariant-loop-member
invariant-loop-member l = l.foremost ≡ noted_all l.initial.foremost (flat_map (condition_mistakes l.scope) (take l.member-index l.member-items))

abbrev pub invariant-loop-member-2 : goal.invariant-loop-member-2
invariant-loop-member-2 l = l.foremost ≡ noted_all l.initial.foremost (flat_map (condition_mistakes l.scope) (take l.member-index l.member-items))
