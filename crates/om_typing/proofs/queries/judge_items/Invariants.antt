use Rattle.std.proofs.Common.{◌≡◌, length}
use Rattle.std.specs.List.{flat_map}
use Rattle.om_typing.specs.Mistakes.{noted_all}
use Rattle.om_typing.specs.Queries as spec
use Rattle.om_typing.proofs.queries.judge_items.Given as goal

abbrev pub invariant-loop-rest : goal.invariant-loop-rest
invariant-loop-rest l = noted_all l.initial.foremost (flat_map (spec.item_mistakes l.scope l.must_group) l.items) ≡ noted_all l.foremost (flat_map (spec.item_mistakes l.scope l.must_group) l.rest)

abbrev pub decreases-loop-rest : goal.decreases-loop-rest
decreases-loop-rest l = length l.rest
