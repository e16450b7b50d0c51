use Rattle.std.proofs.Common.{◌≡◌, length}
use Rattle.std.specs.List.{flat_map}
use Rattle.om_typing.specs.Mistakes.{noted_all}
use Rattle.om_typing.specs.Queries as spec
use Rattle.om_typing.proofs.queries.judge_keys.Given as goal

abbrev pub invariant-loop-rest : goal.invariant-loop-rest
invariant-loop-rest l = noted_all l.initial.foremost (flat_map (spec.key_mistakes l.headings) l.keys) ≡ noted_all l.foremost (flat_map (spec.key_mistakes l.headings) l.rest)

abbrev pub decreases-loop-rest : goal.decreases-loop-rest
decreases-loop-rest l = length l.rest
