use Rattle.std.proofs.Common.{◌≡◌, take}
use Rattle.std.specs.Prelude.{◌||◌}
use Rattle.std.specs.List.{list_any}
use Rattle.om_typing.specs.Queries.{has_aggregate}
use Rattle.om_typing.proofs.aggregates.+is_aggregated.Given as goal

abbrev pub invariant-loop-addend : goal.invariant-loop-addend
invariant-loop-addend l = l.found ≡ (l.initial.found || list_any (λ addend. has_aggregate addend.term) (take l.addend-index l.addend-items))

abbrev pub invariant-loop-factor : goal.invariant-loop-factor
invariant-loop-factor l = l.found ≡ (l.initial.found || list_any (λ factor. has_aggregate factor.factor) (take l.factor-index l.factor-items))
