use Rattle.std.proofs.Common.{◌≡◌, ◌&&◌, map, length}
use Rattle.std.specs.Prelude.{◌||◌, is_some}
use Rattle.std.specs.List.{flat_map, list_all, list_any}
use Rattle.om_typing.specs.Conditions.{clash, kind_in, mistakes_in}
use Rattle.om_typing.specs.Mistakes.{noted_all}
use Rattle.om_typing.proofs.conditions.judge_list.Given as goal

abbrev pub invariant-loop-rest : goal.invariant-loop-rest
invariant-loop-rest l =
    (noted_all l.initial.foremost (flat_map (mistakes_in l.scope) l.list) ≡ noted_all l.foremost (flat_map (mistakes_in l.scope) l.rest))
    × (((l.initial.are_known && list_all is_some (map (kind_in l.scope) l.list)) ≡ (l.are_known && list_all is_some (map (kind_in l.scope) l.rest)))
    × (list_any (clash l.what) (map (kind_in l.scope) l.list) ≡ (l.clashes || list_any (clash l.what) (map (kind_in l.scope) l.rest))))

abbrev pub decreases-loop-rest : goal.decreases-loop-rest
decreases-loop-rest l = length l.rest
