use Rattle.std.proofs.Common.{◌≡◌, ◌∷◌, [], map, drop}
use Rattle.om_base.specs.Firsts.{first_of}
use Rattle.om_run.specs.Departure.{departs_for_argument}
use Rattle.om_run.proofs.judge.judge_arguments.Given as goal

abbrev pub invariant-loop-j : goal.invariant-loop-j
invariant-loop-j l =
    (l.j-items ≡ 0 ∷ 1 ∷ 2 ∷ 3 ∷ 4 ∷ 5 ∷ [])
    × (first_of (map (departs_for_argument l.call l.step l.machine.state) l.j-items) ≡ first_of (map (departs_for_argument l.call l.step l.machine.state) (drop l.j-index l.j-items)))
