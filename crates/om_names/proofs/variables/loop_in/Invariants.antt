use Rattle.std.proofs.Common.{◌≡◌, None, map, take}
use Rattle.om_base.specs.Firsts.{first_of}
use Rattle.om_names.specs.KeptVariables.{loop_by}
use Rattle.om_names.proofs.variables.loop_in.Given as goal

abbrev pub invariant-loop-die : goal.invariant-loop-die
invariant-loop-die l = first_of (map (loop_by l.names) (take l.die-index l.dies)) ≡ None
