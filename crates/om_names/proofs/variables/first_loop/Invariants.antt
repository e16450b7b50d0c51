use Rattle.std.proofs.Common.{◌≡◌, None, map, take}
use Rattle.om_base.specs.Firsts.{first_of}
use Rattle.om_names.specs.KeptVariables.{loop_by}
use Rattle.om_die.specs.declared.unit.Unit.{Unit}
use Rattle.om_names.proofs.variables.first_loop.Given as goal

abbrev pub invariant-loop-unit : goal.invariant-loop-unit
invariant-loop-unit l = first_of (map (λ (unit : Unit). first_of (map (loop_by l.names) unit.dies)) (take l.unit-index l.unit-items)) ≡ None
