use Rattle.std.proofs.Common.{◌≡◌, ℕ, nat_eq, take}
use Rattle.std.specs.BTreeSet.{contains}
use Rattle.std.specs.List.{list_any}
use Rattle.std.specs.Ordering.{nat_cmp}
use Rattle.om_die.specs.Units.{dies_of_units}
use Rattle.om_die.proofs.targets.offsets_of.Given as goal

abbrev pub invariant-loop-unit : goal.invariant-loop-unit
invariant-loop-unit l = (offset : ℕ) → contains nat_cmp l.offsets offset ≡ list_any (λ die. nat_eq die.at offset) (dies_of_units (take l.unit-index l.units))
