use Rattle.std.proofs.Common.{◌≡◌, ◌||◌, ℕ, nat_eq, take}
use Rattle.std.specs.BTreeSet.{contains}
use Rattle.std.specs.List.{list_any}
use Rattle.std.specs.Ordering.{nat_cmp}
use Rattle.om_die.proofs.targets.add_dies.Given as goal

abbrev pub invariant-loop-die : goal.invariant-loop-die
invariant-loop-die l = (offset : ℕ) → contains nat_cmp l.offsets offset ≡ (contains nat_cmp l.initial.offsets offset || list_any (λ die. nat_eq die.at offset) (take l.die-index l.dies))
