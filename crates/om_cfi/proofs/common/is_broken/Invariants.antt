use Rattle.std.proofs.Common.{◌≡◌, length}
use Rattle.std.specs.List.{list_any}
use Rattle.om_cfi.specs.Common.{breaks}
use Rattle.om_cfi.specs.Instructions.{items}
use Rattle.om_cfi.proofs.common.is_broken.Given as goal

abbrev pub invariant-loop-opcode : goal.invariant-loop-opcode
invariant-loop-opcode l = list_any breaks (items 0 l.left) ≡ list_any breaks (items 0 l.fn.bytes)

abbrev pub decreases-loop-opcode : goal.decreases-loop-opcode
decreases-loop-opcode l = length l.left
