use Rattle.std.proofs.Common.{◌≡◌, length}
use Rattle.om_cfi.specs.Instructions.{items}
use Rattle.om_cfi.specs.Rules.{after}
use Rattle.om_cfi.specs.Running.{rules_of}
use Rattle.om_cfi.proofs.running.Running.after.Given as goal

abbrev pub invariant-loop-opcode : goal.invariant-loop-opcode
invariant-loop-opcode l = after l.factors.data_alignment (items 0 l.left) (rules_of l.self) ≡ after l.factors.data_alignment (items 0 l.fn.bytes) (rules_of l.fn.self)

abbrev pub decreases-loop-opcode : goal.decreases-loop-opcode
decreases-loop-opcode l = length l.left
