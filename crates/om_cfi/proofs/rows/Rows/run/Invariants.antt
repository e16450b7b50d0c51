use Rattle.std.proofs.Common.{◌≡◌, ◌+◌, length}
use Rattle.om_cfi.specs.Instructions.{items}
use Rattle.om_cfi.specs.Rows.{rows_after, with_rows}
use Rattle.om_cfi.specs.Running.{rules_of}
use Rattle.om_cfi.proofs.rows.Rows.run.Given as goal

abbrev pub invariant-loop-opcode : goal.invariant-loop-opcode
invariant-loop-opcode l =
    with_rows l.self (rows_after l.it.factors (l.it.first + l.it.length) l.low l.location (items 0 l.left) (rules_of l.running))
    ≡ with_rows l.initial.self (rows_after l.it.factors (l.it.first + l.it.length) l.it.first l.it.first (items 0 l.it.own) (rules_of l.initial.running))

abbrev pub decreases-loop-opcode : goal.decreases-loop-opcode
decreases-loop-opcode l = length l.left
