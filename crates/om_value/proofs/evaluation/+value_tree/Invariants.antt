use Rattle.std.proofs.Common.{◌≡◌, take}
use Rattle.std.specs.List.{fold}
use Rattle.om_value.specs.Known.{value_by}
use Rattle.om_value.specs.Meaning.{owned, near, with_addend, with_factor}
use Rattle.om_value.proofs.evaluation.+value_tree.Given as goal

abbrev pub invariant-sum_of_tree-loop-addend : goal.invariant-sum_of_tree-loop-addend
invariant-sum_of_tree-loop-addend g l = owned l.total ≡ fold (with_addend near (value_by near (g.C.Cells.known l.cells))) (owned l.initial.total) (take l.addend-index l.rest)

abbrev pub invariant-product_of_tree-loop-factor : goal.invariant-product_of_tree-loop-factor
invariant-product_of_tree-loop-factor g l = owned l.total ≡ fold (with_factor near (value_by near (g.C.Cells.known l.cells))) (owned l.initial.total) (take l.factor-index l.rest)
