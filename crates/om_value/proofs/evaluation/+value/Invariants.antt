use Rattle.std.proofs.Common.{◌≡◌, take}
use Rattle.std.specs.List.{fold}
use Rattle.om_value.specs.Row.{row_tuple}
use Rattle.om_value.specs.Meaning.{owned, near, near_value, with_addend, with_factor}
use Rattle.om_value.proofs.evaluation.+value.Given as goal

abbrev pub invariant-sum_of-loop-addend : goal.invariant-sum_of-loop-addend
invariant-sum_of-loop-addend g l = owned l.total ≡ fold (with_addend near (near_value (row_tuple (g.V.RowView.answers l.view)))) (owned l.initial.total) (take l.addend-index l.rest)

abbrev pub invariant-product_of-loop-factor : goal.invariant-product_of-loop-factor
invariant-product_of-loop-factor g l = owned l.total ≡ fold (with_factor near (near_value (row_tuple (g.V.RowView.answers l.view)))) (owned l.initial.total) (take l.factor-index l.rest)
