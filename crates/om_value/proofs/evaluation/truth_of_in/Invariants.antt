use Rattle.om_value.specs.Meaning.{near, is_yes, compared}
use Rattle.om_value.specs.Known.{value_by}
use Rattle.om_value.specs.declared.comparison.Compare.TheVariants as compare
use Rattle.om_value.specs.declared.truth.Truth.TheVariants.{No}
use Rattle.om_value.proofs.Members.{IsSoFar}
use Rattle.om_value.proofs.evaluation.truth_of_in.Given as goal

abbrev pub invariant-loop-one : goal.invariant-loop-one
invariant-loop-one g l = IsSoFar is_yes No (λ one. compared compare.Equal (value_by near (g.C.Cells.known l.cells) l.fn.what) (value_by near (g.C.Cells.known l.cells) one)) l.list l.one-index l.truth
