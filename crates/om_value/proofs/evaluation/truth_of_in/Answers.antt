use Rattle.std.proofs.Common.{◌≡◌, refl, sym, ◌∙◌}
use Rattle.om_value.specs.Meaning.{near, is_yes, compared}
use Rattle.om_value.specs.Known.{value_by}
use Rattle.om_value.specs.declared.comparison.Compare.TheVariants as compare
use Rattle.om_value.specs.declared.expr.Expr.{Expr}
use Rattle.om_value.specs.declared.truth.Truth.{Truth}
use Rattle.om_value.specs.declared.truth.Truth.TheVariants.{Yes, No}
use Rattle.om_value.proofs.Members.{at_stop, after_neither, after_unknown}
use Rattle.om_value.proofs.evaluation.truth_of_in.Goals as goal
use Rattle.om_value.proofs.evaluation.truth_of_in.Goals.{in-Unknown, in-No}

pub returns-in-Yes : goal.returns-in-Yes
returns-in-Yes g c =
    let worth : Expr → Truth = λ (one : Expr). compared compare.Equal (value_by near (g.C.Cells.known c.args.cells.now) c.args.what.now) (value_by near (g.C.Cells.known c.args.cells.now) one) in
    let known : Yes ≡ worth c.one-item.result = rw (← c.value_at.ensures, ← c.value_at-what.ensures) (sym c.in-Yes.is ∙ c.truth.ensures) in
    at_stop is_yes Yes No worth c.args.list.now c.loop-one.one-index c.one-item.result Yes refl record { within = c.loop-one-test.true; is = c.one-item.is; known = known }

pub loop-one-preserved : goal.loop-one-preserved
loop-one-preserved g c =
    let worth : Expr → Truth = λ (one : Expr). compared compare.Equal (value_by near (g.C.Cells.known c.args.cells.now) c.args.what.now) (value_by near (g.C.Cells.known c.args.cells.now) one) in
    let known : c.truth.result ≡ worth c.one-item.result = rw (← c.value_at.ensures, ← c.value_at-what.ensures) c.truth.ensures in
    elim c.match-truth.branch [
      | in-Unknown w ↦ rw w.truth-is (after_unknown is_yes No worth c.args.list.now c.loop-one.one-index c.loop-one.truth c.one-item.result refl record { within = c.loop-one-test.true; is = c.one-item.is; known = sym w.in-Unknown.is ∙ known } c.loop-one.invariant)
      | in-No w ↦ rw w.truth-is (after_neither is_yes No worth c.args.list.now c.loop-one.one-index c.loop-one.truth c.one-item.result No refl refl record { within = c.loop-one-test.true; is = c.one-item.is; known = sym w.in-No.is ∙ known } c.loop-one.invariant)
    ]
