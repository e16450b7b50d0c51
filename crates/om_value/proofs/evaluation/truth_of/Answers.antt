use Rattle.std.proofs.Common.{sym, ap, ◌∙◌}
use Rattle.om_value.specs.Meaning.{near, truth_with}
use Rattle.om_value.specs.Known.{value_by}
use Rattle.om_value.proofs.Truths.{truth-Compare, truth_one}
use Rattle.om_value.proofs.evaluation.truth_of.Goals as goal

pub returns-in-Compare : goal.returns-in-Compare
returns-in-Compare g c =
    let one = truth_one (value_by near (g.C.Cells.known c.args.cells.now)) c.as_slice-members.result.now c.index-members-0.result c.if-members-eq1.true c.index-members-0.is in
    rw (c.in-All.is, ← c.as_slice-members.ensures) (c.truth_of_comparison.ensures ∙ sym (truth-Compare _ _ _ _) ∙ ap (truth_with (value_by near (g.C.Cells.known c.args.cells.now))) (sym c.in-Compare.is) ∙ one)
