use Rattle.std.proofs.Common.{◌∙◌}
use Rattle.om_value.specs.Meaning.{near}
use Rattle.om_value.proofs.Values.{truth_same, by_value}
use Rattle.om_value.proofs.evaluation.recheck.Goals as goal

pub returns-clause-truth : goal.returns-clause-truth
returns-clause-truth g c = c.truth_of.ensures ∙ truth_same _ _ (by_value near _) _
