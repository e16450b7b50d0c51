use Rattle.std.proofs.Common.{◌≡◌, map, ap, subst, ◌∙◌}
use Rattle.std.specs.Prelude.{IfOk}
use Rattle.om_names.specs.FoundList.{scoped_by}
use Rattle.om_names.specs.KeptVariables.{told_in}
use Rattle.om_names.specs.Variables.{VariableFacts, variable_facts}
use Rattle.om_names.proofs.VariableLemmas.{variables_are}
use Rattle.om_names.proofs.variables.kept_variables.Goals as goal

pub returns : goal.returns
returns c = λ are.
    subst (λ (facts : VariableFacts). IfOk c.variables_of.result (λ variables. told_in variables ≡ facts))
    (ap (λ found. variable_facts (map (scoped_by c.args.ranges.now) found)) (c.as_slice.ensures ∙ c.in_ok-found.ensures) ∙ ap variable_facts (variables_are c.args.units.now c.args.names.now are c.args.ranges.now)) c.variables_of.ensures
