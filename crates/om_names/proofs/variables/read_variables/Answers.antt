use Rattle.std.proofs.Common.{inr, refl, sym, ◌∙◌}
use Rattle.om_names.proofs.VariableLemmas.{loop_is}
use Rattle.om_names.proofs.variables.read_variables.Goals as goal

pub returns-in-Some-clause-fault : goal.returns-in-Some-clause-fault
returns-in-Some-clause-fault c = λ are. inr (c.in-Some.at, refl, sym (c.in-Some.ensures ∙ loop_is c.args.units.now c.args.names.now are))

pub returns-in-Ok-clause-lawful : goal.returns-in-Ok-clause-lawful
returns-in-Ok-clause-lawful c = λ are. sym (c.in_default.ensures ∙ loop_is c.args.units.now c.args.names.now are)
