use Rattle.std.proofs.Common.{sym, ◌∙◌}
use Rattle.om_names.specs.Ranges.{base_of}
use Rattle.om_names.proofs.EntryByEntryLemmas.{list_ended, list_endless, no_list}
use Rattle.om_names.proofs.judging.range_fault.Goals as goal

pub returns-in_default : goal.returns-in_default
returns-in_default c = λ section unit are. no_list section unit c.args.die.now (sym c.in_default.ensures)

pub returns-then-has_end : goal.returns-then-has_end
returns-then-has_end c = λ section unit are.
    list_ended section unit c.args.die.now c.in-Some.at (sym c.in-Some.ensures) (sym (c.has_end.ensures section (base_of unit) are) ∙ c.if-has_end.true)

pub returns : goal.returns
returns c = λ section unit are.
    list_endless section unit c.args.die.now c.in-Some.at (sym c.in-Some.ensures) (sym (c.has_end.ensures section (base_of unit) are) ∙ c.if-has_end.false)
