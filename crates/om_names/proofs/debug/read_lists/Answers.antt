use Rattle.std.proofs.Common.{inr, sym}
use Rattle.om_names.specs.Ranges.{first_range_fault}
use Rattle.om_names.proofs.DebugLaws.{given_ranges, refused_ranges}
use Rattle.om_names.proofs.debug.read_lists.Goals as goal

pub returns-in-Some-clause-fault : goal.returns-in-Some-clause-fault
unfolding first_range_fault
returns-in-Some-clause-fault c = inr (refused_ranges c.args.elf.now c.args.units.now c.section-ranges.result.now c.in-Some.fault c.section-ranges.ensures.value (sym (c.in-Some.ensures c.section-ranges.result.now c.in_ok-ends.ensures)))

pub returns-clause-lists : goal.returns-clause-lists
unfolding first_range_fault
returns-clause-lists c = given_ranges c.args.elf.now c.args.units.now c.section-ranges.result.now c.section-ranges.ensures.value (sym (c.in-None.ensures c.section-ranges.result.now c.in_ok-ends.ensures))
