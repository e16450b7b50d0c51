use Rattle.om_names.proofs.DebugLaws.{given_units, refused_units}
use Rattle.om_names.proofs.debug.read_info.Goals as goal

pub returns-in-Ok-clause-units : goal.returns-in-Ok-clause-units
returns-in-Ok-clause-units c = given_units c.args.elf.now c.in-Ok.units (rw (c.section-info.ensures.value, c.section-abbreviations.ensures.value, c.section-strings.ensures.value) at c.in-Ok.ensures.units)

pub returns-in-Err-clause-fault : goal.returns-in-Err-clause-fault
returns-in-Err-clause-fault c =
    refused_units c.args.elf.now c.in-Err.fault c.unit_fault.result (rw (c.section-info.ensures.value, c.section-abbreviations.ensures.value, c.section-strings.ensures.value) at c.in-Err.ensures.fault)
    c.unit_fault.ensures.none c.unit_fault.ensures.told
