use Rattle.std.proofs.Common.{refl}
use Rattle.om_names.proofs.DebugLaws.{given_lines, refused_lines}
use Rattle.om_names.proofs.debug.read_lines.Goals as goal

pub returns-in-Ok-clause-stage : goal.returns-in-Ok-clause-stage
returns-in-Ok-clause-stage c =
    given_lines c.args.elf.now c.args.units.now c.section.result.now c.as_slice-2.result.now c.section.ensures.value (rw (c.as_slice-2.ensures.keys, c.in_ok-offsets.ensures, c.as_slice.ensures) refl) c.in-Ok.ensures.lawful

pub returns-clause-fault : goal.returns-clause-fault
returns-clause-fault c =
    refused_lines c.args.elf.now c.args.units.now c.section.result.now c.as_slice-2.result.now c.in-Err.fault c.line_fault.result c.section.ensures.value (rw (c.as_slice-2.ensures.keys, c.in_ok-offsets.ensures, c.as_slice.ensures) refl)
    c.in-Err.ensures.fault c.line_fault.ensures.none c.line_fault.ensures.told
