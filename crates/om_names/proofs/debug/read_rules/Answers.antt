use Rattle.om_names.proofs.DebugLaws.{given_frames, refused_frames}
use Rattle.om_names.proofs.debug.read_rules.Goals as goal

pub returns-in-Ok-clause-stage : goal.returns-in-Ok-clause-stage
returns-in-Ok-clause-stage c = given_frames c.args.elf.now c.section.result.now c.section.ensures.value c.in-Ok.ensures.lawful

pub returns-in-Err-clause-fault : goal.returns-in-Err-clause-fault
returns-in-Err-clause-fault c =
    refused_frames c.args.elf.now c.section.result.now c.in-Err.fault c.frame_fault.result c.section.ensures.value c.in-Err.ensures.fault c.frame_fault.ensures.none c.frame_fault.ensures.told
