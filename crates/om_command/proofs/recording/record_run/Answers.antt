use Rattle.om_command.proofs.AnswerLemmas.{elf_unrecorded}
use Rattle.om_command.proofs.recording.record_run.Goals as goal

pub returns-in-Err : goal.returns-in-Err
returns-in-Err c =
    λ name. rw c.end_by_elf.ensures (elf_unrecorded c.args.exe.now c.in-Err.fault c.args.input.now name c.in-Err.ensures.gives)
