use Rattle.std.proofs.Common.{◌≡◌, sym, subst, None}
use Rattle.om_command.proofs.AnswerLemmas.{asked_of, debug_given, debug_refused, elf_refused, known_fault, known_reading}
use Rattle.om_command.specs.Command.{judged_log}
use Rattle.om_command.specs.Readings.{IsDebugReading}
use Rattle.om_command.specs.Reads.{GivesText}
use Rattle.om_command.proofs.answer.answer_text.Goals as goal
use Rattle.om_elf.specs.Executable.{elf_fault}
use Rattle.om_elf.specs.declared.elf.Elf.{Elf}
use Rattle.om_names.specs.Known.{told_by}

pub returns-in-Err-clause-text : goal.returns-in-Err-clause-text
returns-in-Err-clause-text c =
    λ read debug log query. rw c.end_by_elf.ensures (elf_refused c.args.exe.now c.in-Err.fault read c.in-Err.ensures.gives)

pub returns-in-Err-read_debug-clause-text : goal.returns-in-Err-read_debug-clause-text
returns-in-Err-read_debug-clause-text c =
    let none : elf_fault c.args.exe.now ≡ None = c.in-Ok.ensures.gives.0 in
    λ read debug log query.
    rw c.end_by_debug.ensures
    (debug_refused c.args.exe.now c.in-Err-read_debug.fault read none
    (known_fault c.in-Ok.elf c.in-Err-read_debug.fault read.debug c.in-Err-read_debug.ensures.reads c.in-Err-read_debug.ensures.refuses
    (subst (λ (elf : Elf). IsDebugReading elf read.debug) (sym c.in-Ok.ensures.gives.1) (debug none))))

pub returns-clause-text : goal.returns-clause-text
returns-clause-text c =
    let none : elf_fault c.args.exe.now ≡ None = c.in-Ok.ensures.gives.0 in
    λ read debug log query.
    let known = known_reading c.in-Ok.elf c.in-Ok-read_debug.debug read.debug c.in-Ok-read_debug.ensures.reads c.in-Ok-read_debug.ensures.refuses
    (subst (λ (elf : Elf). IsDebugReading elf read.debug) (sym c.in-Ok.ensures.gives.1) (debug none)) in
    debug_given c.args.exe.now c.in-Ok-read_debug.debug read c.answer_log.result none known
    (subst (λ (elf : Elf). GivesText (judged_log elf (told_by c.in-Ok-read_debug.debug) read.log read.query) c.answer_log.result) c.in-Ok.ensures.gives.1
    (c.answer_log.ensures.text read.log read.query log (asked_of c.args.sql.now c.in-Ok-read_debug.debug read known query)))
