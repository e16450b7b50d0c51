use Rattle.std.proofs.Common.{◌≡◌, sym, subst, None, Ok, Err}
use Rattle.om_command.proofs.AnswerLemmas.{debug_told, debug_untold, elf_untold, known_fault, known_reading, text_refused, text_told}
use Rattle.om_command.specs.Command.{printed_within}
use Rattle.om_command.specs.Readings.{IsDebugReading}
use Rattle.om_command.specs.Reads.{GivesText, end_by_info}
use Rattle.om_command.proofs.information.told_of.Goals as goal
use Rattle.om_elf.specs.Executable.{elf_fault}
use Rattle.om_elf.specs.declared.elf.Elf.{Elf}
use Rattle.om_info.specs.Text.{info_of}
use Rattle.om_names.specs.Known.{told_by}

pub returns-in-Err-clause-text : goal.returns-in-Err-clause-text
returns-in-Err-clause-text c =
    λ read debug. rw c.end_by_elf.ensures (elf_untold c.args.exe.now c.in-Err.fault read c.in-Err.ensures.gives)

pub returns-in-Err-read_debug-clause-text : goal.returns-in-Err-read_debug-clause-text
returns-in-Err-read_debug-clause-text c =
    let none : elf_fault c.args.exe.now ≡ None = c.in-Ok.ensures.gives.0 in
    λ read debug.
    rw c.end_by_debug.ensures
    (debug_untold c.args.exe.now c.in-Err-read_debug.fault read none
    (known_fault c.in-Ok.elf c.in-Err-read_debug.fault read c.in-Err-read_debug.ensures.reads c.in-Err-read_debug.ensures.refuses
    (subst (λ (elf : Elf). IsDebugReading elf read) (sym c.in-Ok.ensures.gives.1) (debug none))))

pub returns-in-Ok-info_text-clause-text : goal.returns-in-Ok-info_text-clause-text
returns-in-Ok-info_text-clause-text c =
    let none : elf_fault c.args.exe.now ≡ None = c.in-Ok.ensures.gives.0 in
    λ read debug.
    debug_told c.args.exe.now c.in-Ok-read_debug.debug read (Ok c.in-Ok-info_text.text) none
    (known_reading c.in-Ok.elf c.in-Ok-read_debug.debug read c.in-Ok-read_debug.ensures.reads c.in-Ok-read_debug.ensures.refuses
    (subst (λ (elf : Elf). IsDebugReading elf read) (sym c.in-Ok.ensures.gives.1) (debug none)))
    (subst (λ (elf : Elf). GivesText (printed_within (info_of elf (told_by c.in-Ok-read_debug.debug))) (Ok c.in-Ok-info_text.text)) c.in-Ok.ensures.gives.1
    (text_told _ _ c.in-Ok-info_text.ensures.text c.in-Ok-info_text.ensures.within))

pub returns-clause-text : goal.returns-clause-text
returns-clause-text c =
    let none : elf_fault c.args.exe.now ≡ None = c.in-Ok.ensures.gives.0 in
    λ read debug.
    rw c.end_by_info.ensures
    (debug_told c.args.exe.now c.in-Ok-read_debug.debug read (Err (end_by_info c.in-Err-info_text.fault)) none
    (known_reading c.in-Ok.elf c.in-Ok-read_debug.debug read c.in-Ok-read_debug.ensures.reads c.in-Ok-read_debug.ensures.refuses
    (subst (λ (elf : Elf). IsDebugReading elf read) (sym c.in-Ok.ensures.gives.1) (debug none)))
    (subst (λ (elf : Elf). GivesText (printed_within (info_of elf (told_by c.in-Ok-read_debug.debug))) (Err (end_by_info c.in-Err-info_text.fault))) c.in-Ok.ensures.gives.1
    (text_refused (info_of c.in-Ok.elf (told_by c.in-Ok-read_debug.debug)) c.in-Err-info_text.fault (λ e. c.in-Err-info_text.ensures.long (cc)))))
