use Rattle.std.proofs.Common.{◌∙◌, ap, sym}
use Rattle.om_elf.specs.Executable.{elf_fault, elf_in}
use Rattle.om_elf.specs.Sections.{pieces_from}
use Rattle.om_elf.specs.Segments.{images_of}
use Rattle.om_elf.proofs.ExecutableLemmas.{all_loadable, elf_of, gives_fault, tables_fault}
use Rattle.om_elf.proofs.LoadedLemmas.{elf_found}
use Rattle.om_elf.proofs.elf.read_elf.Goals as goal

pub returns-in-Some-2-clause-gives : goal.returns-in-Some-2-clause-gives
returns-in-Some-2-clause-gives c =
    let file = c.args.file.now in
    let sound = sym c.fault.ensures ∙ c.in_default.is in
    gives_fault (elf_fault file) (elf_in file) c.in-Some-2.fault (tables_fault file c.of-header.result c.in_ok-tables.tables c.in_ok-fault.field-0 c.of-header.ensures sound c.in_ok-tables.ensures.tables c.in_ok-fault.ensures ∙ c.in-Some-2.is)

pub returns-clause-gives : goal.returns-clause-gives
returns-clause-gives c =
    let file = c.args.file.now in
    let sound = sym c.fault.ensures ∙ c.in_default.is in (
      tables_fault file c.of-header.result c.in_ok-tables.tables c.in_ok-fault.field-0 c.of-header.ensures sound c.in_ok-tables.ensures.tables c.in_ok-fault.ensures ∙ c.in_default-2.is,
      elf_of file c.of-header.result c.in_ok-tables.tables c.in_ok-segments.segments c.in_ok-sections.sections c.of-header.ensures c.in_ok-tables.ensures.tables
          (c.in_ok-segments.ensures.segments ∙ ap (images_of file) c.as_slice.ensures)
          (c.in_ok-sections.ensures.sections ∙ ap (pieces_from file c.in_ok-tables.tables.names 0) c.as_slice-2.ensures),
    )

pub returns-clause-loadable : goal.returns-clause-loadable
returns-clause-loadable c =
    let none = sym c.in_ok-fault.ensures ∙ c.in_default-2.is in
    all_loadable c.args.file.now c.in_ok-tables.tables c.in_ok-segments.segments (c.in_ok-segments.ensures.segments ∙ ap (images_of c.args.file.now) c.as_slice.ensures) none c.in_ok-tables.ensures.few_programs

pub returns-clause-found : goal.returns-clause-found
returns-clause-found c =
    let file = c.args.file.now in
    elf_found file c.of-header.result c.in_ok-tables.tables c.in_ok-segments.segments c.in_ok-sections.sections c.of-header.ensures (sym c.fault.ensures ∙ c.in_default.is)
    c.in_ok-tables.ensures.tables (sym c.in_ok-fault.ensures ∙ c.in_default-2.is)
    (c.in_ok-segments.ensures.segments ∙ ap (images_of file) c.as_slice.ensures)
    (c.in_ok-sections.ensures.sections ∙ ap (pieces_from file c.in_ok-tables.tables.names 0) c.as_slice-2.ensures)
