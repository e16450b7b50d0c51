-- The ELF header and the headers that it leads to: System V gABI, chapter 4, "ELF Header" and "Sections", and chapter 5, "Program Header".
use Rattle.std.specs.Prelude.{ℕ, ◌+◌, ◌*◌, List, map}
use Rattle.std.specs.List.{range_with_len}
use Rattle.om_base.specs.Numbers.{half, word}
use Rattle.om_elf.specs.declared.file_header.FileHeader.{FileHeader}
use Rattle.om_elf.specs.declared.program_header.ProgramHeader.{ProgramHeader}
use Rattle.om_elf.specs.declared.section_header.SectionHeader.{SectionHeader}

-- the ELF header's fields at their offsets
abbrev pub file_header : List ℕ → FileHeader
file_header file = record {
  e_type = half file 16;
  e_machine = half file 18;
  e_entry = word file 24;
  e_phoff = word file 28;
  e_shoff = word file 32;
  e_flags = word file 36;
  e_phentsize = half file 42;
  e_phnum = half file 44;
  e_shentsize = half file 46;
  e_shnum = half file 48;
  e_shstrndx = half file 50;
}

-- ---- program headers

-- the program header that begins at an offset
abbrev pub program_header : List ℕ → ℕ → ProgramHeader
program_header file at = record {
  p_type = word file at;
  p_offset = word file (at + 4);
  p_vaddr = word file (at + 8);
  p_filesz = word file (at + 16);
  p_memsz = word file (at + 20);
  p_flags = word file (at + 24);
}

-- the table of program headers, each of 32 bytes, that an ELF header tells of
abbrev pub programs_of : List ℕ → FileHeader → List ProgramHeader
programs_of file h = map (λ place. program_header file (h.e_phoff + 32 * place)) (range_with_len 0 h.e_phnum)

-- ---- section headers

-- the section header that begins at an offset
abbrev pub section_header : List ℕ → ℕ → SectionHeader
section_header file at = record {
  sh_name = word file at;
  sh_type = word file (at + 4);
  sh_flags = word file (at + 8);
  sh_offset = word file (at + 16);
  sh_size = word file (at + 20);
}

-- the table of section headers, each of 40 bytes, that an ELF header tells of
abbrev pub sections_of : List ℕ → FileHeader → List SectionHeader
sections_of file h = map (λ place. section_header file (h.e_shoff + 40 * place)) (range_with_len 0 h.e_shnum)
