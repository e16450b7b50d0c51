-- Which files can be read as executables, what is wrong with the others, and what an executable gives.
use Rattle.std.specs.Prelude.{ℕ, ◌+◌, ◌*◌, Bool, ◌&&◌, ◌||◌, nat_eq, nat_le, bit_and, List, [], ◌∷◌, ◌++◌, length, position, slice_index, Option}
use Rattle.std.specs.Option.{option_map}
use Rattle.om_base.specs.Firsts.{first_of, unless}
use Rattle.om_base.specs.Spans.{overlap_of}
use Rattle.om_elf.specs.Headers.{file_header, programs_of, sections_of}
use Rattle.om_elf.specs.Sections.{has_names, is_compressed, is_unreadable, names_of, pieces_from}
use Rattle.om_elf.specs.Segments.{images_of, is_misplaced, memory_of, spans_of}
use Rattle.om_elf.specs.declared.elf.Elf.{Elf}
use Rattle.om_elf.specs.declared.fault.ElfFault.{ElfFault}
use Rattle.om_elf.specs.declared.fault.ElfFault.TheVariants.{Short, Magic, Class, Kind, Machine, Flags, Table, Overlap, TooBig, Compressed}
use Rattle.om_elf.specs.declared.file_header.FileHeader.{FileHeader}
use Rattle.om_elf.specs.declared.tables.Tables.{Tables}

-- ---- the ELF header

-- the file begins with the magic number 7F 45 4C 46
abbrev pub has_magic : List ℕ → Bool
has_magic file =
    nat_eq (slice_index file 0) 127 && nat_eq (slice_index file 1) 69 && nat_eq (slice_index file 2) 76 && nat_eq (slice_index file 3) 70

-- the class is ELFCLASS32, and the encoding ELFDATA2LSB
abbrev pub has_class : List ℕ → Bool
has_class file = nat_eq (slice_index file 4) 1 && nat_eq (slice_index file 5) 1

-- no flag stands for compressed instructions, floating-point registers or fewer registers
abbrev pub has_flags : FileHeader → Bool
has_flags h = nat_eq (bit_and h.e_flags 15) 0

-- there are no program headers, or each has 32 bytes, and the file holds all of them
abbrev pub has_programs : List ℕ → FileHeader → Bool
has_programs file h =
    nat_eq h.e_phnum 0 || (nat_eq h.e_phentsize 32 && nat_le (h.e_phoff + 32 * h.e_phnum) (length file))

-- there are no section headers, or each has 40 bytes, and the file holds all of them
abbrev pub has_sections : List ℕ → FileHeader → Bool
has_sections file h =
    nat_eq h.e_shnum 0 || (nat_eq h.e_shentsize 40 && nat_le (h.e_shoff + 40 * h.e_shnum) (length file))

-- what each rule of the ELF header says, in their order
abbrev pub header_faults : List ℕ → FileHeader → List (Option ElfFault)
header_faults file h =
    unless (nat_le 52 (length file)) Short
    ∷ unless (has_magic file) Magic
    ∷ unless (has_class file) Class
    ∷ unless (nat_eq h.e_type 2) Kind
    ∷ unless (nat_eq h.e_machine 243) Machine
    ∷ unless (has_flags h) Flags
    ∷ unless (has_programs file h) (Table 0)
    ∷ unless (has_sections file h) (Table 1)
    ∷ unless (has_names file h) (Table 2)
    ∷ []

-- ---- the tables

-- the tables that an ELF header leads to
abbrev pub tables_of : List ℕ → FileHeader → Tables
tables_of file h = record { programs = programs_of file h; sections = sections_of file h; names = names_of file h }

-- what each rule of their headers says, in their order
abbrev pub table_faults : List ℕ → Tables → List (Option ElfFault)
table_faults file t =
    option_map (λ place. Table (100 + place)) (position (is_misplaced file) t.programs)
    ∷ option_map (λ place. Table (100000 + place)) (position (is_unreadable file t.names) t.sections)
    ∷ option_map (λ pair. Overlap pair.0 pair.1) (overlap_of (spans_of t.programs))
    ∷ unless (nat_le (memory_of t.programs) 33554432) TooBig
    ∷ option_map (λ place. Compressed place) (position (is_compressed t.names) t.sections)
    ∷ []

-- ---- the whole file

-- the tables of a file
unfoldable pub tables_in : List ℕ → Tables
tables_in file = tables_of file (file_header file)

-- the fault of a file: that of the first rule that it breaks
unfoldable pub elf_fault : List ℕ → Option ElfFault
elf_fault file = first_of (header_faults file (file_header file) ++ table_faults file (tables_in file))

-- the executable in a file that has no fault
unfoldable pub elf_in : List ℕ → Elf
elf_in file =
    let tables = tables_in file in
    record {
      entry = (file_header file).e_entry;
      flags = (file_header file).e_flags;
      segments = images_of file tables.programs;
      sections = pieces_from file tables.names 0 tables.sections;
    }
