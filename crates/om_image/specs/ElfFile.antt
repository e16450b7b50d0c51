-- An executable as an ELF32 file: System V gABI, chapter 4, "ELF Header", "Sections" and "String Table", and chapter 5, "Program Header".
use Rattle.std.specs.Prelude.{ℕ, ◌+◌, ◌*◌, List, [], ◌∷◌, ◌++◌, length, take, drop, fold, replicate, codes}
use Rattle.std.specs.Int.{to_le_bytes, w16, w32}
use Rattle.std.specs.List.{flat_map}
use Rattle.om_image.specs.declared.elf_file.SectionTable.{SectionTable}
use Rattle.om_image.specs.declared.segment.Rights.{Rights}
use Rattle.om_image.specs.declared.segment.Rights.TheVariants.{ReadExecute, ReadWrite}
use Rattle.om_image.specs.declared.section.SectionKind.{SectionKind}
use Rattle.om_image.specs.declared.section.SectionKind.TheVariants.{ProgramBits, StringTable}

-- ---- what stands in a file

-- words that are loaded at an address, with the rights to their memory
pub record SegmentView : Type 0 where
  pub address : ℕ
  pub rights : Rights
  pub words : List ℕ

-- the name of a section, what its bytes are, and the bytes
pub record SectionView : Type 0 where
  pub name : List ℕ
  pub kind : SectionKind
  pub bytes : List ℕ

-- a section whose meaning is its program's
abbrev pub program_bits : (name bytes : List ℕ) → SectionView
program_bits name bytes = record { name = name; kind = ProgramBits; bytes = bytes }

-- PF_R is 4, PF_W is 2, PF_X is 1
abbrev pub p_flags_of : Rights → ℕ
p_flags_of ReadExecute = 5
p_flags_of ReadWrite = 6

-- SHT_PROGBITS, SHT_STRTAB
abbrev pub sh_type_of : SectionKind → ℕ
sh_type_of ProgramBits = 1
sh_type_of StringTable = 3

-- ---- numbers, and entries of tables

-- a number of 2 bytes, lowest byte first
unfoldable pub half : ℕ → List ℕ
half n = to_le_bytes w16 n

-- a number of 4 bytes, lowest byte first
unfoldable pub word : ℕ → List ℕ
word n = to_le_bytes w32 n

-- some bytes, with those of a field at its offset
abbrev pub with_field : List ℕ → ℕ × List ℕ → List ℕ
with_field bytes field = take field.0 bytes ++ field.1 ++ drop (field.0 + length field.1) bytes

-- so many bytes, with the fields at their offsets, and zeros elsewhere
abbrev pub entry_of : ℕ → List (ℕ × List ℕ) → List ℕ
entry_of size fields = fold with_field (replicate size 0) fields

-- pieces of a file with their offsets: the first one at this offset, each other one behind the one before it
abbrev pub placed : {X : Type 0} → (X → List ℕ) → ℕ → List X → List (ℕ × X)
placed bytes_of at [] = []
placed bytes_of at (x ∷ xs) = (at, x) ∷ placed bytes_of (at + length (bytes_of x)) xs

-- ---- segments

-- the bytes of a segment
abbrev pub segment_bytes : SegmentView → List ℕ
segment_bytes segment = flat_map word segment.words

-- the program header of a segment whose bytes are at an offset of the file
unfoldable pub program_header : ℕ × SegmentView → List ℕ
program_header p = entry_of 32 (
    (0, word 1)  -- p_type: PT_LOAD
    ∷ (4, word p.0)  -- p_offset
    ∷ (8, word p.1.address)  -- p_vaddr
    ∷ (12, word p.1.address)  -- p_paddr
    ∷ (16, word (length (segment_bytes p.1)))  -- p_filesz
    ∷ (20, word (length (segment_bytes p.1)))  -- p_memsz
    ∷ (24, word (p_flags_of p.1.rights))  -- p_flags
    ∷ (28, word 4)  -- p_align
    ∷ [])

-- ---- sections

-- the name of a section as it stands in the string table
abbrev pub name_bytes : SectionView → List ℕ
name_bytes section = section.name ++ 0 ∷ []

-- the section of the section names, of these bytes
abbrev pub names_of : List ℕ → SectionView
names_of bytes = record { name = codes ".shstrtab"; kind = StringTable; bytes = bytes }

-- the section of the names of these sections and of its own, behind an empty one
abbrev pub names_section : List SectionView → SectionView
names_section sections = names_of ((0 ∷ flat_map name_bytes sections) ++ codes ".shstrtab" ++ 0 ∷ [])

-- the sections of a file that is to have these: with the section names behind them, where there are any
abbrev pub all_sections : List SectionView → List SectionView
all_sections [] = []
all_sections (section ∷ sections) = (section ∷ sections) ++ names_section (section ∷ sections) ∷ []

-- the bytes of a section
abbrev pub section_bytes : SectionView → List ℕ
section_bytes section = section.bytes

-- the section header of a section whose name is at an offset of the string table, and whose bytes are at one of the file
unfoldable pub section_header : ℕ × (ℕ × SectionView) → List ℕ
section_header p = entry_of 40 (
    (0, word p.0)  -- sh_name
    ∷ (4, word (sh_type_of p.1.1.kind))  -- sh_type
    ∷ (16, word p.1.0)  -- sh_offset
    ∷ (20, word (length p.1.1.bytes))  -- sh_size
    ∷ (32, word 1)  -- sh_addralign
    ∷ [])

-- some sections with the offsets of their names and of their bytes, the first ones of which are these
abbrev pub placed_sections : (name_at at : ℕ) → List SectionView → List (ℕ × (ℕ × SectionView))
placed_sections name_at at sections = placed (λ p. name_bytes p.1) name_at (placed section_bytes at sections)

-- the section header table, whose first entry is zeros, of sections whose bytes begin at an offset of the file; none for no sections
abbrev pub section_table : ℕ → List SectionView → List ℕ
section_table at [] = []
section_table at (section ∷ sections) = replicate 40 0 ++ flat_map section_header (placed_sections 1 at (section ∷ sections))

-- ---- the file

-- the offset of the segments' bytes: behind the ELF header and a program header for each
abbrev pub segments_at : List SegmentView → ℕ
segments_at segments = 52 + 32 * length segments

-- the offset of the sections' bytes: behind those of the segments
abbrev pub sections_at : List SegmentView → ℕ
sections_at segments = segments_at segments + length (flat_map segment_bytes segments)

-- the offset of the section headers: behind the bytes of the sections
abbrev pub headers_at : List SegmentView → List SectionView → ℕ
headers_at segments sections = sections_at segments + length (flat_map section_bytes sections)

-- what the ELF header tells of the headers of sections, which are at an offset: zeros, where there are no sections
abbrev pub told_of : ℕ → List SectionView → SectionTable
told_of at [] = record { offset = 0; entry_size = 0; count = 0; names = 0 }
told_of at (section ∷ sections) = record {
  offset = at;
  entry_size = 40;
  count = length (section ∷ sections) + 1;
  names = length (section ∷ sections);
}

-- the ELF header of an executable with this entry and so many program headers
unfoldable pub elf_header : (entry programs : ℕ) → SectionTable → List ℕ
elf_header entry programs table = entry_of 52 (
    (0, 0x7F ∷ 0x45 ∷ 0x4C ∷ 0x46 ∷ [])  -- the magic number
    ∷ (4, 1 ∷ 1 ∷ 1 ∷ [])  -- ELFCLASS32, ELFDATA2LSB, EV_CURRENT
    ∷ (16, half 2)  -- e_type: ET_EXEC
    ∷ (18, half 243)  -- e_machine: EM_RISCV
    ∷ (20, word 1)  -- e_version: EV_CURRENT
    ∷ (24, word entry)  -- e_entry
    ∷ (28, word 52)  -- e_phoff
    ∷ (32, word table.offset)  -- e_shoff
    ∷ (40, half 52)  -- e_ehsize
    ∷ (42, half 32)  -- e_phentsize
    ∷ (44, half programs)  -- e_phnum
    ∷ (46, half table.entry_size)  -- e_shentsize
    ∷ (48, half table.count)  -- e_shnum
    ∷ (50, half table.names)  -- e_shstrndx
    ∷ [])

-- a file of these segments and sections: the ELF header, the program headers, the bytes of the segments and of the sections, and the section headers
unfoldable pub elf_file : (entry : ℕ) → List SegmentView → List SectionView → List ℕ
elf_file entry segments sections =
    let all = all_sections sections in
    elf_header entry (length segments) (told_of (headers_at segments all) all)
    ++ flat_map program_header (placed segment_bytes (segments_at segments) segments)
    ++ flat_map segment_bytes segments
    ++ flat_map section_bytes all
    ++ section_table (sections_at segments) all
