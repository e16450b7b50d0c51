-- That an executable stands where its file tells: System V gABI, chapter 4, "ELF Header", "Sections" and "String Table", and chapter 5, "Program Header".
use Rattle.std.specs.Prelude.{◌≡◌, ◌≢◌, ℕ, ◌+◌, ◌*◌, ◌%◌, ◌<◌, Bool, not, nat_eq, List, [], ◌∷◌, ◌++◌, length, map, filter, All, Some, unwrap_or}
use Rattle.std.specs.List.{range_with_len}
use Rattle.om_base.specs.Numbers.{number_at}
use Rattle.om_elf.specs.Image.{Image}
use Rattle.om_elf.specs.Piece.{Piece}
use Rattle.om_elf.specs.declared.elf.Elf.{Elf}
use Rattle.om_elf.specs.declared.program_header.ProgramHeader.{ProgramHeader}
use Rattle.om_elf.specs.declared.section_header.SectionHeader.{SectionHeader}

-- ---- bytes

-- a number of so many bytes, the lowest first, stands at a place of a file
abbrev pub Tells : (size : ℕ) → (file : List ℕ) → (at n : ℕ) → Type 0
Tells size file at n = number_at size file at ≡ Some n

-- so many bytes stand at an offset of a file
pub record StandAt (file : List ℕ) (offset size : ℕ) (bytes : List ℕ) : Type 0 where
  pub front : List ℕ
  pub back : List ℕ
  pub whole : file ≡ front ++ (bytes ++ back)
  pub offset_is : length front ≡ offset
  pub size_is : length bytes ≡ size

-- a name without a zero byte stands at a place of a string table, and a zero byte ends it
pub record IsString (strings : List ℕ) (at : ℕ) (name : List ℕ) : Type 0 where
  pub front : List ℕ
  pub back : List ℕ
  pub whole : strings ≡ front ++ (name ++ 0 ∷ back)
  pub at_is : length front ≡ at
  pub no_zero : All (λ b. b ≢ 0) name

-- ---- segments

-- what the ELF header tells of program headers: where the first one is, and how many there are
pub record Programs : Type 0 where
  pub offset : ℕ
  pub count : ℕ

pub record ArePrograms (file : List ℕ) (programs : Programs) : Type 0 where
  pub e_phoff : Tells 4 file 28 programs.offset
  pub e_phnum : Tells 2 file 44 programs.count

-- where the program header of a number begins
abbrev pub program_at : Programs → ℕ → ℕ
program_at programs number = programs.offset + 32 * number

-- the program header of a number
pub record IsProgram (file : List ℕ) (programs : Programs) (number : ℕ) (header : ProgramHeader) : Type 0 where
  pub within : number < programs.count
  pub p_type : Tells 4 file (program_at programs number) header.p_type
  pub p_offset : Tells 4 file (program_at programs number + 4) header.p_offset
  pub p_vaddr : Tells 4 file (program_at programs number + 8) header.p_vaddr
  pub p_filesz : Tells 4 file (program_at programs number + 16) header.p_filesz
  pub p_memsz : Tells 4 file (program_at programs number + 20) header.p_memsz
  pub p_flags : Tells 4 file (program_at programs number + 24) header.p_flags

-- the program header of a number is of type PT_LOAD
abbrev pub is_loaded : List ℕ → Programs → ℕ → Bool
is_loaded file programs number = nat_eq (unwrap_or (number_at 4 file (program_at programs number)) 0) 1

-- a segment has the address, the size, the rights and the bytes that the program header of a number tells
pub record IsSegment (file : List ℕ) (programs : Programs) (number : ℕ) (image : Image) : Type 0 where
  pub header : ProgramHeader
  pub header_is : IsProgram file programs number header
  pub address : image.vaddr ≡ header.p_vaddr
  pub size : image.memsz ≡ header.p_memsz
  pub rights : image.rights ≡ header.p_flags % 8
  pub bytes : StandAt file header.p_offset header.p_filesz image.bytes

-- the segments of these numbers
abbrev pub AreNumbered : (file : List ℕ) → Programs → List ℕ → List Image → Type 0
AreNumbered file programs [] [] = Unit {0}
AreNumbered file programs [] (image ∷ images) = ⊥
AreNumbered file programs (number ∷ numbers) [] = ⊥
AreNumbered file programs (number ∷ numbers) (image ∷ images) = IsSegment file programs number image × AreNumbered file programs numbers images

-- the segments of a file, in the order of their headers: one for each that is of type PT_LOAD
pub record AreSegments (file : List ℕ) (images : List Image) : Type 0 where
  pub programs : Programs
  pub programs_are : ArePrograms file programs
  pub each : AreNumbered file programs (filter (is_loaded file programs) (range_with_len 0 programs.count)) images

-- ---- section headers

-- what the ELF header tells of section headers: where the first one is, how many there are, and which is that of the names
pub record Table : Type 0 where
  pub offset : ℕ
  pub count : ℕ
  pub names : ℕ

pub record IsTable (file : List ℕ) (table : Table) : Type 0 where
  pub e_shoff : Tells 4 file 32 table.offset
  pub e_shnum : Tells 2 file 48 table.count
  pub e_shstrndx : Tells 2 file 50 table.names

-- where the section header of a number begins
abbrev pub header_at : Table → ℕ → ℕ
header_at table number = table.offset + 40 * number

-- the section header of a number
pub record IsHeader (file : List ℕ) (table : Table) (number : ℕ) (header : SectionHeader) : Type 0 where
  pub within : number < table.count
  pub sh_name : Tells 4 file (header_at table number) header.sh_name
  pub sh_type : Tells 4 file (header_at table number + 4) header.sh_type
  pub sh_flags : Tells 4 file (header_at table number + 8) header.sh_flags
  pub sh_offset : Tells 4 file (header_at table number + 16) header.sh_offset
  pub sh_size : Tells 4 file (header_at table number + 20) header.sh_size

-- the section header of a number isn't of type SHT_NULL
abbrev pub stands_for_one : List ℕ → Table → ℕ → Bool
stands_for_one file table number = not (nat_eq (unwrap_or (number_at 4 file (header_at table number + 4)) 0) 0)

-- ---- sections

-- some bytes are those of the section of names
pub record AreNames (file : List ℕ) (table : Table) (strings : List ℕ) : Type 0 where
  pub header : SectionHeader
  pub header_is : IsHeader file table table.names header
  pub strings_are : StandAt file header.sh_offset header.sh_size strings

-- a name is the string at a place of the section of names
pub record IsNamed (file : List ℕ) (table : Table) (at : ℕ) (name : List ℕ) : Type 0 where
  pub strings : List ℕ
  pub strings_are : AreNames file table strings
  pub name_is : IsString strings at name

-- a section has the name and the bytes that its header tells; no name where e_shstrndx is SHN_UNDEF, and no bytes where its type is SHT_NOBITS
pub record IsSection (file : List ℕ) (table : Table) (piece : Piece) : Type 0 where
  pub header : SectionHeader
  pub header_is : IsHeader file table piece.index header
  pub some_kind : header.sh_type ≢ 0
  pub name : table.names ≢ 0 → IsNamed file table header.sh_name piece.name
  pub no_name : table.names ≡ 0 → piece.name ≡ []
  pub bytes : header.sh_type ≢ 8 → StandAt file header.sh_offset header.sh_size piece.bytes
  pub no_bytes : header.sh_type ≡ 8 → piece.bytes ≡ []

-- the sections of a file, in the order of their headers: one for each that isn't of type SHT_NULL
pub record AreSections (file : List ℕ) (pieces : List Piece) : Type 0 where
  pub table : Table
  pub table_is : IsTable file table
  pub each : All (IsSection file table) pieces
  pub numbers : map (λ p. p.index) pieces ≡ filter (stands_for_one file table) (range_with_len 0 table.count)

-- ---- the executable

pub record IsFound (file : List ℕ) (elf : Elf) : Type 0 where
  pub e_entry : Tells 4 file 24 elf.entry
  pub e_flags : Tells 4 file 36 elf.flags
  pub segments_are : AreSegments file elf.segments
  pub sections_are : AreSections file elf.sections
