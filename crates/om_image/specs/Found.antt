-- That everything in a file stands where its bytes tell: System V gABI, chapter 4, "ELF Header", "Sections" and "String Table", and chapter 5, "Program Header".
use Rattle.std.specs.Prelude.{◌≡◌, ℕ, ◌+◌, ◌*◌, ◌^◌, ◌<◌, List, [], ◌∷◌, ◌++◌, length, Some}
use Rattle.std.specs.List.{AllByRecursion}
use Rattle.om_base.specs.Numbers.{bytes_at, number_at}
use Rattle.om_image.specs.ElfFile.{SegmentView, SectionView, elf_file, names_of, p_flags_of, segment_bytes, sh_type_of}

-- ---- bytes

-- a number of so many bytes, the lowest first, stands at a place of a file
abbrev pub Tells : (size : ℕ) → (file : List ℕ) → (at n : ℕ) → Type 0
Tells size file at n = number_at size file at ≡ Some n

-- these bytes stand at an offset of a file
abbrev pub StandAt : (file : List ℕ) → (at : ℕ) → (bytes : List ℕ) → Type 0
StandAt file at bytes = bytes_at (length bytes) file at ≡ Some bytes

-- each thing of a list has its place: the first one this place, and each other one that behind so many bytes
abbrev pub EachAt : {X : Type 0} → (size : ℕ) → (ℕ → X → Type 0) → ℕ → List X → Type 0
EachAt size P at [] = Unit {0}
EachAt size P at (x ∷ xs) = P at x × EachAt size P (at + size) xs

-- ---- segments

-- the program header at a place is that of a segment, whose bytes stand where it tells
pub record IsSegment (file : List ℕ) (at : ℕ) (segment : SegmentView) : Type 0 where
  pub offset : ℕ
  pub p_type : Tells 4 file at 1
  pub p_offset : Tells 4 file (at + 4) offset
  pub p_vaddr : Tells 4 file (at + 8) segment.address
  pub p_filesz : Tells 4 file (at + 16) (length (segment_bytes segment))
  pub p_memsz : Tells 4 file (at + 20) (length (segment_bytes segment))
  pub p_flags : Tells 4 file (at + 24) (p_flags_of segment.rights)
  pub stands : StandAt file offset (segment_bytes segment)

-- the ELF header tells of a program header for each segment
pub record AreSegments (file : List ℕ) (segments : List SegmentView) : Type 0 where
  pub offset : ℕ
  pub e_phoff : Tells 4 file 28 offset
  pub e_phentsize : Tells 2 file 42 32
  pub e_phnum : Tells 2 file 44 (length segments)
  pub each : EachAt 32 (IsSegment file) offset segments

-- ---- sections

-- the section header at a place is that of a section, whose bytes stand where it tells, and whose name in these strings
pub record IsSection (file strings : List ℕ) (at : ℕ) (section : SectionView) : Type 0 where
  pub name : ℕ
  pub offset : ℕ
  pub sh_name : Tells 4 file at name
  pub sh_type : Tells 4 file (at + 4) (sh_type_of section.kind)
  pub sh_offset : Tells 4 file (at + 16) offset
  pub sh_size : Tells 4 file (at + 20) (length section.bytes)
  pub stands : StandAt file offset section.bytes
  pub named : StandAt strings name (section.name ++ 0 ∷ [])

-- the ELF header tells of a section header for each section, behind one of type SHT_NULL, and for the strings that are their names
pub record AreSomeSections (file : List ℕ) (sections : List SectionView) : Type 0 where
  pub offset : ℕ
  pub names : ℕ
  pub strings : List ℕ
  pub e_shoff : Tells 4 file 32 offset
  pub e_shentsize : Tells 2 file 46 40
  pub e_shnum : Tells 2 file 48 (length sections + 2)
  pub e_shstrndx : Tells 2 file 50 names
  pub null : Tells 4 file (offset + 4) 0
  pub each : EachAt 40 (IsSection file strings) (offset + 40) sections
  pub strings_are : IsSection file strings (offset + 40 * names) (names_of strings)

-- it tells of none where there are no sections
abbrev pub AreSections : (file : List ℕ) → List SectionView → Type 0
AreSections file [] = Tells 2 file 48 0 × Tells 2 file 50 0
AreSections file (section ∷ sections) = AreSomeSections file (section ∷ sections)

-- ---- files

-- each number has room in its field
pub record HaveRoom (entry : ℕ) (segments : List SegmentView) (sections : List SectionView) : Type 0 where
  pub small_entry : entry < 2 ^ 32
  pub small_addresses : AllByRecursion (λ segment. segment.address < 2 ^ 32) segments
  pub few_segments : length segments < 2 ^ 16
  pub few_sections : length sections + 2 < 2 ^ 16
  pub small : length (elf_file entry segments sections) < 2 ^ 32

-- a file tells what it is: ELFCLASS32, ELFDATA2LSB and EV_CURRENT behind the magic number, ET_EXEC, EM_RISCV, EV_CURRENT, and no flags
pub record IsExecutable (file : List ℕ) : Type 0 where
  pub e_ident : StandAt file 0 (0x7F ∷ 0x45 ∷ 0x4C ∷ 0x46 ∷ 1 ∷ 1 ∷ 1 ∷ [])
  pub e_type : Tells 2 file 16 2
  pub e_machine : Tells 2 file 18 243
  pub e_version : Tells 4 file 20 1
  pub e_flags : Tells 4 file 36 0

-- it tells this, where to begin, and where the segments, the sections and their names stand
pub record IsFound (file : List ℕ) (entry : ℕ) (segments : List SegmentView) (sections : List SectionView) : Type 0 where
  pub executable : IsExecutable file
  pub e_entry : Tells 4 file 24 entry
  pub segments_are : AreSegments file segments
  pub sections_are : AreSections file sections

abbrev pub EverythingIsFound : Type 0
EverythingIsFound = (entry : ℕ) (segments : List SegmentView) (sections : List SectionView)
    → HaveRoom entry segments sections → IsFound (elf_file entry segments sections) entry segments sections
