-- Sections and their names: System V gABI, chapter 4, "Sections" and "String Table".
use Rattle.std.specs.Prelude.{ℕ, ◌+◌, ◌*◌, ◌-◌, Bool, true, ◌&&◌, ◌||◌, not, nat_eq, nat_lt, nat_le, bit_and, if◌then◌else◌, List, [], codes, length, map, filter, find, take, drop, Option, Some, None, unwrap_or}
use Rattle.std.specs.List.{enumerate_from, starts_with}
use Rattle.std.specs.Option.{is_none, option_map}
use Rattle.std.specs.Str.{bytes_eq}
use Rattle.om_base.specs.Nul.{nul_from}
use Rattle.om_elf.specs.Headers.{section_header}
use Rattle.om_elf.specs.Piece.{Piece}
use Rattle.om_elf.specs.declared.file_header.FileHeader.{FileHeader}
use Rattle.om_elf.specs.declared.section_header.SectionHeader.{SectionHeader}

-- ---- bytes

-- a header stands for a section: its type isn't SHT_NULL
abbrev pub is_section : SectionHeader → Bool
is_section s = not (nat_eq s.sh_type 0)

-- a section has bytes in the file: its type isn't SHT_NOBITS
abbrev pub has_bytes : SectionHeader → Bool
has_bytes s = not (nat_eq s.sh_type 8)

-- the range that a header gives lies in the file
abbrev pub lies_in : List ℕ → SectionHeader → Bool
lies_in file s = nat_le (s.sh_offset + s.sh_size) (length file)

-- the bytes of that range
abbrev pub range_of : List ℕ → SectionHeader → List ℕ
range_of file s = take s.sh_size (drop s.sh_offset file)

-- the bytes of a section
abbrev pub bytes_in : List ℕ → SectionHeader → List ℕ
bytes_in file s = if has_bytes s then range_of file s else []

-- ---- names

-- the string of a string table that begins at a place, if a zero byte ends it
abbrev pub string_at : List ℕ → ℕ → Option (List ℕ)
string_at strings at = option_map (λ end. take (end - at) (drop at strings)) (nul_from at strings)

-- the header that e_shstrndx names, where there are sections and it isn't SHN_UNDEF
abbrev pub name_section : List ℕ → FileHeader → Option SectionHeader
name_section file h =
    if nat_eq h.e_shnum 0 || nat_eq h.e_shstrndx 0 then None
    else Some (section_header file (h.e_shoff + 40 * h.e_shstrndx))

-- such a header is in the table, and its range lies in the file
abbrev pub has_names : List ℕ → FileHeader → Bool
has_names file h =
    unwrap_or (option_map (λ s. nat_lt h.e_shstrndx h.e_shnum && lies_in file s) (name_section file h)) true

-- the string table of the sections' names, if there is one
abbrev pub names_of : List ℕ → FileHeader → Option (List ℕ)
names_of file h = option_map (range_of file) (name_section file h)

-- the name of a section, if a zero byte ends it; empty where there is no string table
abbrev pub name_in : Option (List ℕ) → SectionHeader → Option (List ℕ)
name_in None s = Some []
name_in (Some strings) s = string_at strings s.sh_name

-- ---- sections

-- a header stands for a section whose bytes pass the file's end, or whose name doesn't end
abbrev pub is_unreadable : List ℕ → Option (List ℕ) → SectionHeader → Bool
is_unreadable file names s = is_section s && (has_bytes s && not (lies_in file s) || is_none (name_in names s))

-- the name of a section that has one, else no bytes
abbrev pub name_of : Option (List ℕ) → SectionHeader → List ℕ
name_of names s = unwrap_or (name_in names s) []

-- a section of debug information is compressed, as its flag SHF_COMPRESSED or its name says
abbrev pub is_compressed : Option (List ℕ) → SectionHeader → Bool
is_compressed names s =
    is_section s
    && (starts_with nat_eq (name_of names s) (codes ".debug_") && not (nat_eq (bit_and s.sh_flags 2048) 0)
    || starts_with nat_eq (name_of names s) (codes ".zdebug_"))

-- what a header and its number in the table stand for
abbrev pub piece_of : List ℕ → Option (List ℕ) → ℕ × SectionHeader → Piece
piece_of file names numbered = record {
  index = numbered.0;
  name = name_of names numbered.1;
  bytes = bytes_in file numbered.1;
}

-- the sections of some headers, which have numbers from one on, in their order
abbrev pub pieces_from : List ℕ → Option (List ℕ) → ℕ → List SectionHeader → List Piece
pieces_from file names n sections = map (piece_of file names) (filter (λ p. is_section p.1) (enumerate_from n sections))

-- the bytes of the first section of a name, if there is one
abbrev pub bytes_of : List ℕ → List Piece → Option (List ℕ)
bytes_of name pieces = option_map (λ p. p.bytes) (find (λ p. bytes_eq p.name name) pieces)
