-- Tables of headers, entry by entry.
use Rattle.std.proofs.Common.{◌≡◌, ℕ, ◌+◌, ◌*◌, List, [], ◌∷◌, ◌++◌, map, length, refl, arith}
use Rattle.std.specs.List.{range_with_len}
use Rattle.std.proofs.lemmas.List.FromFn.{length-map-range_with_len, map-range_with_len_more}
use Rattle.om_elf.specs.Headers.{program_header, programs_of, section_header, sections_of}
use Rattle.om_elf.specs.declared.file_header.FileHeader.{FileHeader}
use Rattle.om_elf.specs.declared.program_header.ProgramHeader.{ProgramHeader}
use Rattle.om_elf.specs.declared.section_header.SectionHeader.{SectionHeader}

-- ---- program headers

-- so many program headers from an offset on
unfoldable pub first_programs : List ℕ → ℕ → ℕ → List ProgramHeader
first_programs file at count = map (λ place. program_header file (at + 32 * place)) (range_with_len 0 count)

pub first_programs-none : (file : List ℕ) (at : ℕ) → first_programs file at 0 ≡ []
unfolding first_programs
first_programs-none file at = refl

pub first_programs-more : (file : List ℕ) (at count : ℕ) → first_programs file at (count + 1) ≡ first_programs file at count ++ program_header file (at + 32 * count) ∷ []
unfolding first_programs
first_programs-more file at count =
    map-range_with_len_more (λ place. program_header file (at + 32 * place)) 0 count count (omega arith)

pub first_programs-all : (file : List ℕ) (h : FileHeader) (count : ℕ) → count ≡ h.e_phnum → first_programs file h.e_phoff count ≡ programs_of file h
unfolding first_programs
first_programs-all file h count is = rw is refl

pub length-first_programs : (file : List ℕ) (at count : ℕ) → length (first_programs file at count) ≡ count
unfolding first_programs
length-first_programs file at count = length-map-range_with_len (λ place. program_header file (at + 32 * place)) 0 count

pub ruleset program_tables = (first_programs-none, first_programs-more, first_programs-all, length-first_programs)

-- ---- section headers

-- so many section headers from an offset on
unfoldable pub first_sections : List ℕ → ℕ → ℕ → List SectionHeader
first_sections file at count = map (λ place. section_header file (at + 40 * place)) (range_with_len 0 count)

pub first_sections-none : (file : List ℕ) (at : ℕ) → first_sections file at 0 ≡ []
unfolding first_sections
first_sections-none file at = refl

pub first_sections-more : (file : List ℕ) (at count : ℕ) → first_sections file at (count + 1) ≡ first_sections file at count ++ section_header file (at + 40 * count) ∷ []
unfolding first_sections
first_sections-more file at count =
    map-range_with_len_more (λ place. section_header file (at + 40 * place)) 0 count count (omega arith)

pub first_sections-all : (file : List ℕ) (h : FileHeader) (count : ℕ) → count ≡ h.e_shnum → first_sections file h.e_shoff count ≡ sections_of file h
unfolding first_sections
first_sections-all file h count is = rw is refl

pub length-first_sections : (file : List ℕ) (at count : ℕ) → length (first_sections file at count) ≡ count
unfolding first_sections
length-first_sections file at count = length-map-range_with_len (λ place. section_header file (at + 40 * place)) 0 count

pub ruleset section_tables = (first_sections-none, first_sections-more, first_sections-all, length-first_sections)
