-- What the rules of an executable say of its segments and sections.
use Rattle.std.proofs.Common.{◌≡◌, ℕ, ◌<◌, ◌≤◌, false, leb, List, [], ◌∷◌, ◌++◌, Some, None, Err, inl, inr, length, refl, sym, ap, ◌∙◌, arith}
use Rattle.std.specs.Prelude.{Option, ◌⊎◌, All}
use Rattle.std.specs.Option.{option_or}
use Rattle.std.proofs.lemmas.Bool.Decides.{nat_tests}
use Rattle.om_base.specs.Firsts.{first_of, unless}
use Rattle.om_elf.specs.Executable.{elf_fault, elf_in, header_faults, table_faults, tables_in, tables_of}
use Rattle.om_elf.specs.Gives.{Gives}
use Rattle.om_elf.specs.Headers.{file_header, programs_of, sections_of}
use Rattle.om_elf.specs.Image.{AreLoadable, Image}
use Rattle.om_elf.specs.Piece.{Piece}
use Rattle.om_elf.specs.Sections.{is_unreadable, names_of, pieces_from}
use Rattle.om_elf.specs.Segments.{images_of, is_misplaced, memory_of}
use Rattle.om_elf.specs.declared.elf.Elf.{Elf}
use Rattle.om_elf.specs.declared.fault.ElfFault.{ElfFault}
use Rattle.om_elf.specs.declared.fault.ElfFault.TheVariants.{NoMemory, TooBig}
use Rattle.om_elf.specs.declared.file_header.FileHeader.{FileHeader}
use Rattle.om_elf.specs.declared.tables.Tables.{Tables}
use Rattle.om_elf.proofs.ListLemmas.{fails_everywhere, none_before}
use Rattle.om_base.proofs.FirstLemmas.{neither}
use Rattle.om_elf.proofs.SegmentLemmas.{images_loadable}

-- ---- answers

-- the file's fault is an answer
pub gives_fault : (fault : Option ElfFault) (wanted : Elf) (told : ElfFault) → fault ≡ Some told → Gives fault wanted (Err told)
gives_fault fault wanted NoMemory is = tt
gives_fault fault wanted told is = is

-- a fault that was told is the file's, or want of memory
pub fault_told : (fault : Option ElfFault) (wanted : Elf) (told : ElfFault) → Gives fault wanted (Err told) → (told ≡ NoMemory) ⊎ (fault ≡ Some told)
fault_told fault wanted NoMemory is = inl refl
fault_told fault wanted told is = inr is

first_of-append : (rules more : List (Option ElfFault)) → first_of (rules ++ more) ≡ option_or (first_of rules) (first_of more)
first_of-append [] more = refl
first_of-append (None ∷ rules) more = first_of-append rules more
first_of-append (Some fault ∷ rules) more = refl

-- the fault of a file is that of its ELF header, or else that of its tables
pub elf_fault_is : (file : List ℕ) → elf_fault file ≡ option_or (first_of (header_faults file (file_header file))) (first_of (table_faults file (tables_of file (file_header file))))
unfolding elf_fault tables_in
elf_fault_is file = first_of-append (header_faults file (file_header file)) (table_faults file (tables_of file (file_header file)))

pub elf_in_is : (file : List ℕ) → elf_in file ≡ record { entry = (file_header file).e_entry; flags = (file_header file).e_flags; segments = images_of file (programs_of file (file_header file)); sections = pieces_from file (names_of file (file_header file)) 0 (sections_of file (file_header file)) }
unfolding elf_in tables_in
elf_in_is file = refl

-- the fault of the tables is the file's where the ELF header has none
pub tables_fault : (file : List ℕ) (h : FileHeader) (t : Tables) (found : Option ElfFault) → h ≡ file_header file → first_of (header_faults file h) ≡ None → t ≡ tables_of file h → found ≡ first_of (table_faults file t) → elf_fault file ≡ found
tables_fault file h t found header sound tables told =
    elf_fault_is file
    ∙ sym (ap (λ x. option_or (first_of (header_faults file x)) (first_of (table_faults file (tables_of file x)))) header)
    ∙ ap (λ x. option_or x (first_of (table_faults file (tables_of file h)))) sound
    ∙ sym (told ∙ ap (λ x. first_of (table_faults file x)) tables)

-- the parts of the executable in a file
pub elf_of : (file : List ℕ) (h : FileHeader) (t : Tables) (segments : List Image) (sections : List Piece) → h ≡ file_header file → t ≡ tables_of file h → segments ≡ images_of file t.programs → sections ≡ pieces_from file t.names 0 t.sections
    → record { entry = h.e_entry; flags = h.e_flags; segments = segments; sections = sections } ≡ elf_in file
elf_of file h t segments sections header tables images pieces =
    let all : t ≡ tables_of file (file_header file) = tables ∙ ap (tables_of file) header in
    let first = images ∙ ap (λ x. images_of file x.programs) all in
    let second = pieces ∙ ap (λ x. pieces_from file x.names 0 x.sections) all in
    ap (λ x. record { entry = x.e_entry; flags = x.e_flags; segments = segments; sections = sections }) header
    ∙ ap (λ x. record { entry = (file_header file).e_entry; flags = (file_header file).e_flags; segments = x; sections = sections }) first
    ∙ ap (λ x. record { entry = (file_header file).e_entry; flags = (file_header file).e_flags; segments = images_of file (programs_of file (file_header file)); sections = x }) second
    ∙ sym (elf_in_is file)

-- ---- what holds where no rule is broken

-- each segment has its place
pub all_placed : (file : List ℕ) (t : Tables) → first_of (table_faults file t) ≡ None → All (λ p. is_misplaced file p ≡ false) t.programs
all_placed file t none = fails_everywhere (is_misplaced file) t.programs (none_before _ _ (neither _ _ none).0)

-- each section has its bytes and its name
pub all_readable : (file : List ℕ) (t : Tables) → first_of (table_faults file t) ≡ None → All (λ s. is_unreadable file t.names s ≡ false) t.sections
all_readable file t none = fails_everywhere (is_unreadable file t.names) t.sections (none_before _ _ (neither _ _ (neither _ _ none).1).0)

at_most : (n most : ℕ) (fault : ElfFault) → unless (leb n most) fault ≡ None → n ≤ most
at_most n most fault is = grind (arith, nat_tests)

pub all_loadable : (file : List ℕ) (t : Tables) (images : List Image) → images ≡ images_of file t.programs → first_of (table_faults file t) ≡ None → length t.programs < 65536 → AreLoadable images
all_loadable file t images is none few =
    let past_sections = (neither _ _ (neither _ _ none).1).1 in
    let past_overlap = neither _ _ past_sections in
    let total : memory_of t.programs ≤ 33554432 = at_most (memory_of t.programs) 33554432 TooBig (neither _ _ past_overlap.1).0 in
    rw is (images_loadable file t.programs (all_placed file t none) (none_before _ _ past_overlap.0) total few)

pub ruleset readings = (gives_fault, elf_fault_is, elf_in_is, all_placed, all_readable, all_loadable)
