-- The segments of an executable stand where its file tells, and so the executable does.
use Rattle.std.proofs.Common.{◌≡◌, ℕ, zero, suc, ◌+◌, ◌*◌, ◌<◌, ◌≤◌, Bool, true, false, cond, not, leb, ◌&&◌, List, ◌∷◌, None, map, length, refl, sym, ap, subst, ◌∙◌, arith}
use Rattle.std.specs.Prelude.{All, filter}
use Rattle.std.specs.List.{range_with_len}
use Rattle.std.proofs.lemmas.Bool.{leb-true}
use Rattle.std.proofs.lemmas.Bool.Decides.{nat_tests}
use Rattle.std.proofs.lemmas.List.Elements.{All-head, All-tail}
use Rattle.om_base.specs.Firsts.{first_of}
use Rattle.om_elf.specs.Executable.{elf_in, has_programs, has_sections, header_faults, table_faults, tables_of}
use Rattle.om_elf.specs.Found.{AreNumbered, ArePrograms, AreSegments, IsFound, IsProgram, IsSegment, Programs, is_loaded}
use Rattle.om_elf.specs.Headers.{file_header, program_header, programs_of}
use Rattle.om_elf.specs.Image.{Image}
use Rattle.om_elf.specs.Piece.{Piece}
use Rattle.om_elf.specs.Sections.{has_names, pieces_from}
use Rattle.om_elf.specs.Segments.{image_of, images_of, is_load, is_misplaced}
use Rattle.om_elf.specs.declared.fault.ElfFault.TheVariants.{Short}
use Rattle.om_elf.specs.declared.fault.ElfFault.TheVariants as fault
use Rattle.om_elf.specs.declared.file_header.FileHeader.{FileHeader}
use Rattle.om_elf.specs.declared.program_header.ProgramHeader.{ProgramHeader}
use Rattle.om_elf.specs.declared.tables.Tables.{Tables}
use Rattle.om_elf.proofs.ExecutableLemmas.{all_placed, all_readable, elf_in_is, elf_of}
use Rattle.om_elf.proofs.FoundLemmas.{all_found, range_stands, tells}
use Rattle.om_base.proofs.FirstLemmas.{kept_by, none_of}

placed_by : (load lies small ends : Bool) → (load && not (lies && small && ends)) ≡ false → load ≡ true → lies ≡ true
placed_by true true small ends placed loads = refl
placed_by true false small ends placed loads = absurd cc
placed_by false lies small ends placed loads = absurd cc

module _ (file : List ℕ) where
  abbrev h : FileHeader
  h = file_header file

  abbrev programs : Programs
  programs = record { offset = h.e_phoff; count = h.e_phnum }

  abbrev header : ℕ → ProgramHeader
  header number = program_header file (h.e_phoff + 32 * number)

  abbrev headers_from : ℕ → ℕ → List ProgramHeader
  headers_from n count = map header (range_with_len n count)

  module _ (long : 52 ≤ length file) (whole : has_programs file h ≡ true) where
    programs_are : ArePrograms file programs
    programs_are = record { e_phoff = tells 4 file 28 (omega arith); e_phnum = tells 2 file 44 (omega arith) }

    inside : (number : ℕ) → number < h.e_phnum → h.e_phoff + 32 * number + 32 ≤ length file
    inside number within = grind (arith, nat_tests, whole)

    header_is : (number : ℕ) → number < h.e_phnum → IsProgram file programs number (header number)
    header_is number within =
        let at = h.e_phoff + 32 * number in
        let room = inside number within in
        record {
          within = within;
          p_type = tells 4 file at (omega arith);
          p_offset = tells 4 file (at + 4) (omega arith);
          p_vaddr = tells 4 file (at + 8) (omega arith);
          p_filesz = tells 4 file (at + 16) (omega arith);
          p_memsz = tells 4 file (at + 20) (omega arith);
          p_flags = tells 4 file (at + 24) (omega arith);
        }

    segment_is : (number : ℕ) → number < h.e_phnum → is_misplaced file (header number) ≡ false → is_load (header number) ≡ true
        → IsSegment file programs number (image_of file (header number))
    segment_is number within placed loads =
        let p = header number in
        let lies = placed_by (is_load p) (leb (p.p_offset + p.p_filesz) (length file)) (leb p.p_filesz p.p_memsz) (leb (p.p_vaddr + p.p_memsz) 4294967296) placed loads in
        record {
          header = p;
          header_is = header_is number within;
          address = refl;
          size = refl;
          rights = refl;
          bytes = range_stands file p.p_offset p.p_filesz (leb-true (p.p_offset + p.p_filesz) (length file) lies);
        }

    numbered_cons : (b : Bool) (n : ℕ) (ns : List ℕ) (p : ProgramHeader) (ps : List ProgramHeader) → (b ≡ true → IsSegment file programs n (image_of file p))
        → AreNumbered file programs ns (map (image_of file) ps) → AreNumbered file programs (cond b (n ∷ ns) ns) (map (image_of file) (cond b (p ∷ ps) ps))
    numbered_cons true n ns p ps first others = (first refl, others)
    numbered_cons false n ns p ps first others = others

    numbered_from : (n count : ℕ) → n + count ≤ h.e_phnum → All (λ p. is_misplaced file p ≡ false) (headers_from n count)
        → AreNumbered file programs (filter (is_loaded file programs) (range_with_len n count)) (images_of file (headers_from n count))
    numbered_from n zero few placed = tt
    numbered_from n (suc count) few placed =
        let at_place = λ (p : ProgramHeader). is_misplaced file p ≡ false in
        let first = All-head at_place (header n) (headers_from (n + 1) count) placed in
        let others = All-tail at_place (header n) (headers_from (n + 1) count) placed in
        numbered_cons (is_load (header n)) n (filter (is_loaded file programs) (range_with_len (n + 1) count)) (header n) (filter is_load (headers_from (n + 1) count))
        (segment_is n (omega arith) first) (numbered_from (n + 1) count (omega arith) others)

  segments_found : 52 ≤ length file → has_programs file h ≡ true → All (λ p. is_misplaced file p ≡ false) (programs_of file h)
      → AreSegments file (images_of file (programs_of file h))
  segments_found long whole placed = record {
    programs = programs;
    programs_are = programs_are long whole;
    each = numbered_from long whole 0 h.e_phnum (omega arith) placed;
  }

-- ---- what holds where no rule is broken

header_sound : (file : List ℕ) (h : FileHeader) → first_of (header_faults file h) ≡ None
    → (52 ≤ length file) × (has_programs file h ≡ true) × (has_sections file h ≡ true) × (has_names file h ≡ true)
header_sound file h none =
    let tables = (none_of (header_faults file h) none).1.1.1.1.1.1 in
    let enough : leb 52 (length file) ≡ true = kept_by (leb 52 (length file)) Short (none_of (header_faults file h) none).0 in (
      leb-true 52 (length file) enough,
      kept_by (has_programs file h) (fault.Table 0) tables.0,
      kept_by (has_sections file h) (fault.Table 1) tables.1.0,
      kept_by (has_names file h) (fault.Table 2) tables.1.1.0,
    )

found_in : (file : List ℕ) → first_of (header_faults file (file_header file)) ≡ None → first_of (table_faults file (tables_of file (file_header file))) ≡ None
    → IsFound file (elf_in file)
found_in file sound none =
    let parts = header_sound file (file_header file) sound in
    let tables = tables_of file (file_header file) in
    subst (IsFound file) (sym (elf_in_is file)) (record {
      e_entry = tells 4 file 24 (omega (arith, parts.0));
      e_flags = tells 4 file 36 (omega (arith, parts.0));
      segments_are = segments_found file parts.0 parts.1 (all_placed file tables none);
      sections_are = all_found file parts.0 parts.2 parts.3 (all_readable file tables none);
    })

-- what is read from a file without a fault
pub elf_found : (file : List ℕ) (h : FileHeader) (t : Tables) (segments : List Image) (sections : List Piece) → h ≡ file_header file → first_of (header_faults file h) ≡ None
    → t ≡ tables_of file h → first_of (table_faults file t) ≡ None → segments ≡ images_of file t.programs → sections ≡ pieces_from file t.names 0 t.sections
    → IsFound file (record { entry = h.e_entry; flags = h.e_flags; segments = segments; sections = sections })
elf_found file h t segments sections header sound tables none images pieces =
    let all : t ≡ tables_of file (file_header file) = tables ∙ ap (tables_of file) header in
    subst (IsFound file) (sym (elf_of file h t segments sections header tables images pieces))
    (found_in file (sym (ap (λ x. first_of (header_faults file x)) header) ∙ sound) (sym (ap (λ x. first_of (table_faults file x)) all) ∙ none))
