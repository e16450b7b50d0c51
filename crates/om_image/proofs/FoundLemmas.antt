-- Where the parts of a file stand.
use Rattle.std.proofs.Common.{◌≡◌, ℕ, ◌+◌, ◌*◌, Bool, true, List, [], ◌∷◌, ◌++◌, length, take, drop, nat_le, Some, None, if◌then◌else◌, refl, sym, ap, ◌∙◌, append_assoc, arith}
use Rattle.std.proofs.Math.Seq.{take-append_seam}
use Rattle.std.proofs.lemmas.Bool.{le-leb}
use Rattle.std.proofs.lemmas.List.{append-nil, drop_at, length-append}
use Rattle.std.specs.Prelude.{codes}
use Rattle.std.specs.List.{AllByRecursion, flat_map}
use Rattle.om_base.specs.Numbers.{bytes_at}
use Rattle.om_image.specs.ElfFile.{SegmentView, SectionView, all_sections, elf_file, elf_header, half, headers_at, name_bytes, names_section, placed, program_header, section_bytes, section_header, section_table, sections_at, segment_bytes, segments_at, told_of, word}
use Rattle.om_image.specs.Found.{StandAt}
use Rattle.om_image.specs.declared.elf_file.SectionTable.{SectionTable}
use Rattle.om_image.proofs.GrowingLemmas.{flat_map_push}

-- ---- pieces

-- bytes that stand behind others stand at the length of those
pub stands : (front bytes back : List ℕ) (at : ℕ) → length front ≡ at → StandAt (front ++ (bytes ++ back)) at bytes
stands front bytes back at is =
    let file = front ++ (bytes ++ back) in
    let whole : nat_le (at + length bytes) (length file) ≡ true =
    le-leb (at + length bytes) (length file) (omega (arith, is, length-append front (bytes ++ back), length-append bytes back)) in
    let there : take (length bytes) (drop at file) ≡ bytes = ap (take (length bytes)) (drop_at front (bytes ++ back) at is) ∙ take-append_seam bytes back in
    ap (λ (b : Bool). if b then Some (take (length bytes) (drop at file)) else None) whole ∙ ap (λ (xs : List ℕ). Some xs) there

-- pieces that stand one behind another stand where they are placed
all_stand : {X : Type 0} (f : X → List ℕ) (file front : List ℕ) (xs : List X) (back : List ℕ) (at : ℕ) → length front ≡ at
    → file ≡ front ++ (flat_map f xs ++ back) → AllByRecursion (λ p. StandAt file p.0 (f p.1)) (placed f at xs)
all_stand f file front [] back at is whole = tt
all_stand f file front (x ∷ xs) back at is whole =
    let rest = flat_map f xs ++ back in
    let first : file ≡ front ++ (f x ++ rest) = whole ∙ ap (λ (ys : List ℕ). front ++ ys) (append_assoc (f x) (flat_map f xs) back) in (
      ap (λ (ys : List ℕ). bytes_at (length (f x)) ys at) first ∙ stands front (f x) rest at is,
      all_stand f file (front ++ f x) xs back (at + length (f x)) (length-append front (f x) ∙ ap (λ (n : ℕ). n + length (f x)) is)
          (first ∙ sym (append_assoc front (f x) rest)),
    )

-- ---- sizes

pub header_size : (entry programs : ℕ) (table : SectionTable) → length (elf_header entry programs table) ≡ 52
unfolding elf_header half word
header_size entry programs table = refl

pub program_size : (p : ℕ × SegmentView) → length (program_header p) ≡ 32
unfolding program_header word
program_size p = refl

pub section_size : (p : ℕ × (ℕ × SectionView)) → length (section_header p) ≡ 40
unfolding section_header word
section_size p = refl

programs_size : (at : ℕ) (segments : List SegmentView) → length (flat_map program_header (placed segment_bytes at segments)) ≡ 32 * length segments
programs_size at [] = refl
programs_size at (segment ∷ segments) =
    let rest = flat_map program_header (placed segment_bytes (at + length (segment_bytes segment)) segments) in
    omega (
      arith,
      length-append (program_header (at, segment)) rest,
      program_size (at, segment),
      programs_size (at + length (segment_bytes segment)) segments,
    )

-- ---- a file

module _ (entry : ℕ) (segments : List SegmentView) (sections : List SectionView) where
  -- what the ELF header tells of the section headers
  abbrev pub told : SectionTable
  told = told_of (headers_at segments (all_sections sections)) (all_sections sections)

  abbrev pub file : List ℕ
  file = elf_file entry segments sections

  abbrev pub header : List ℕ
  header = elf_header entry (length segments) told

  abbrev pub programs : List ℕ
  programs = flat_map program_header (placed segment_bytes (segments_at segments) segments)

  abbrev pub loaded : List ℕ
  loaded = flat_map segment_bytes segments

  abbrev pub kept : List ℕ
  kept = flat_map section_bytes (all_sections sections)

  abbrev pub table : List ℕ
  table = section_table (sections_at segments) (all_sections sections)

  pub made : file ≡ (((header ++ programs) ++ loaded) ++ kept) ++ table
  unfolding elf_file
  made = refl

  pub before_loaded : length (header ++ programs) ≡ segments_at segments
  before_loaded = omega (
    arith,
    length-append header programs,
    header_size entry (length segments) told,
    programs_size (segments_at segments) segments,
  )

  pub before_kept : length ((header ++ programs) ++ loaded) ≡ sections_at segments
  before_kept = length-append (header ++ programs) loaded ∙ ap (λ (n : ℕ). n + length loaded) before_loaded

  pub before_table : length (((header ++ programs) ++ loaded) ++ kept) ≡ headers_at segments (all_sections sections)
  before_table = length-append ((header ++ programs) ++ loaded) kept ∙ ap (λ (n : ℕ). n + length kept) before_kept

  pub from_kept : file ≡ ((header ++ programs) ++ loaded) ++ (kept ++ table)
  from_kept = made ∙ append_assoc ((header ++ programs) ++ loaded) kept table

  pub from_loaded : file ≡ (header ++ programs) ++ (loaded ++ (kept ++ table))
  from_loaded = from_kept ∙ append_assoc (header ++ programs) loaded (kept ++ table)

  pub from_programs : file ≡ header ++ (programs ++ (loaded ++ (kept ++ table)))
  from_programs = from_loaded ∙ append_assoc header programs (loaded ++ (kept ++ table))

  pub segments_stand : AllByRecursion (λ p. StandAt file p.0 (segment_bytes p.1)) (placed segment_bytes (segments_at segments) segments)
  segments_stand = all_stand segment_bytes file (header ++ programs) segments (kept ++ table) (segments_at segments) before_loaded from_loaded

  pub sections_stand : AllByRecursion (λ p. StandAt file p.0 (section_bytes p.1)) (placed section_bytes (sections_at segments) (all_sections sections))
  sections_stand = all_stand section_bytes file ((header ++ programs) ++ loaded) (all_sections sections) table (sections_at segments) before_kept from_kept

-- ---- names

pub names_stand : (sections : List SectionView)
    → AllByRecursion (λ p. StandAt (names_section sections).bytes p.0 (name_bytes p.1)) (placed name_bytes 1 (all_sections sections))
names_stand [] = tt
names_stand (section ∷ sections) =
    let others = section ∷ sections in
    let last = names_section others in
    let names = flat_map name_bytes others in
    let own = codes ".shstrtab" in
    let whole : (names ++ own) ++ 0 ∷ [] ≡ flat_map name_bytes (others ++ last ∷ []) ++ [] =
    append_assoc names own (0 ∷ []) ∙ sym (flat_map_push name_bytes others last) ∙ sym (append-nil (flat_map name_bytes (others ++ last ∷ []))) in
    all_stand name_bytes last.bytes (0 ∷ []) (others ++ last ∷ []) [] 1 refl (ap (λ (xs : List ℕ). 0 ∷ xs) whole)
