-- The sections of an executable stand where its file tells.
use Rattle.std.proofs.Common.{◌≡◌, ◌≢◌, ℕ, zero, suc, ◌+◌, ◌-◌, ◌*◌, ◌<◌, ◌≤◌, Bool, true, false, cond, not, nat_eq, leb, ltb, ◌&&◌, ◌||◌, List, [], ◌∷◌, ◌++◌, Option, Some, None, Ok, ok_or, map, length, take, drop, refl, sym, ap, subst, ◌∙◌, arith, append_assoc, length-take, length-drop}
use Rattle.std.specs.Prelude.{All, filter, unwrap_or}
use Rattle.std.specs.List.{enumerate_from, range_with_len}
use Rattle.std.specs.Option.{is_none, option_map}
use Rattle.std.specs.Result.{result_map_both}
use Rattle.std.proofs.lemmas.Bool.{le-leb, leb-true}
use Rattle.std.proofs.lemmas.Bool.Decides.{nat_tests}
use Rattle.std.proofs.lemmas.List.{take-append-drop}
use Rattle.std.proofs.lemmas.List.Elements.{All-nil, All-cons, All-head, All-tail}
use Rattle.om_base.specs.Nul.{nul_from}
use Rattle.om_base.specs.Numbers.{le, number_at}
use Rattle.om_base.specs.Reading.{text_of}
use Rattle.om_base.specs.declared.numbers.Num.TheVariants.{NoNul}
use Rattle.om_base.proofs.FieldLaws as field
use Rattle.om_elf.specs.Executable.{has_sections}
use Rattle.om_elf.specs.Found.{AreSections, IsHeader, IsNamed, IsSection, IsString, IsTable, StandAt, Table, stands_for_one}
use Rattle.om_elf.specs.Headers.{file_header, section_header, sections_of}
use Rattle.om_elf.specs.Piece.{Piece}
use Rattle.om_elf.specs.Sections.{has_bytes, has_names, is_section, is_unreadable, lies_in, name_in, name_of, name_section, names_of, piece_of, pieces_from, range_of, string_at}
use Rattle.om_elf.specs.declared.file_header.FileHeader.{FileHeader}
use Rattle.om_elf.specs.declared.section_header.SectionHeader.{SectionHeader}
use Rattle.om_elf.proofs.BlockLemmas.{nul_within}

-- ---- numbers

number_by : (inside : Bool) (field : List ℕ) → inside ≡ true
    → option_map le (cond inside (Some field) None) ≡ Some (unwrap_or (option_map le (cond inside (Some field) None)) 0)
number_by true field is = refl
number_by false field is = absurd cc

-- a number that lies in the file stands there
pub tells : (size : ℕ) (file : List ℕ) (at : ℕ) → at + size ≤ length file → number_at size file at ≡ Some (unwrap_or (number_at size file at) 0)
unfolding number_at
tells size file at inside = number_by (leb (at + size) (length file)) (take size (drop at file)) (le-leb (at + size) (length file) inside)

-- ---- ranges

pub range_stands : (file : List ℕ) (offset size : ℕ) → offset + size ≤ length file → StandAt file offset size (take size (drop offset file))
range_stands file offset size inside = record {
  front = take offset file;
  back = drop size (drop offset file);
  whole = sym (take-append-drop offset file) ∙ ap (λ xs. take offset file ++ xs) (sym (take-append-drop size (drop offset file)));
  offset_is = omega (arith, length-take offset file);
  size_is = omega (arith, length-take size (drop offset file), length-drop offset file);
}

section_stands : (file : List ℕ) (s : SectionHeader) → lies_in file s ≡ true → StandAt file s.sh_offset s.sh_size (range_of file s)
section_stands file s lies = range_stands file s.sh_offset s.sh_size (leb-true (s.sh_offset + s.sh_size) (length file) lies)

-- ---- strings

text_from : (at : ℕ) (rest name : List ℕ) (found : Option ℕ)
    → option_map (λ end. take (end - at) rest) (option_map (λ k. at + k) found) ≡ Some name → (k : ℕ) × (found ≡ Some k) × (take k rest ≡ name)
text_from at rest name None is = absurd cc
text_from at rest name (Some k) is =
    let same : take (at + k - at) rest ≡ name = cc in
    let plain : k ≡ at + k - at = omega arith in
    (k, refl, ap (λ n. take n rest) plain ∙ same)

-- a name that is found in a string table stands there
string_stands : (strings : List ℕ) (at : ℕ) (name : List ℕ) → string_at strings at ≡ Some name → IsString strings at name
string_stands strings at name is =
    let rest = drop at strings in
    let after = field.nul_after at strings in
    let found = text_from at rest name (nul_from 0 rest) (sym (ap (option_map (λ end. take (end - at) rest)) after) ∙ is) in
    let k = found.0 in
    let read : text_of rest ≡ Ok (name, k + 1) =
    ap (λ (o : Option ℕ). ok_or (option_map (λ k. (take k rest, k + 1)) o) NoNul) found.1 ∙ ap (λ (xs : List ℕ). Ok (xs, k + 1)) found.2 in
    let stands = field.text_reads.takes rest name (drop (k + 1) rest) (ap (result_map_both (λ (x : List ℕ × ℕ). (x.0, drop x.1 rest)) (λ e. e)) read) in
    let place = nul_within strings at (at + k) (after ∙ ap (option_map (λ k. at + k)) found.1) in
    record {
      front = take at strings;
      back = drop (k + 1) rest;
      whole = sym (take-append-drop at strings) ∙ ap (λ (xs : List ℕ). take at strings ++ xs)
          (stands.1 ∙ ap (λ (xs : List ℕ). xs ++ drop (k + 1) rest) stands.2.ends ∙ append_assoc name (0 ∷ []) (drop (k + 1) rest));
      at_is = omega (arith, length-take at strings, place.0, place.1);
      no_zero = stands.2.no_zero;
    }

-- ---- one section

readable_by : (is bytes lies none : Bool) → (is && (bytes && not lies || none)) ≡ false → is ≡ true → (bytes ≡ true → lies ≡ true) × (none ≡ false)
readable_by true true true false sound is' = (λ _. refl, refl)
readable_by true true true true sound is' = absurd cc
readable_by true true false none sound is' = absurd cc
readable_by true false lies false sound is' = (λ bytes. absurd cc, refl)
readable_by true false lies true sound is' = absurd cc
readable_by false bytes lies none sound is' = absurd cc

some_name : (name : Option (List ℕ)) → is_none name ≡ false → name ≡ Some (unwrap_or name [])
some_name None none = absurd cc
some_name (Some name) none = refl

module _ (file : List ℕ) where
  abbrev h : FileHeader
  h = file_header file

  abbrev table : Table
  table = record { offset = h.e_shoff; count = h.e_shnum; names = h.e_shstrndx }

  abbrev names : Option (List ℕ)
  names = names_of file h

  abbrev header : ℕ → SectionHeader
  header number = section_header file (h.e_shoff + 40 * number)

  abbrev headers_from : ℕ → ℕ → List SectionHeader
  headers_from n count = map header (range_with_len n count)

  abbrev pieces : ℕ → ℕ → List Piece
  pieces n count = pieces_from file names n (headers_from n count)

  module _ (long : 52 ≤ length file) (whole : has_sections file h ≡ true) (named : has_names file h ≡ true) where
    table_is : IsTable file table
    table_is = record {
      e_shoff = tells 4 file 32 (omega arith);
      e_shnum = tells 2 file 48 (omega arith);
      e_shstrndx = tells 2 file 50 (omega arith);
    }

    inside : (number : ℕ) → number < h.e_shnum → h.e_shoff + 40 * number + 40 ≤ length file
    inside number within = grind (arith, nat_tests, whole)

    header_is : (number : ℕ) → number < h.e_shnum → IsHeader file table number (header number)
    header_is number within =
        let at = h.e_shoff + 40 * number in
        let room = inside number within in
        record {
          within = within;
          sh_name = tells 4 file at (omega arith);
          sh_type = tells 4 file (at + 4) (omega arith);
          sh_flags = tells 4 file (at + 8) (omega arith);
          sh_offset = tells 4 file (at + 16) (omega arith);
          sh_size = tells 4 file (at + 20) (omega arith);
        }

    -- where there are sections and e_shstrndx isn't SHN_UNDEF, there is a section of names
    has_one : (number : ℕ) → number < h.e_shnum → h.e_shstrndx ≢ 0 → name_section file h ≡ Some (header h.e_shstrndx)
    has_one number within defined =
        let some : (nat_eq h.e_shnum 0 || nat_eq h.e_shstrndx 0) ≡ false = grind (arith, nat_tests) in
        ap (λ (b : Bool). cond b None (Some (header h.e_shstrndx))) some

    names_lie : (number : ℕ) → number < h.e_shnum → h.e_shstrndx ≢ 0 → (h.e_shstrndx < h.e_shnum) × (lies_in file (header h.e_shstrndx) ≡ true)
    names_lie number within defined =
        let both = sym (ap (λ (o : Option SectionHeader). unwrap_or (option_map (λ s. ltb h.e_shstrndx h.e_shnum && lies_in file s) o) true) (has_one number within defined)) ∙ named in
        (grind (arith, nat_tests, both), grind (arith, nat_tests, both))

    name_found : (number : ℕ) → number < h.e_shnum → is_none (name_in names (header number)) ≡ false → h.e_shstrndx ≢ 0
        → IsNamed file table (header number).sh_name (name_of names (header number))
    name_found number within there defined =
        let s = header h.e_shstrndx in
        let lie = names_lie number within defined in
        let strings_is : names ≡ Some (range_of file s) = ap (option_map (range_of file)) (has_one number within defined) in
        let told : name_in (Some (range_of file s)) (header number) ≡ Some (name_of names (header number)) =
        sym (ap (λ o. name_in o (header number)) strings_is) ∙ some_name (name_in names (header number)) there in
        record {
          strings = range_of file s;
          strings_are = record { header = s; header_is = header_is h.e_shstrndx lie.0; strings_are = section_stands file s lie.1 };
          name_is = string_stands (range_of file s) (header number).sh_name (name_of names (header number)) told;
        }

    no_name : (number : ℕ) → h.e_shstrndx ≡ 0 → name_of names (header number) ≡ []
    no_name number undefined =
        let none : (nat_eq h.e_shnum 0 || nat_eq h.e_shstrndx 0) ≡ true = grind (arith, nat_tests) in
        ap (λ (b : Bool). name_of (option_map (range_of file) (cond b None (Some (header h.e_shstrndx)))) (header number)) none

    section_is : (number : ℕ) → number < h.e_shnum → is_unreadable file names (header number) ≡ false → is_section (header number) ≡ true
        → IsSection file table (piece_of file names (number, header number))
    section_is number within sound is =
        let s = header number in
        let parts = readable_by (is_section s) (has_bytes s) (lies_in file s) (is_none (name_in names s)) sound is in
        record {
          header = s;
          header_is = header_is number within;
          some_kind = λ null. absurd (grind (arith, nat_tests, is));
          name = name_found number within parts.1;
          no_name = no_name number;
          bytes = λ some.
              let kept : has_bytes s ≡ true = grind (arith, nat_tests) in
              subst (StandAt file s.sh_offset s.sh_size) (sym (ap (λ (b : Bool). cond b (range_of file s) []) kept)) (section_stands file s (parts.0 kept));
          no_bytes = λ none.
              let lost : has_bytes s ≡ false = grind (arith, nat_tests) in
              ap (λ (b : Bool). cond b (range_of file s) []) lost;
        }

    -- ---- all sections

    each_cons : (b : Bool) (p : ℕ × SectionHeader) (ps : List (ℕ × SectionHeader)) → (b ≡ true → IsSection file table (piece_of file names p))
        → All (IsSection file table) (map (piece_of file names) ps) → All (IsSection file table) (map (piece_of file names) (cond b (p ∷ ps) ps))
    each_cons true p ps first others = All-cons (IsSection file table) (piece_of file names p) (map (piece_of file names) ps) (first refl) others
    each_cons false p ps first others = others

    each_from : (n count : ℕ) → n + count ≤ h.e_shnum → All (λ s. is_unreadable file names s ≡ false) (headers_from n count)
        → All (IsSection file table) (pieces n count)
    each_from n zero few sound = All-nil (IsSection file table)
    each_from n (suc count) few sound =
        let readable = λ (s : SectionHeader). is_unreadable file names s ≡ false in
        let first = All-head readable (header n) (headers_from (n + 1) count) sound in
        let others = All-tail readable (header n) (headers_from (n + 1) count) sound in
        each_cons (is_section (header n)) (n, header n) (filter (λ p. is_section p.1) (enumerate_from (n + 1) (headers_from (n + 1) count)))
        (section_is n (omega arith) first) (each_from (n + 1) count (omega arith) others)

  numbers_cons : (b : Bool) (n : ℕ) (s : SectionHeader) (ps : List (ℕ × SectionHeader)) (ns : List ℕ) → map (λ (p : Piece). p.index) (map (piece_of file names) ps) ≡ ns
      → map (λ (p : Piece). p.index) (map (piece_of file names) (cond b ((n, s) ∷ ps) ps)) ≡ cond b (n ∷ ns) ns
  numbers_cons true n s ps ns is = ap (λ xs. n ∷ xs) is
  numbers_cons false n s ps ns is = is

  numbers_from : (n count : ℕ) → map (λ (p : Piece). p.index) (pieces n count) ≡ filter (stands_for_one file table) (range_with_len n count)
  numbers_from n zero = refl
  numbers_from n (suc count) =
      numbers_cons (is_section (header n)) n (header n) (filter (λ p. is_section p.1) (enumerate_from (n + 1) (headers_from (n + 1) count)))
      (filter (stands_for_one file table) (range_with_len (n + 1) count)) (numbers_from (n + 1) count)

  pub all_found : 52 ≤ length file → has_sections file h ≡ true → has_names file h ≡ true
      → All (λ s. is_unreadable file names s ≡ false) (sections_of file h) → AreSections file (pieces 0 h.e_shnum)
  all_found long whole named sound = record {
    table = table;
    table_is = table_is long whole named;
    each = each_from long whole named 0 h.e_shnum (omega arith) sound;
    numbers = numbers_from 0 h.e_shnum;
  }
