-- What a reader finds in a file by its headers.
use Rattle.std.proofs.Common.{◌≡◌, ℕ, ◌+◌, ◌*◌, ◌^◌, ◌<◌, ◌≤◌, Bool, true, false, cond, leb, List, [], ◌∷◌, ◌++◌, length, take, drop, replicate, Some, None, refl, sym, ap, subst, ◌∙◌, append_assoc, arith}
use Rattle.std.proofs.lemmas.Bool.{leb-true}
use Rattle.std.proofs.lemmas.List.{append-nil, length-append}
use Rattle.std.proofs.lemmas.List.Concat.{flat_map-append}
use Rattle.std.specs.List.{AllByRecursion, flat_map}
use Rattle.std.specs.Option.{option_map}
use Rattle.om_base.specs.Numbers.{bytes_at, le, number_at}
use Rattle.om_image.specs.ElfFile.{SegmentView, SectionView, elf_file, elf_header, half, headers_at, name_bytes, names_section, p_flags_of, placed, placed_sections, program_header, section_bytes, section_header, sections_at, segment_bytes, segments_at, sh_type_of, word}
use Rattle.om_image.specs.Found.{AreSections, AreSegments, AreSomeSections, EachAt, EverythingIsFound, HaveRoom, IsExecutable, IsSection, IsSegment, StandAt, Tells}
use Rattle.om_image.specs.declared.elf_file.SectionTable.{SectionTable}
use Rattle.om_image.specs.declared.section.SectionKind.{SectionKind}
use Rattle.om_image.specs.declared.section.SectionKind.TheVariants.{ProgramBits, StringTable}
use Rattle.om_image.specs.declared.segment.Rights.{Rights}
use Rattle.om_image.specs.declared.segment.Rights.TheVariants.{ReadExecute, ReadWrite}
use Rattle.om_image.proofs.FoundLemmas as found
use Rattle.om_image.proofs.GrowingLemmas.{flat_map_push}
use Rattle.om_image.proofs.HeaderLemmas.{counts, grouped, ident, kinds, length_of_word, length_of_words, places, section_header_is}

-- ---- numbers

le_word : (n : ℕ) → n < 2 ^ 32 → le (word n) ≡ n
unfolding word le
le_word n small = omega arith

le_half : (n : ℕ) → n < 2 ^ 16 → le (half n) ≡ n
unfolding half le
le_half n small = omega arith

length_of_half : (n : ℕ) → length (half n) ≡ 2
unfolding half
length_of_half n = refl

-- one of some entries of equal size, which stand one behind another
part : {X : Type 0} (f : X → List ℕ) (file front : List ℕ) (xs : List X) (x : X) (ys : List X) (back : List ℕ) (at : ℕ)
    → file ≡ front ++ (flat_map f (xs ++ x ∷ ys) ++ back) → length front + length (flat_map f xs) ≡ at → StandAt file at (f x)
part f file front xs x ys back at whole place =
    let before = flat_map f xs in
    let after = flat_map f ys in
    let parts : file ≡ (front ++ before) ++ (f x ++ (after ++ back)) =
    whole
    ∙ ap (λ (zs : List ℕ). front ++ (zs ++ back)) (flat_map-append f xs (x ∷ ys))
    ∙ ap (λ (zs : List ℕ). front ++ zs) (append_assoc before (f x ++ after) back)
    ∙ sym (append_assoc front before ((f x ++ after) ++ back))
    ∙ ap (λ (zs : List ℕ). (front ++ before) ++ zs) (append_assoc (f x) after back) in
    ap (λ (zs : List ℕ). bytes_at (length (f x)) zs at) parts ∙ found.stands (front ++ before) (f x) (after ++ back) at (length-append front before ∙ place)

-- bytes that spell a number tell it where they stand
told_by : (bytes file : List ℕ) (size at n : ℕ) → length bytes ≡ size → le bytes ≡ n → StandAt file at bytes → Tells size file at n
unfolding number_at
told_by bytes file size at n long is there =
    ap (λ (k : ℕ). option_map le (bytes_at k file at)) (sym long) ∙ ap (option_map le) there ∙ ap (λ (m : ℕ). Some m) is

word_tells : (file front xs : List ℕ) (x : ℕ) (ys back : List ℕ) (at : ℕ) → file ≡ front ++ (flat_map word (xs ++ x ∷ ys) ++ back)
    → length front + 4 * length xs ≡ at → x < 2 ^ 32 → Tells 4 file at x
word_tells file front xs x ys back at whole place small =
    told_by (word x) file 4 at x (length_of_word x) (le_word x small)
    (part word file front xs x ys back at whole (ap (λ (n : ℕ). length front + n) (length_of_words xs) ∙ place))

length_of_halves : (xs : List ℕ) → length (flat_map half xs) ≡ 2 * length xs
length_of_halves [] = refl
length_of_halves (x ∷ xs) = omega (arith, length-append (half x) (flat_map half xs), length_of_half x, length_of_halves xs)

half_tells : (file front xs : List ℕ) (x : ℕ) (ys back : List ℕ) (at : ℕ) → file ≡ front ++ (flat_map half (xs ++ x ∷ ys) ++ back)
    → length front + 2 * length xs ≡ at → x < 2 ^ 16 → Tells 2 file at x
half_tells file front xs x ys back at whole place small =
    told_by (half x) file 2 at x (length_of_half x) (le_half x small)
    (part half file front xs x ys back at whole (ap (λ (n : ℕ). length front + n) (length_of_halves xs) ∙ place))

-- ---- bytes

there_by : (inside : Bool) (bytes wanted : List ℕ) → cond inside (Some bytes) None ≡ Some wanted → inside ≡ true
there_by true bytes wanted is = refl
there_by false bytes wanted is = absurd cc

-- bytes that stand in a file end in it
ends_within : (file : List ℕ) (at : ℕ) (bytes : List ℕ) → StandAt file at bytes → at + length bytes ≤ length file
ends_within file at bytes there =
    leb-true (at + length bytes) (length file) (there_by (leb (at + length bytes) (length file)) (take (length bytes) (drop at file)) bytes there)

-- ---- the ELF header

module _ (file rest : List ℕ) (entry programs : ℕ) (table : SectionTable) (whole : file ≡ elf_header entry programs table ++ rest) where
  from_places : file ≡ (ident ++ kinds) ++ (places entry table ++ (counts programs table ++ rest))
  from_places =
      whole
      ∙ ap (λ (xs : List ℕ). xs ++ rest) (sym (grouped entry programs table))
      ∙ append_assoc ident (kinds ++ (places entry table ++ counts programs table)) rest
      ∙ ap (λ (xs : List ℕ). ident ++ xs) (append_assoc kinds (places entry table ++ counts programs table) rest)
      ∙ ap (λ (xs : List ℕ). ident ++ (kinds ++ xs)) (append_assoc (places entry table) (counts programs table) rest)
      ∙ sym (append_assoc ident kinds (places entry table ++ (counts programs table ++ rest)))

  from_counts : file ≡ ((ident ++ kinds) ++ places entry table) ++ (counts programs table ++ rest)
  from_counts = from_places ∙ sym (append_assoc (ident ++ kinds) (places entry table) (counts programs table ++ rest))

  before_places : length (ident ++ kinds) ≡ 20
  unfolding half
  before_places = refl

  before_counts : length ((ident ++ kinds) ++ places entry table) ≡ 40
  unfolding half word
  before_counts = refl

  from_kinds : file ≡ ident ++ (kinds ++ (places entry table ++ (counts programs table ++ rest)))
  from_kinds = from_places ∙ append_assoc ident kinds (places entry table ++ (counts programs table ++ rest))

  abbrev magic : List ℕ
  magic = 0x7F ∷ 0x45 ∷ 0x4C ∷ 0x46 ∷ 1 ∷ 1 ∷ 1 ∷ []

  abbrev padding : List ℕ
  padding = 0 ∷ 0 ∷ 0 ∷ 0 ∷ 0 ∷ 0 ∷ 0 ∷ 0 ∷ 0 ∷ []

  executable : IsExecutable file
  executable =
      let behind = places entry table ++ (counts programs table ++ rest) in
      record {
        e_ident = ap (λ (zs : List ℕ). bytes_at 7 zs 0) from_kinds ∙ found.stands [] magic (padding ++ (kinds ++ behind)) 0 refl;
        e_type = half_tells file ident [] 2 (243 ∷ []) behind 16 from_kinds refl (omega arith);
        e_machine = half_tells file ident (2 ∷ []) 243 [] behind 18 from_kinds refl (omega arith);
        e_version = word_tells file (ident ++ kinds) [] 1 (entry ∷ 52 ∷ table.offset ∷ 0 ∷ []) (counts programs table ++ rest) 20 from_places (omega (arith, before_places)) (omega arith);
        e_flags = word_tells file (ident ++ kinds) (1 ∷ entry ∷ 52 ∷ table.offset ∷ []) 0 [] (counts programs table ++ rest) 36 from_places (omega (arith, before_places)) (omega arith);
      }

  e_entry : entry < 2 ^ 32 → Tells 4 file 24 entry
  e_entry small =
      word_tells file (ident ++ kinds) (1 ∷ []) entry (52 ∷ table.offset ∷ 0 ∷ []) (counts programs table ++ rest) 24 from_places (omega (arith, before_places)) small

  e_phoff : Tells 4 file 28 52
  e_phoff =
      word_tells file (ident ++ kinds) (1 ∷ entry ∷ []) 52 (table.offset ∷ 0 ∷ []) (counts programs table ++ rest) 28 from_places (omega (arith, before_places)) (omega arith)

  e_shoff : table.offset < 2 ^ 32 → Tells 4 file 32 table.offset
  e_shoff small =
      word_tells file (ident ++ kinds) (1 ∷ entry ∷ 52 ∷ []) table.offset (0 ∷ []) (counts programs table ++ rest) 32 from_places (omega (arith, before_places)) small

  abbrev count_tells : (xs : List ℕ) (x : ℕ) (ys : List ℕ) (at : ℕ) → counts programs table ≡ flat_map half (xs ++ x ∷ ys) → 40 + 2 * length xs ≡ at → x < 2 ^ 16 → Tells 2 file at x
  count_tells xs x ys at is place small =
      half_tells file ((ident ++ kinds) ++ places entry table) xs x ys rest at
      (from_counts ∙ ap (λ (zs : List ℕ). ((ident ++ kinds) ++ places entry table) ++ (zs ++ rest)) is) (omega (arith, before_counts, place)) small

  e_phentsize : Tells 2 file 42 32
  e_phentsize = count_tells (52 ∷ []) 32 (programs ∷ table.entry_size ∷ table.count ∷ table.names ∷ []) 42 refl (omega arith) (omega arith)

  e_phnum : programs < 2 ^ 16 → Tells 2 file 44 programs
  e_phnum small = count_tells (52 ∷ 32 ∷ []) programs (table.entry_size ∷ table.count ∷ table.names ∷ []) 44 refl (omega arith) small

  e_shentsize : table.entry_size < 2 ^ 16 → Tells 2 file 46 table.entry_size
  e_shentsize small = count_tells (52 ∷ 32 ∷ programs ∷ []) table.entry_size (table.count ∷ table.names ∷ []) 46 refl (omega arith) small

  e_shnum : table.count < 2 ^ 16 → Tells 2 file 48 table.count
  e_shnum small = count_tells (52 ∷ 32 ∷ programs ∷ table.entry_size ∷ []) table.count (table.names ∷ []) 48 refl (omega arith) small

  e_shstrndx : table.names < 2 ^ 16 → Tells 2 file 50 table.names
  e_shstrndx small = count_tells (52 ∷ 32 ∷ programs ∷ table.entry_size ∷ table.count ∷ []) table.names [] 50 refl (omega arith) small

-- ---- program headers

flags_small : (rights : Rights) → p_flags_of rights < 2 ^ 32
flags_small ReadExecute = omega arith
flags_small ReadWrite = omega arith

program_words : (p : ℕ × SegmentView) → program_header p
    ≡ flat_map word (1 ∷ p.0 ∷ p.1.address ∷ p.1.address ∷ length (segment_bytes p.1) ∷ length (segment_bytes p.1) ∷ p_flags_of p.1.rights ∷ 4 ∷ [])
unfolding program_header word
program_words p = refl

segment_found : (file front back : List ℕ) (at offset : ℕ) (segment : SegmentView) → length front ≡ at → file ≡ front ++ (program_header (offset, segment) ++ back)
    → StandAt file offset (segment_bytes segment) → segment.address < 2 ^ 32 → length file < 2 ^ 32 → IsSegment file at segment
segment_found file front back at offset segment place whole there address small =
    let size = length (segment_bytes segment) in
    let within = ends_within file offset (segment_bytes segment) there in
    let words = whole ∙ ap (λ (zs : List ℕ). front ++ (zs ++ back)) (program_words (offset, segment)) in
    let a = segment.address in
    let f = p_flags_of segment.rights in
    record {
      offset = offset;
      p_type = word_tells file front [] 1 (offset ∷ a ∷ a ∷ size ∷ size ∷ f ∷ 4 ∷ []) back at words (omega (arith, place)) (omega arith);
      p_offset = word_tells file front (1 ∷ []) offset (a ∷ a ∷ size ∷ size ∷ f ∷ 4 ∷ []) back (at + 4) words (omega (arith, place)) (omega (arith, within));
      p_vaddr = word_tells file front (1 ∷ offset ∷ []) a (a ∷ size ∷ size ∷ f ∷ 4 ∷ []) back (at + 8) words (omega (arith, place)) address;
      p_filesz = word_tells file front (1 ∷ offset ∷ a ∷ a ∷ []) size (size ∷ f ∷ 4 ∷ []) back (at + 16) words (omega (arith, place)) (omega (arith, within));
      p_memsz = word_tells file front (1 ∷ offset ∷ a ∷ a ∷ size ∷ []) size (f ∷ 4 ∷ []) back (at + 20) words (omega (arith, place)) (omega (arith, within));
      p_flags = word_tells file front (1 ∷ offset ∷ a ∷ a ∷ size ∷ size ∷ []) f (4 ∷ []) back (at + 24) words (omega (arith, place)) (flags_small segment.rights);
      stands = there;
    }

each_segment : (file front : List ℕ) (at offset : ℕ) (segments : List SegmentView) (back : List ℕ) → length front ≡ at
    → file ≡ front ++ (flat_map program_header (placed segment_bytes offset segments) ++ back)
    → AllByRecursion (λ p. StandAt file p.0 (segment_bytes p.1)) (placed segment_bytes offset segments)
    → AllByRecursion (λ segment. segment.address < 2 ^ 32) segments → length file < 2 ^ 32 → EachAt 32 (IsSegment file) at segments
each_segment file front at offset [] back place whole there addresses small = tt
each_segment file front at offset (segment ∷ segments) back place whole there addresses small =
    let first = program_header (offset, segment) in
    let next = offset + length (segment_bytes segment) in
    let others = flat_map program_header (placed segment_bytes next segments) in
    let parts : file ≡ front ++ (first ++ (others ++ back)) = whole ∙ ap (λ (zs : List ℕ). front ++ zs) (append_assoc first others back) in (
      segment_found file front (others ++ back) at offset segment place parts there.0 addresses.0 small,
      each_segment file (front ++ first) (at + 32) next segments back (omega (arith, place, length-append front first, found.program_size (offset, segment)))
          (parts ∙ sym (append_assoc front first (others ++ back))) there.1 addresses.1 small,
    )

-- ---- section headers

type_small : (kind : SectionKind) → sh_type_of kind < 2 ^ 32
type_small ProgramBits = omega arith
type_small StringTable = omega arith

section_found : (file strings front back : List ℕ) (at name offset : ℕ) (section : SectionView) → length front ≡ at
    → file ≡ front ++ (section_header (name, (offset, section)) ++ back) → StandAt file offset section.bytes → StandAt strings name (name_bytes section)
    → length strings < 2 ^ 32 → length file < 2 ^ 32 → IsSection file strings at section
section_found file strings front back at name offset section place whole there named few small =
    let size = length section.bytes in
    let within = ends_within file offset section.bytes there in
    let ends = ends_within strings name (name_bytes section) named in
    let words = whole ∙ ap (λ (zs : List ℕ). front ++ (zs ++ back)) (section_header_is (name, (offset, section))) in
    let t = sh_type_of section.kind in
    record {
      name = name;
      offset = offset;
      sh_name = word_tells file front [] name (t ∷ 0 ∷ 0 ∷ offset ∷ size ∷ 0 ∷ 0 ∷ 1 ∷ 0 ∷ []) back at words (omega (arith, place)) (omega (arith, ends));
      sh_type = word_tells file front (name ∷ []) t (0 ∷ 0 ∷ offset ∷ size ∷ 0 ∷ 0 ∷ 1 ∷ 0 ∷ []) back (at + 4) words (omega (arith, place)) (type_small section.kind);
      sh_offset = word_tells file front (name ∷ t ∷ 0 ∷ 0 ∷ []) offset (size ∷ 0 ∷ 0 ∷ 1 ∷ 0 ∷ []) back (at + 16) words (omega (arith, place)) (omega (arith, within));
      sh_size = word_tells file front (name ∷ t ∷ 0 ∷ 0 ∷ offset ∷ []) size (0 ∷ 0 ∷ 1 ∷ 0 ∷ []) back (at + 20) words (omega (arith, place)) (omega (arith, within));
      stands = there;
      named = named;
    }

each_section : (file strings front : List ℕ) (at name offset : ℕ) (sections : List SectionView) (back : List ℕ) → length front ≡ at
    → file ≡ front ++ (flat_map section_header (placed_sections name offset sections) ++ back)
    → AllByRecursion (λ p. StandAt file p.0 (section_bytes p.1)) (placed section_bytes offset sections)
    → AllByRecursion (λ p. StandAt strings p.0 (name_bytes p.1)) (placed name_bytes name sections)
    → length strings < 2 ^ 32 → length file < 2 ^ 32 → EachAt 40 (IsSection file strings) at sections
each_section file strings front at name offset [] back place whole there named few small = tt
each_section file strings front at name offset (section ∷ sections) back place whole there named few small =
    let first = section_header (name, (offset, section)) in
    let next_name = name + length (name_bytes section) in
    let next = offset + length section.bytes in
    let others = flat_map section_header (placed_sections next_name next sections) in
    let parts : file ≡ front ++ (first ++ (others ++ back)) = whole ∙ ap (λ (zs : List ℕ). front ++ zs) (append_assoc first others back) in (
      section_found file strings front (others ++ back) at name offset section place parts there.0 named.0 few small,
      each_section file strings (front ++ first) (at + 40) next_name next sections back
          (omega (arith, place, length-append front first, found.section_size (name, (offset, section))))
          (parts ∙ sym (append_assoc front first (others ++ back))) there.1 named.1 few small,
    )

-- the last one apart
each_push : {X : Type 0} (P : ℕ → X → Type 0) (at : ℕ) (xs : List X) (x : X) → EachAt 40 P at (xs ++ x ∷ []) → EachAt 40 P at xs × P (at + 40 * length xs) x
each_push P at [] x each = (tt, subst (λ (n : ℕ). P n x) (omega arith) each.0)
each_push P at (y ∷ xs) x each =
    let others = each_push P (at + 40) xs x each.1 in
    let same : at + 40 + 40 * length xs ≡ at + 40 * length (y ∷ xs) = omega arith in
    ((each.0, others.0), subst (λ (n : ℕ). P n x) same others.1)

-- the header of type SHT_NULL
zeros : flat_map word (0 ∷ 0 ∷ 0 ∷ 0 ∷ 0 ∷ 0 ∷ 0 ∷ 0 ∷ 0 ∷ 0 ∷ []) ≡ replicate 40 0
unfolding word
zeros = refl

-- ---- a file

module _ (entry : ℕ) (segments : List SegmentView) (sections : List SectionView) (room : HaveRoom entry segments sections) where
  abbrev file : List ℕ
  file = elf_file entry segments sections

  abbrev header : List ℕ
  header = found.header entry segments sections

  abbrev told : SectionTable
  told = found.told entry segments sections

  abbrev programs : List ℕ
  programs = found.programs entry segments sections

  abbrev rest : List ℕ
  rest = programs ++ (found.loaded entry segments sections ++ (found.kept entry segments sections ++ found.table entry segments sections))

  header_whole : file ≡ header ++ rest
  header_whole = found.from_programs entry segments sections

  told_executable : IsExecutable file
  told_executable = executable file rest entry (length segments) told header_whole

  entry_told : Tells 4 file 24 entry
  entry_told = e_entry file rest entry (length segments) told header_whole room.small_entry

  segments_found : AreSegments file segments
  segments_found = record {
    offset = 52;
    e_phoff = e_phoff file rest entry (length segments) told header_whole;
    e_phentsize = e_phentsize file rest entry (length segments) told header_whole;
    e_phnum = e_phnum file rest entry (length segments) told header_whole room.few_segments;
    each = each_segment file header 52 (segments_at segments) segments
        (found.loaded entry segments sections ++ (found.kept entry segments sections ++ found.table entry segments sections))
        (found.header_size entry (length segments) told) header_whole (found.segments_stand entry segments sections) room.small_addresses room.small;
  }

-- the strings that are the names of some sections
abbrev strings_of : List SectionView → List ℕ
strings_of sections = (names_section sections).bytes

module _ (entry : ℕ) (segments : List SegmentView) (section : SectionView) (others : List SectionView) (room : HaveRoom entry segments (section ∷ others)) where
  abbrev some : List SectionView
  some = section ∷ others

  abbrev all : List SectionView
  all = some ++ names_section some ∷ []

  abbrev whole : List ℕ
  whole = elf_file entry segments some

  abbrev before : List ℕ
  before = ((found.header entry segments some ++ found.programs entry segments some) ++ found.loaded entry segments some) ++ found.kept entry segments some

  abbrev at : ℕ
  at = headers_at segments all

  abbrev headers : List ℕ
  headers = flat_map section_header (placed_sections 1 (sections_at segments) all)

  ends : length whole ≡ at + (40 + length headers)
  ends = omega (
    arith,
    ap length (found.made entry segments some),
    length-append before (replicate 40 0 ++ headers),
    length-append (replicate 40 0) headers,
    found.before_table entry segments some,
  )

  few_strings : length (strings_of some) < 2 ^ 32
  few_strings = omega (
    arith,
    ends,
    length-append (found.loaded entry segments some) [],
    ap length (flat_map_push section_bytes some (names_section some)),
    length-append (flat_map section_bytes some) (strings_of some),
    room.small,
  )

  table_whole : whole ≡ (before ++ replicate 40 0) ++ (headers ++ [])
  table_whole =
      found.made entry segments some
      ∙ sym (append_assoc before (replicate 40 0) headers)
      ∙ ap (λ (zs : List ℕ). (before ++ replicate 40 0) ++ zs) (sym (append-nil headers))

  null_whole : whole ≡ before ++ (flat_map word (0 ∷ 0 ∷ 0 ∷ 0 ∷ 0 ∷ 0 ∷ 0 ∷ 0 ∷ 0 ∷ 0 ∷ []) ++ headers)
  null_whole = found.made entry segments some ∙ ap (λ (zs : List ℕ). before ++ (zs ++ headers)) (sym zeros)

  before_size : length before ≡ at
  before_size = found.before_table entry segments some

  each : EachAt 40 (IsSection whole (strings_of some)) (at + 40) all
  each =
      each_section whole (strings_of some) (before ++ replicate 40 0) (at + 40) 1 (sections_at segments) all []
      (omega (arith, before_size, length-append before (replicate 40 0))) table_whole
      (found.sections_stand entry segments some) (found.names_stand some) few_strings room.small

  apart : EachAt 40 (IsSection whole (strings_of some)) (at + 40) some × IsSection whole (strings_of some) (at + 40 + 40 * length some) (names_section some)
  apart = each_push (IsSection whole (strings_of some)) (at + 40) some (names_section some) each

  all_size : length all ≡ length some + 1
  all_size = length-append some (names_section some ∷ [])

  last_place : at + 40 + 40 * length some ≡ at + 40 * length all
  last_place = omega (arith, all_size)

  some_found : AreSomeSections whole some
  some_found =
      let file_is = header_whole entry segments some room in
      let table = found.told entry segments some in
      let behind = rest entry segments some room in
      record {
        offset = at;
        names = length all;
        strings = strings_of some;
        e_shoff = e_shoff whole behind entry (length segments) table file_is (omega (arith, ends, room.small));
        e_shentsize = e_shentsize whole behind entry (length segments) table file_is (omega arith);
        e_shnum = subst (Tells 2 whole 48) (omega (arith, all_size))
            (e_shnum whole behind entry (length segments) table file_is (omega (arith, all_size, room.few_sections)));
        e_shstrndx = e_shstrndx whole behind entry (length segments) table file_is (omega (arith, all_size, room.few_sections));
        null = word_tells whole before (0 ∷ []) 0 (0 ∷ 0 ∷ 0 ∷ 0 ∷ 0 ∷ 0 ∷ 0 ∷ 0 ∷ []) headers (at + 4) null_whole (omega (arith, before_size)) (omega arith);
        each = apart.0;
        strings_are = subst (λ (n : ℕ). IsSection whole (strings_of some) n (names_section some)) last_place apart.1;
      }

any_found : (entry : ℕ) (segments : List SegmentView) (sections : List SectionView) → HaveRoom entry segments sections
    → AreSections (elf_file entry segments sections) sections
any_found entry segments [] room =
    let file_is = header_whole entry segments [] room in
    let behind = rest entry segments [] room in
    let table = found.told entry segments [] in
    let whole = elf_file entry segments [] in (
      e_shnum whole behind entry (length segments) table file_is (omega arith),
      e_shstrndx whole behind entry (length segments) table file_is (omega arith),
    )
any_found entry segments (section ∷ sections) room = some_found entry segments section sections room

pub everything_is_found : EverythingIsFound
everything_is_found entry segments sections room = record {
  executable = told_executable entry segments sections room;
  e_entry = entry_told entry segments sections room;
  segments_are = segments_found entry segments sections room;
  sections_are = any_found entry segments sections room;
}
