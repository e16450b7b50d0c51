-- How long the parts of a file are.
use Rattle.std.proofs.Common.{◌≡◌, ◌+◌, ◌*◌, ◌^◌, ◌<◌, ◌≤◌, List, [], ◌∷◌, ◌++◌, length, refl, ap, arith}
use Rattle.std.proofs.lemmas.List.{length-append}
use Rattle.std.specs.Prelude.{codes}
use Rattle.std.specs.List.{flat_map}
use Rattle.om_image.specs.ElfFile.{SegmentView, SectionView, all_sections, headers_at, name_bytes, names_section, section_bytes, segment_bytes}
use Rattle.om_image.specs.Growing.{bytes_in, most_before_headers, words_in}
use Rattle.om_image.proofs.HeaderLemmas.{length_of_words}
use Rattle.om_image.proofs.GrowingLemmas.{flat_map_push}

segments_length : (segments : List SegmentView) → length (flat_map segment_bytes segments) ≡ 4 * words_in segments
segments_length [] = refl
segments_length (segment ∷ segments) = omega (
  arith,
  length-append (segment_bytes segment) (flat_map segment_bytes segments),
  length_of_words segment.words,
  segments_length segments,
)

sections_length : (sections : List SectionView)
    → length (flat_map section_bytes sections) + length (flat_map name_bytes sections) ≡ bytes_in sections
sections_length [] = refl
sections_length (section ∷ sections) = omega (
  arith,
  length-append section.bytes (flat_map section_bytes sections),
  length-append (name_bytes section) (flat_map name_bytes sections),
  sections_length sections,
)

names_length : (sections : List SectionView) → length (names_section sections).bytes ≡ length (flat_map name_bytes sections) + 11
names_length sections =
    let names = flat_map name_bytes sections in
    omega (arith, length-append (names ++ codes ".shstrtab") (0 ∷ []), length-append names (codes ".shstrtab"))

all_length : (sections : List SectionView) → length (flat_map section_bytes (all_sections sections)) ≤ bytes_in sections + 11
all_length [] = omega arith
all_length (section ∷ sections) =
    let all = section ∷ sections in
    omega (
      arith,
      ap length (flat_map_push section_bytes all (names_section all)),
      length-append (flat_map section_bytes all) (names_section all).bytes,
      names_length all,
      sections_length all,
    )

pub fits : (segments : List SegmentView) (sections : List SectionView) → most_before_headers segments sections < 2 ^ 32
    → headers_at segments (all_sections sections) < 2 ^ 32
fits segments sections h = omega (arith, segments_length segments, all_length sections)
