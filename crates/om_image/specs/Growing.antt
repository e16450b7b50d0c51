-- What the parts of a file are with a segment or a section more: this ties them to the file.
use Rattle.std.specs.Prelude.{ℕ, ◌+◌, ◌*◌, List, [], ◌∷◌, ◌++◌, length}
use Rattle.std.specs.List.{flat_map}
use Rattle.om_image.specs.ElfFile.{SegmentView, SectionView, all_sections, name_bytes, placed, placed_sections, program_header, section_bytes, section_header, section_table, segment_bytes}
use Rattle.om_image.specs.declared.parts.Parts.{Parts}

-- the offset in the file behind the contents so far
abbrev pub end_of : Parts → ℕ
end_of parts = parts.start + length parts.contents

-- with a segment more
abbrev pub with_segment : Parts → SegmentView → Parts
with_segment parts segment = record parts {
  program_headers = parts.program_headers ++ program_header (end_of parts, segment);
  contents = parts.contents ++ segment_bytes segment;
}

-- with some segments more
abbrev pub with_segments : Parts → List SegmentView → Parts
with_segments parts segments = record parts {
  program_headers = parts.program_headers ++ flat_map program_header (placed segment_bytes (end_of parts) segments);
  contents = parts.contents ++ flat_map segment_bytes segments;
}

-- with a section more
abbrev pub with_section : Parts → SectionView → Parts
with_section parts section = record parts {
  section_headers = parts.section_headers ++ section_header (parts.name_at, (end_of parts, section));
  contents = parts.contents ++ section.bytes;
  name_at = parts.name_at + length (name_bytes section);
}

-- with some sections more
abbrev pub with_sections : Parts → List SectionView → Parts
with_sections parts sections = record parts {
  section_headers = parts.section_headers ++ flat_map section_header (placed_sections parts.name_at (end_of parts) sections);
  contents = parts.contents ++ flat_map section_bytes sections;
  name_at = parts.name_at + length (flat_map name_bytes sections);
}

-- with all sections of a file that is to have these, and the section headers
abbrev pub with_all : Parts → List SectionView → Parts
with_all parts sections =
    let all = all_sections sections in
    record parts {
      section_headers = parts.section_headers ++ section_table (end_of parts) all;
      contents = parts.contents ++ flat_map section_bytes all;
      name_at = 1 + length (flat_map name_bytes all);
    }

-- ---- sizes

-- how many words some segments hold
abbrev pub words_in : List SegmentView → ℕ
words_in [] = 0
words_in (segment ∷ segments) = length segment.words + words_in segments

-- how many bytes some sections and their names take
abbrev pub bytes_in : List SectionView → ℕ
bytes_in [] = 0
bytes_in (section ∷ sections) = length section.bytes + length (name_bytes section) + bytes_in sections

-- the offset of the section headers is at most this one: 11 is for the names of no section and of the section of the names
abbrev pub most_before_headers : List SegmentView → List SectionView → ℕ
most_before_headers segments sections = 52 + 32 * length segments + 4 * words_in segments + bytes_in sections + 11
