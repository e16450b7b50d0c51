use Rattle.std.proofs.Common.{◌≡◌, ◌+◌, ◌^◌, ◌<◌, ◌++◌, length, drop}
use Rattle.std.specs.List.{flat_map}
use Rattle.om_image.specs.ElfFile.{name_bytes, placed_sections, section_bytes, section_header}
use Rattle.om_image.proofs.parts.Parts.add_sections.Given as goal

abbrev pub invariant-loop-section : goal.invariant-loop-section
invariant-loop-section l =
    let rest = drop l.section-index l.sections in
    record {
      start : l.self.start ≡ l.initial.self.start;
      program_headers : l.self.program_headers ≡ l.initial.self.program_headers;
      room : l.self.start + length l.self.contents + length (flat_map section_bytes rest) < 2 ^ 32;
      names : l.self.name_at + length (flat_map name_bytes rest) < 2 ^ 32;
      name_at : l.self.name_at + length (flat_map name_bytes rest) ≡ l.initial.self.name_at + length (flat_map name_bytes l.sections);
      contents : l.self.contents ++ flat_map section_bytes rest ≡ l.initial.self.contents ++ flat_map section_bytes l.sections;
      headers : l.self.section_headers
          ++ flat_map section_header (placed_sections l.self.name_at (l.self.start + length l.self.contents) rest)
          ≡ l.initial.self.section_headers
          ++ flat_map section_header (placed_sections l.initial.self.name_at (l.initial.self.start + length l.initial.self.contents) l.sections);
    }
