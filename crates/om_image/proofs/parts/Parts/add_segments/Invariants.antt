use Rattle.std.proofs.Common.{◌≡◌, ◌+◌, ◌^◌, ◌<◌, ◌++◌, length, drop}
use Rattle.std.specs.List.{flat_map}
use Rattle.om_image.specs.ElfFile.{placed, program_header, segment_bytes}
use Rattle.om_image.proofs.parts.Parts.add_segments.Given as goal

abbrev pub invariant-loop-segment : goal.invariant-loop-segment
invariant-loop-segment l =
    let rest = drop l.segment-index l.segments in
    record {
      start : l.self.start ≡ l.initial.self.start;
      section_headers : l.self.section_headers ≡ l.initial.self.section_headers;
      name_at : l.self.name_at ≡ l.initial.self.name_at;
      room : l.self.start + length l.self.contents + length (flat_map segment_bytes rest) < 2 ^ 32;
      contents : l.self.contents ++ flat_map segment_bytes rest ≡ l.initial.self.contents ++ flat_map segment_bytes l.segments;
      headers : l.self.program_headers ++ flat_map program_header (placed segment_bytes (l.self.start + length l.self.contents) rest)
          ≡ l.initial.self.program_headers
          ++ flat_map program_header (placed segment_bytes (l.initial.self.start + length l.initial.self.contents) l.segments);
    }
