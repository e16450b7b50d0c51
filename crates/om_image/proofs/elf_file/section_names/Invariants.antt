use Rattle.std.proofs.Common.{◌≡◌, ◌∷◌, ◌++◌, drop}
use Rattle.std.specs.List.{flat_map}
use Rattle.om_image.specs.ElfFile.{name_bytes}
use Rattle.om_image.proofs.elf_file.section_names.Given as goal

abbrev pub invariant-loop-section : goal.invariant-loop-section
invariant-loop-section l = l.names ++ flat_map name_bytes (drop l.section-index l.sections) ≡ 0 ∷ flat_map name_bytes l.sections
