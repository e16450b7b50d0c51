use Rattle.std.proofs.Common.{◌≡◌, ◌∙◌, ℕ, List, ap, ap₂, length, arith}
use Rattle.om_image.specs.declared.parts.Parts.{Parts}
use Rattle.om_image.specs.ElfFile.{names_of, names_section}
use Rattle.om_image.specs.Growing.{end_of, with_section, with_sections}
use Rattle.om_image.proofs.GrowingLemmas.{all_is, begun, end_is}
use Rattle.om_image.proofs.elf_file.add_section_table.Goals as goal

pub add_section-requires-clause-bytes : goal.add_section-requires-clause-bytes
add_section-requires-clause-bytes c =
    let parts = c.args.parts.now in
    let sections = c.args.sections.now in
    let names : c.bytes.result.now ≡ (names_section sections).bytes = c.bytes.ensures ∙ c.in_ok-names.ensures in
    let so_far : c.add_sections.new.self ≡ begun parts sections =
    c.in_ok-add_sections.ensures ∙ ap (λ (headers : List ℕ). with_sections (record parts { section_headers = headers }) sections) c.in_ok-add.ensures.ok in
    omega (
      arith,
      c.requires.size,
      end_is parts sections c.if-is_empty.ensures c.requires.first,
      ap length names,
      ap (λ (p : Parts). end_of p) so_far,
    )

pub returns-clause-parts : goal.returns-clause-parts
returns-clause-parts c =
    let parts = c.args.parts.now in
    let sections = c.args.sections.now in
    let names : c.bytes.result.now ≡ (names_section sections).bytes = c.bytes.ensures ∙ c.in_ok-names.ensures in
    let so_far : c.add_sections.new.self ≡ begun parts sections =
    c.in_ok-add_sections.ensures ∙ ap (λ (headers : List ℕ). with_sections (record parts { section_headers = headers }) sections) c.in_ok-add.ensures.ok in
    c.in_ok-add_section.ensures ∙ ap₂ (λ (p : Parts) (bytes : List ℕ). with_section p (names_of bytes)) so_far names
    ∙ all_is parts sections c.if-is_empty.ensures c.requires.first
