-- The entries of the tables, number by number.
use Rattle.std.proofs.Common.{◌≡◌, ℕ, ◌*◌, List, [], ◌∷◌, ◌++◌, length, refl, ap, ◌∙◌, append_assoc, arith}
use Rattle.std.proofs.lemmas.List.{length-append}
use Rattle.std.specs.List.{flat_map}
use Rattle.om_image.specs.declared.elf_file.SectionTable.{SectionTable}
use Rattle.om_image.specs.ElfFile.{SegmentView, SectionView, elf_header, half, p_flags_of, program_header, section_header, segment_bytes, sh_type_of, word}

pub length_of_word : (n : ℕ) → length (word n) ≡ 4
unfolding word
length_of_word n = refl

pub length_of_words : (xs : List ℕ) → length (flat_map word xs) ≡ 4 * length xs
length_of_words [] = refl
length_of_words (x ∷ xs) = omega (arith, length-append (word x) (flat_map word xs), length_of_word x, length_of_words xs)

-- a program header by the size of its segment
with_size : (size : ℕ) (p : ℕ × SegmentView) → List ℕ
with_size size p = flat_map word (1 ∷ p.0 ∷ p.1.address ∷ p.1.address ∷ size ∷ size ∷ p_flags_of p.1.rights ∷ 4 ∷ [])

by_size : (p : ℕ × SegmentView) → program_header p ≡ with_size (length (segment_bytes p.1)) p
unfolding program_header word with_size
by_size p = refl

pub program_header_is : (p : ℕ × SegmentView) → program_header p
    ≡ flat_map word (1 ∷ p.0 ∷ p.1.address ∷ p.1.address ∷ (4 * length p.1.words) ∷ (4 * length p.1.words) ∷ p_flags_of p.1.rights ∷ 4 ∷ [])
unfolding with_size
program_header_is p = by_size p ∙ ap (λ (n : ℕ). with_size n p) (length_of_words p.1.words)

pub section_header_is : (p : ℕ × (ℕ × SectionView)) → section_header p
    ≡ flat_map word (p.0 ∷ sh_type_of p.1.1.kind ∷ 0 ∷ 0 ∷ p.1.0 ∷ length p.1.1.bytes ∷ 0 ∷ 0 ∷ 1 ∷ 0 ∷ [])
unfolding section_header word
section_header_is p = refl

-- the bytes of an ELF header, group by group
abbrev pub ident : List ℕ
ident = 127 ∷ 69 ∷ 76 ∷ 70 ∷ 1 ∷ 1 ∷ 1 ∷ 0 ∷ 0 ∷ 0 ∷ 0 ∷ 0 ∷ 0 ∷ 0 ∷ 0 ∷ 0 ∷ []

abbrev pub kinds : List ℕ
kinds = flat_map half (2 ∷ 243 ∷ [])

abbrev pub places : ℕ → SectionTable → List ℕ
places entry table = flat_map word (1 ∷ entry ∷ 52 ∷ table.offset ∷ 0 ∷ [])

abbrev pub counts : ℕ → SectionTable → List ℕ
counts programs table = flat_map half (52 ∷ 32 ∷ programs ∷ table.entry_size ∷ table.count ∷ table.names ∷ [])

pub grouped : (entry programs : ℕ) (table : SectionTable) → ident ++ (kinds ++ (places entry table ++ counts programs table)) ≡ elf_header entry programs table
unfolding elf_header word half
grouped entry programs table = refl

pub elf_header_is : (file : List ℕ) (entry programs : ℕ) (table : SectionTable)
    → (((file ++ ident) ++ kinds) ++ places entry table) ++ counts programs table ≡ file ++ elf_header entry programs table
elf_header_is file entry programs table =
    append_assoc ((file ++ ident) ++ kinds) (places entry table) (counts programs table)
    ∙ append_assoc (file ++ ident) kinds (places entry table ++ counts programs table)
    ∙ append_assoc file ident (kinds ++ (places entry table ++ counts programs table))
    ∙ ap (λ (xs : List ℕ). file ++ xs) (grouped entry programs table)
