-- The parts of a file with all its sections.
use Rattle.std.proofs.Common.{◌≡◌, ℕ, ◌+◌, false, List, [], ◌∷◌, ◌++◌, length, replicate, refl, sym, ap, ◌∙◌, append_assoc, arith}
use Rattle.std.proofs.lemmas.List.{append-nil, length-append}
use Rattle.std.proofs.lemmas.List.Concat.{flat_map-append}
use Rattle.std.specs.Bool.{◌==◌}
use Rattle.std.specs.List.{flat_map}
use Rattle.om_image.specs.declared.parts.Parts.{Parts}
use Rattle.om_image.specs.ElfFile.{SectionView, name_bytes, names_section, placed, placed_sections, section_bytes, section_header}
use Rattle.om_image.specs.Growing.{end_of, with_all, with_section, with_sections}

-- ---- one more at the end

placed_push : {X : Type 0} (f : X → List ℕ) (at : ℕ) (xs : List X) (x : X)
    → placed f at (xs ++ x ∷ []) ≡ placed f at xs ++ (at + length (flat_map f xs), x) ∷ []
placed_push f at [] x = ap (λ (n : ℕ). (n, x) ∷ []) (omega arith)
placed_push f at (y ∷ xs) x =
    let behind : at + length (f y) + length (flat_map f xs) ≡ at + length (f y ++ flat_map f xs) = omega (arith, length-append (f y) (flat_map f xs)) in
    ap (λ ps. (at, y) ∷ ps) (placed_push f (at + length (f y)) xs x ∙ ap (λ (n : ℕ). placed f (at + length (f y)) xs ++ (n, x) ∷ []) behind)

pub flat_map_push : {X : Type 0} (f : X → List ℕ) (xs : List X) (x : X) → flat_map f (xs ++ x ∷ []) ≡ flat_map f xs ++ f x
flat_map_push f xs x = flat_map-append f xs (x ∷ []) ∙ ap (λ (ys : List ℕ). flat_map f xs ++ ys) (append-nil (f x))

names_placed : (at : ℕ) (sections : List SectionView) → flat_map (λ p. name_bytes p.1) (placed section_bytes at sections) ≡ flat_map name_bytes sections
names_placed at [] = refl
names_placed at (section ∷ sections) = ap (λ (xs : List ℕ). name_bytes section ++ xs) (names_placed (at + length section.bytes) sections)

headers_push : (name_at at : ℕ) (sections : List SectionView) (section : SectionView)
    → flat_map section_header (placed_sections name_at at (sections ++ section ∷ []))
    ≡ flat_map section_header (placed_sections name_at at sections)
    ++ section_header (name_at + length (flat_map name_bytes sections), (at + length (flat_map section_bytes sections), section))
headers_push name_at at sections section =
    let there : ℕ × SectionView = (at + length (flat_map section_bytes sections), section) in
    ap (λ ps. flat_map section_header (placed (λ p. name_bytes p.1) name_at ps)) (placed_push section_bytes at sections section)
    ∙ ap (flat_map section_header) (placed_push (λ p. name_bytes p.1) name_at (placed section_bytes at sections) there)
    ∙ flat_map_push section_header (placed_sections name_at at sections) _
    ∙ ap (λ (names : List ℕ). flat_map section_header (placed_sections name_at at sections) ++ section_header (name_at + length names, there)) (names_placed at sections)

-- ---- all sections

-- some parts with other section headers, contents and place of the next name
abbrev made : Parts → List ℕ → List ℕ → ℕ → Parts
made parts headers contents name_at = record parts { section_headers = headers; contents = contents; name_at = name_at }

-- of a part with sections and one more behind them
module _ (parts : Parts) (sections : List SectionView) (more : SectionView) (first : parts.name_at ≡ 1) where
  abbrev before : Parts
  before = with_sections (record parts { section_headers = parts.section_headers ++ replicate 40 0 }) sections

  abbrev all : List SectionView
  all = sections ++ more ∷ []

  abbrev sections_end : ℕ
  sections_end = end_of parts + length (flat_map section_bytes sections)

  contents_are : before.contents ++ more.bytes ≡ parts.contents ++ flat_map section_bytes all
  contents_are = append_assoc parts.contents (flat_map section_bytes sections) more.bytes
      ∙ ap (λ (xs : List ℕ). parts.contents ++ xs) (sym (flat_map_push section_bytes sections more))

  behind_them : end_of before ≡ sections_end
  behind_them = omega (arith, length-append parts.contents (flat_map section_bytes sections))

  name_is : before.name_at + length (name_bytes more) ≡ 1 + length (flat_map name_bytes all)
  name_is = omega (
    arith,
    first,
    ap (λ (xs : List ℕ). length xs) (flat_map_push name_bytes sections more),
    length-append (flat_map name_bytes sections) (name_bytes more),
  )

  abbrev told : ℕ → ℕ → List ℕ
  told name_at at = section_header (name_at, (at, more))

  headers_are : before.section_headers ++ told before.name_at (end_of before)
      ≡ parts.section_headers ++ (replicate 40 0 ++ flat_map section_header (placed_sections 1 (end_of parts) all))
  headers_are =
      ap (λ (at : ℕ). before.section_headers ++ told before.name_at at) behind_them
      ∙ ap (λ (n : ℕ). ((parts.section_headers ++ replicate 40 0) ++ flat_map section_header (placed_sections n (end_of parts) sections))
      ++ told (n + length (flat_map name_bytes sections)) sections_end) first
      ∙ append_assoc (parts.section_headers ++ replicate 40 0) _ _
      ∙ append_assoc parts.section_headers (replicate 40 0) _
      ∙ ap (λ (xs : List ℕ). parts.section_headers ++ (replicate 40 0 ++ xs)) (sym (headers_push 1 (end_of parts) sections more))

  with_one_more : with_section before more
      ≡ made parts (parts.section_headers ++ (replicate 40 0 ++ flat_map section_header (placed_sections 1 (end_of parts) all)))
      (parts.contents ++ flat_map section_bytes all) (1 + length (flat_map name_bytes all))
  with_one_more =
      let headers = parts.section_headers ++ (replicate 40 0 ++ flat_map section_header (placed_sections 1 (end_of parts) all)) in
      ap (λ (xs : List ℕ). made parts xs (before.contents ++ more.bytes) (before.name_at + length (name_bytes more))) headers_are
      ∙ ap (λ (xs : List ℕ). made parts headers xs (before.name_at + length (name_bytes more))) contents_are
      ∙ ap (λ (n : ℕ). made parts headers (parts.contents ++ flat_map section_bytes all) n) name_is

-- the parts with the entry before all others, then the sections
abbrev pub begun : Parts → List SectionView → Parts
begun parts sections = with_sections (record parts { section_headers = parts.section_headers ++ replicate 40 0 }) sections

-- with the section of the section names behind them, those are all sections
pub all_is : (parts : Parts) (sections : List SectionView) → false ≡ (length sections == 0) → parts.name_at ≡ 1
    → with_section (begun parts sections) (names_section sections) ≡ with_all parts sections
all_is parts [] some first = absurd cc
all_is parts (section ∷ sections) some first = with_one_more parts (section ∷ sections) (names_section (section ∷ sections)) first

-- the section names end where all sections do
pub end_is : (parts : Parts) (sections : List SectionView) → false ≡ (length sections == 0) → parts.name_at ≡ 1
    → end_of (begun parts sections) + length (names_section sections).bytes ≡ end_of (with_all parts sections)
end_is parts sections some first = omega (
  arith,
  length-append (begun parts sections).contents (names_section sections).bytes,
  ap (λ (p : Parts). length p.contents) (all_is parts sections some first),
)
