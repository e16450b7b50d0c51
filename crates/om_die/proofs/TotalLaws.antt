-- All sections are some units or have a refusal.
use Rattle.std.proofs.Common.{◌≡◌, ◌≢◌, ℕ, zero, suc, ◌+◌, ◌-◌, ◌≤◌, Bool, true, false, List, [], ◌∷◌, ◌++◌, length, take, drop, Option, Some, None, Ok, Err, refl, sym, ◌⊎◌, arith, inl, inr}
use Rattle.std.specs.Prelude.{Result}
use Rattle.std.proofs.lemmas.List.{take-append-drop}
use Rattle.om_base.specs.Reading.{IsReading, Reader}
use Rattle.om_base.proofs.LebLaws.{uleb_reads}
use Rattle.om_die.specs.Abbreviations.{abbreviation_of}
use Rattle.om_die.specs.Entries.{AreDies, Close, Item, depth_after, die_of}
use Rattle.om_die.specs.Forms.{Around}
use Rattle.om_die.specs.UnitList.{AreParts, IsFirstUnit, parts_of, with_piece}
use Rattle.om_die.specs.Refusals.{AreDiesRefused, HasNoCode, IsItemRefused, IsRefusal, IsSectionRefused, IsUnitRefused}
use Rattle.om_die.specs.Steps.{IsCode, IsFirst, lack_fault}
use Rattle.om_die.specs.Units.{AreUnits, Piece, Read, Sections, Skipped, debug_abbrev_offset, first_lost, head_fault, is_read, most_dies, settled_in, skipped_in, unit_length, version}
use Rattle.om_die.specs.declared.abbreviation.Abbreviation.{Abbreviation}
use Rattle.om_die.specs.declared.attributes.Lack.TheVariants as l
use Rattle.om_die.specs.declared.die.Die.{Die}
use Rattle.om_die.specs.declared.fault.DieFault.{DieFault}
use Rattle.om_die.specs.declared.fault.DieFault.TheVariants as d
use Rattle.om_die.specs.declared.unit_list.Parts.{Parts}
use Rattle.om_die.specs.declared.unit.Unit.{Unit}
use Rattle.om_die.specs.declared.unit.Units.{Units}
use Rattle.om_die.proofs.AttributeLaws.{list_or_gap}
use Rattle.om_die.proofs.DieLaws.{close_first, entry_first, has_code, refused_many, refused_shape}
use Rattle.om_die.proofs.DieLaws as entry
use Rattle.om_die.proofs.ReaderLemmas.{absent}
use Rattle.om_die.proofs.TableLaws.{some_table}
use Rattle.om_die.proofs.UnitLaws.{first_skipped, first_unit, refused_unit}
use Rattle.om_die.proofs.UnitLaws as unit

cases_zero : (n : ℕ) → (n ≡ 0) ⊎ (n ≢ 0)
cases_zero zero = inl refl
cases_zero (suc n) = inr (λ e. omega arith)

cases_nil : (bytes : List ℕ) → (bytes ≡ []) ⊎ (bytes ≢ [])
cases_nil [] = inl refl
cases_nil (b ∷ bytes) = inr (λ e. cc)

-- ---- things in front

module _ {A E : Type 0} {read : Reader A E} {R : List ℕ → A → Type 0} (law : IsReading read R) where
  found_by : (bytes : List ℕ) (r : Result (A × List ℕ) E) → read bytes ≡ r
      → ((x : A) × (rest : List ℕ) × (front : List ℕ) × (bytes ≡ front ++ rest) × R front x) ⊎ ((front back : List ℕ) (x : A) → bytes ≡ front ++ back → R front x → ⊥)
  found_by bytes (Ok x) e = let is = law.takes bytes x.0 x.1 e in inl (x.0, x.1, is.0, is.1, is.2)
  found_by bytes (Err why) e = inr (absent law bytes why e)

  -- a thing stands in front of some bytes, or none
  found_or_none : (bytes : List ℕ) → ((x : A) × (rest : List ℕ) × (front : List ℕ) × (bytes ≡ front ++ rest) × R front x) ⊎ ((front back : List ℕ) (x : A) → bytes ≡ front ++ back → R front x → ⊥)
  found_or_none bytes = found_by bytes (read bytes) refl

-- ---- items

code_cases : (bytes : List ℕ) → ((code : ℕ) × (rest : List ℕ) × IsCode bytes code rest) ⊎ HasNoCode bytes
code_cases bytes =
    elim (found_or_none uleb_reads bytes) [
      | inl found ↦ inl (found.0, found.1, record { front = found.2; parts = found.3; spelled = found.4 })
      | inr none ↦ inr none
    ]

abbrev IsItemOrNot : Around → (ℕ → Option Abbreviation) → (left at : ℕ) → List ℕ → Type 0
IsItemOrNot around find left at bytes = ((item : Item) × (tail : List ℕ) × IsFirst around find left bytes item tail) ⊎ ((fault : DieFault) × IsItemRefused around find left at bytes fault)

entry_cases : (around : Around) (find : ℕ → Option Abbreviation) (left at : ℕ) (bytes : List ℕ) (code : ℕ) (back : List ℕ) (found : Option Abbreviation) → IsCode bytes code back → code ≢ 0 → left ≢ 0 → find code ≡ found
    → IsItemOrNot around find left at bytes
entry_cases around find left at bytes code back None is nonzero some none = inr (d.Abbrev at, refused_shape around find left at bytes back code is nonzero some none)
entry_cases around find left at bytes code back (Some abbreviation) is nonzero some found =
    elim (list_or_gap around abbreviation.attributes back) [
      | inl whole ↦ inl (_, whole.1, entry_first around find left bytes back whole.1 code abbreviation whole.2 is nonzero some found (whole.0, whole.3, whole.4))
      | inr gap ↦ inr (lack_fault at (l.Gap gap.0), inr (code, back, has_code bytes back code is nonzero, inr (inr (some, record { abbreviation = abbreviation; found = found; why = gap.0; gap = gap.1; fault_is = refl }))))
    ]

item_or_not : (around : Around) (find : ℕ → Option Abbreviation) (left at : ℕ) (bytes : List ℕ) → IsItemOrNot around find left at bytes
item_or_not around find left at bytes =
    elim (code_cases bytes) [
      | inr none ↦ inr (d.Short at, inl (none, refl))
      | inl found ↦ elim (cases_zero found.0) [
        | inl end ↦ inl (Close, found.1, close_first around find left bytes found.1 found.0 found.2 end)
        | inr nonzero ↦ elim (cases_zero left) [
          | inl many ↦ inr (d.TooMany at, refused_many around find left at bytes found.1 found.0 found.2 nonzero many)
          | inr some ↦ entry_cases around find left at bytes found.0 found.1 (find found.0) found.2 nonzero some refl
        ]
      ]
    ]

-- ---- entries

abbrev AreDiesOrNot : Around → (ℕ → Option Abbreviation) → (left at : ℕ) → List ℕ → Type 0
AreDiesOrNot around find left at bytes = ((dies : List Die) × (AreDies around find at bytes dies × (length dies ≤ left))) ⊎ ((fault : DieFault) × AreDiesRefused around find left at bytes fault)

dies_from : (fuel : ℕ) (around : Around) (find : ℕ → Option Abbreviation) (left at : ℕ) (bytes : List ℕ) (dies : List Die) (depth : ℕ) (rest : List ℕ) → length rest ≤ fuel
    → entry.IsAt around find left at bytes dies depth rest → AreDiesOrNot around find left at bytes
dies_from zero around find left at bytes dies depth [] few is = inl (dies, entry.ends around find left at bytes dies depth [] is refl)
dies_from zero around find left at bytes dies depth (b ∷ rest) few is = absurd (omega arith)
dies_from (suc fuel) around find left at bytes dies depth rest few is =
    let here = at + (length bytes - length rest) in
    elim (cases_nil rest) [
      | inl none ↦ inl (dies, entry.ends around find left at bytes dies depth rest is none)
      | inr some ↦ elim (item_or_not around find (left - length dies) here rest) [
        | inr refused ↦ inr (refused.0, entry.stops around find left at bytes dies depth rest here refused.0 is refl some refused.1)
        | inl first ↦ (
            let less : length first.1 ≤ fuel = omega (arith, entry.shorter around find (left - length dies) rest first.0 first.1 first.2) in
            dies_from fuel around find left at bytes (dies ++ die_of here depth first.0) (depth_after depth first.0) first.1 less
            (entry.goes_on around find left at bytes dies depth rest here first.0 first.1 is refl first.2))
      ]
    ]

dies_or_not : (around : Around) (find : ℕ → Option Abbreviation) (left at : ℕ) (bytes : List ℕ) → AreDiesOrNot around find left at bytes
dies_or_not around find left at bytes = dies_from (length bytes) around find left at bytes [] 0 bytes (omega arith) (entry.starts around find left at bytes)

-- ---- units

abbrev IsUnitOrNot : Sections → (left at : ℕ) → List ℕ → Type 0
IsUnitOrNot sections left at bytes = ((piece : Piece) × (tail : List ℕ) × IsFirstUnit sections left at bytes piece tail) ⊎ ((fault : DieFault) × ((head_fault at bytes ≡ Some fault) ⊎ IsUnitRefused sections left at bytes fault))

read_cases : (sections : Sections) (left at : ℕ) (bytes : List ℕ) → head_fault at bytes ≡ None → is_read bytes ≡ true → IsUnitOrNot sections left at bytes
read_cases sections left at bytes e read =
    let front = take (4 + unit_length bytes) bytes in
    let rest = drop (4 + unit_length bytes) bytes in
    let parts : bytes ≡ front ++ rest = sym (take-append-drop (4 + unit_length bytes) bytes) in
    let around : Around = record { unit = at; strings = sections.strings } in
    let there = some_table (drop (debug_abbrev_offset bytes) sections.abbrev_) in
    elim (dies_or_not around (abbreviation_of there.0) left (at + 11) (drop 11 front)) [
      | inl dies ↦ (
          let unit : Unit = record { at = at; version = version front; dies = dies.0 } in
          inl (Read unit, rest, first_unit sections left at bytes front rest there.0 unit e refl parts read there.1 refl refl dies.1.0 dies.1.1))
      | inr refused ↦ inr (refused.0, inr (refused_unit sections left at bytes front there.0 refused.0 e refl read there.1 refused.1))
    ]

head_cases : (sections : Sections) (left at : ℕ) (bytes : List ℕ) (fault : Option DieFault) (read : Bool) → head_fault at bytes ≡ fault → is_read bytes ≡ read → IsUnitOrNot sections left at bytes
head_cases sections left at bytes (Some fault) read e r = inr (fault, inl e)
head_cases sections left at bytes None true e r = read_cases sections left at bytes e r
head_cases sections left at bytes None false e r =
    let front = take (4 + unit_length bytes) bytes in
    let rest = drop (4 + unit_length bytes) bytes in
    inl (Skipped at (length front), rest, first_skipped sections left at bytes front rest e refl (sym (take-append-drop (4 + unit_length bytes) bytes)) r)

unit_or_not : (sections : Sections) (left at : ℕ) (bytes : List ℕ) → IsUnitOrNot sections left at bytes
unit_or_not sections left at bytes = head_cases sections left at bytes (head_fault at bytes) (is_read bytes) refl refl

-- ---- the section

abbrev ArePartsOrNot : Sections → Type 0
ArePartsOrNot sections = ((parts : Parts) × AreParts sections parts) ⊎ ((fault : DieFault) × IsSectionRefused sections fault)

parts_from : (fuel : ℕ) (sections : Sections) (parts : Parts) (rest : List ℕ) → length rest ≤ fuel → unit.IsAt sections parts rest → ArePartsOrNot sections
parts_from zero sections parts [] few is = inl (parts, unit.ends sections parts [] is refl)
parts_from zero sections parts (b ∷ rest) few is = absurd (omega arith)
parts_from (suc fuel) sections parts rest few is =
    let here = length sections.info - length rest in
    elim (cases_nil rest) [
      | inl none ↦ inl (parts, unit.ends sections parts rest is none)
      | inr some ↦ elim (unit_or_not sections (most_dies - parts.dies) here rest) [
        | inr refused ↦ inr (refused.0, unit.stops sections parts rest here refused.0 is refl some refused.1)
        | inl first ↦ (
            let less : length first.1 ≤ fuel = omega (arith, unit.shorter sections (most_dies - parts.dies) here rest first.0 first.1 first.2) in
            parts_from fuel sections (with_piece parts first.0) first.1 less (unit.goes_on sections parts rest here first.0 first.1 is refl first.2))
      ]
    ]

target_cases : (sections : Sections) (parts : Parts) (is : AreParts sections parts) (lost : Option Die) → first_lost (settled_in is.pieces) ≡ lost
    → ((units : Units) × AreUnits sections units) ⊎ ((fault : DieFault) × IsRefusal sections fault)
target_cases sections parts is None e =
    let units : Units = record { list = settled_in is.pieces; skipped = skipped_in is.pieces } in
    inl (units, record { pieces = is.pieces; are = is.are; list_is = refl; skipped_is = refl; found = e })
target_cases sections parts is (Some die) e = inr (d.Target die.at, inr (record { pieces = is.pieces; are = is.are; die = die; lost = e; fault_is = refl }))

pub units_or_refusal : (sections : Sections) → ((units : Units) × AreUnits sections units) ⊎ ((fault : DieFault) × IsRefusal sections fault)
units_or_refusal sections =
    elim (parts_from (length sections.info) sections (parts_of []) sections.info (omega arith) (unit.starts sections)) [
      | inr refused ↦ inr (refused.0, inl refused.1)
      | inl parts ↦ target_cases sections parts.0 parts.1 (first_lost (settled_in parts.1.pieces)) refl
    ]
