-- What the reader of .debug_info finds, unit by unit.
use Rattle.std.specs.Prelude.{◌≡◌, ℕ, ◌+◌, ◌≤◌, List, [], ◌∷◌, ◌++◌, length, drop, IfSome}
use Rattle.std.specs.Ordering.{nat_cmp}
use Rattle.std.specs.BTreeMap.{get}
use Rattle.om_die.specs.AbbreviationIndex.{IsIndex}
use Rattle.om_die.specs.Units.{ArePieces, IsPiece, Piece, Sections, dies_in, units_in}
use Rattle.om_die.specs.Units as spec
use Rattle.om_die.specs.declared.unit_list.Part.{Part}
use Rattle.om_die.specs.declared.unit_list.Part.TheVariants as part
use Rattle.om_die.specs.declared.unit_list.Parts.{Parts}
use Rattle.om_die.specs.declared.unit_sections.Sections as borrowed
use Rattle.om_die.specs.declared.skipped.Skipped.{Skipped}
use Rattle.om_die.specs.declared.abbreviation_tables.Tables.{Tables}

-- the bytes of the sections
abbrev pub shown : borrowed.Sections → Sections
shown sections = record { info = sections.info.now; abbrev_ = sections.abbreviations.now; strings = sections.strings.now }

-- ---- tables

-- each table that is kept is that of its offset in .debug_abbrev
abbrev pub AreTables : List ℕ → Tables → Type 0
AreTables section tables = (offset : ℕ) → IfSome (get nat_cmp tables.by_offset offset) (λ table. IsIndex (drop offset section) table)

-- ---- units

-- the unit that was read or skipped
abbrev pub piece_of : Part → Piece
piece_of (part.Read unit) = spec.Read unit
piece_of (part.Skipped skipped) = spec.Skipped skipped.at skipped.size

-- a unit stands in front of some bytes that begin at an offset, with others behind it; it has at most so many entries
pub record IsFirstUnit (sections : Sections) (left at : ℕ) (bytes : List ℕ) (piece : Piece) (behind : List ℕ) : Type 0 where
  pub front : List ℕ
  pub parts : bytes ≡ front ++ behind
  pub is : IsPiece sections at front piece
  pub few : dies_in (piece ∷ []) ≤ left

-- the places of the units that are skipped
unfoldable pub skips_in : List Piece → List Skipped
skips_in [] = []
skips_in (spec.Read unit ∷ pieces) = skips_in pieces
skips_in (spec.Skipped place size ∷ pieces) = record { at = place; size = size } ∷ skips_in pieces

-- what is kept of some units
abbrev pub parts_of : List Piece → Parts
parts_of pieces = record { units = units_in pieces; skipped = skips_in pieces; dies = dies_in pieces }

-- what is kept of some units and another
abbrev pub with_piece : Parts → Piece → Parts
with_piece parts (spec.Read unit) = record { units = parts.units ++ unit ∷ []; skipped = parts.skipped; dies = parts.dies + length unit.dies }
with_piece parts (spec.Skipped place size) = record { units = parts.units; skipped = parts.skipped ++ record { at = place; size = size } ∷ []; dies = parts.dies }

-- .debug_info is these units, of which this is kept
pub record AreParts (sections : Sections) (parts : Parts) : Type 0 where
  pub pieces : List Piece
  pub are : ArePieces sections sections.info pieces
  pub kept : parts ≡ parts_of pieces
