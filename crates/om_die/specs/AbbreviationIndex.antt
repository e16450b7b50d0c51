-- The abbreviations of a table by their codes.
use Rattle.std.specs.Prelude.{◌≡◌, ℕ, List, Option}
use Rattle.std.specs.Ordering.{nat_cmp}
use Rattle.std.specs.BTreeMap.{get}
use Rattle.om_die.specs.Abbreviations.{Entry, IsTable, abbreviation_of}
use Rattle.om_die.specs.declared.abbreviation.Abbreviation.{Abbreviation}
use Rattle.om_die.specs.declared.abbreviation_table.Table.{Table}

-- the abbreviation that is kept under a code
abbrev pub find_in : Table → ℕ → Option Abbreviation
find_in table code = get nat_cmp table.by_code code

-- a table keeps the first abbreviation of each code
pub record IsIndex (bytes : List ℕ) (table : Table) : Type 0 where
  pub entries : List Entry
  pub are : IsTable bytes entries
  pub first : (code : ℕ) → find_in table code ≡ abbreviation_of entries code
