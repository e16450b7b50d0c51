-- What is kept of line tables, one after another.
use Rattle.std.specs.Prelude.{ℕ, ◌+◌, ◌-◌, nat_eq, nat_lt, if◌then◌else◌, List, [], ◌∷◌, ◌++◌, length, map, Option, Some, None}
use Rattle.std.specs.Option.{option_map}
use Rattle.om_line.specs.Claims.{claims_of}
use Rattle.om_line.specs.declared.gathering.Gathered.{Gathered}
use Rattle.om_line.specs.declared.gathering.KeptRow.{KeptRow}
use Rattle.om_line.specs.declared.lines.Lines.{Lines}
use Rattle.om_line.specs.declared.row.LineRow.{LineRow}

-- the place of the file of a number from 1 on, of so many
abbrev pub place_of : ℕ → ℕ → Option ℕ
place_of count number = if nat_eq number 0 then None else if nat_lt (number - 1) count then Some (number - 1) else None

-- the place of the name of a row's file, where so many files of its table stand behind others; none where the row has no line
abbrev pub file_place : ℕ → ℕ → LineRow → Option ℕ
file_place before count row = if nat_eq row.line 0 then None else option_map (λ place. before + place) (place_of count row.file)

abbrev pub kept_row : ℕ → ℕ → LineRow → KeptRow
kept_row before count row = record { row = row; file = file_place before count row }

abbrev pub nothing : Gathered
nothing = record { rows = []; files = []; claims = [] }

-- what is gathered, and a table behind it
abbrev pub with_table : Gathered → Lines → Gathered
with_table gathered table = record {
  rows = gathered.rows ++ map (kept_row (length gathered.files) (length table.files)) table.rows;
  files = gathered.files ++ table.files;
  claims = gathered.claims ++ claims_of table.rows;
}

-- ... and tables
unfoldable pub with_tables : Gathered → List Lines → Gathered
with_tables gathered [] = gathered
with_tables gathered (table ∷ tables) = with_tables (with_table gathered table) tables
