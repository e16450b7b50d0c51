-- The printed text of a table.
use Rattle.std.specs.Prelude.{◌≡◌, ℕ, ◌-◌, ◌<◌, ◌≤◌, max, List, [], ◌∷◌, ◌++◌, length, map, flat_map, fold, replicate, codes, decimal, nat_eq, if◌then◌else◌, All, Result, Ok, Err}
use Rattle.std.specs.Fmt.{signed_decimal}
use Rattle.std.specs.List.{join_by, range_with_len, slice_index_or, zip}
use Rattle.om_table.specs.Escape.{escaped}
use Rattle.om_eval.specs.declared.value.Owned.{Owned}
use Rattle.om_eval.specs.declared.value.Owned.TheVariants as value
use Rattle.om_table.specs.declared.fault.TableFault.{TableFault}
use Rattle.om_table.specs.declared.fault.TableFault.TheVariants.{NoMemory, TooManyBytes}
use Rattle.om_table.specs.declared.table.Style.{Style}
use Rattle.om_table.specs.declared.table.Style.TheVariants.{Columns, Csv}
use Rattle.om_table.specs.declared.table.Table.{Table}

-- each row has a value for each column
abbrev pub IsTable : Table → Type 0
IsTable table = All (λ row. length row ≡ length table.names) table.rows

-- ---- columns of equal width

-- a value as it is shown: a number in decimal, a text escaped, NULL by name
abbrev pub shown : Owned → List ℕ
shown (value.Int number) = signed_decimal number
shown (value.Text bytes) = escaped bytes
shown value.Null = codes "NULL"

-- the lines of a table, cell by cell: the names, then each row
abbrev pub lines_of : Table → List (List (List ℕ))
lines_of table = map escaped table.names ∷ map (map shown) table.rows

-- the width of a column: the greatest length of its cells, its name among them
abbrev pub width_of : List (List (List ℕ)) → ℕ → ℕ
width_of lines column = fold (λ width line. max width (length (slice_index_or line column []))) 0 lines

-- the widths of so many columns
unfoldable pub widths_of : ℕ → List (List (List ℕ)) → List ℕ
widths_of columns lines = map (width_of lines) (range_with_len 0 columns)

-- a cell to the right in its width
abbrev pub padded : ℕ × List ℕ → List ℕ
padded cell = replicate (cell.0 - length cell.1) 32 ++ cell.1

-- a line: its cells in their widths, two spaces between each two, and the end of the line
unfoldable pub line : List ℕ → List (List ℕ) → List ℕ
line widths cells = join_by padded (codes "  ") (zip widths cells) ++ 10 ∷ []

-- the names and the rows, a line for each, then the number of rows
unfoldable pub columns_text : Table → List ℕ
columns_text table =
    let lines = lines_of table in
    flat_map (line (widths_of (length table.names) lines)) lines ++ codes "rows " ++ decimal (length table.rows) ++ 10 ∷ []

-- ---- comma-separated values

-- a byte between double quotes, itself doubled where it is one
abbrev pub quoted_byte : ℕ → List ℕ
quoted_byte b = if nat_eq b 34 then 34 ∷ 34 ∷ [] else b ∷ []

-- bytes in double quotes
abbrev pub quoted : List ℕ → List ℕ
quoted bytes = 34 ∷ flat_map quoted_byte bytes ++ 34 ∷ []

-- a value as a field: a number in decimal, a text quoted, NULL as nothing
abbrev pub field_of : Owned → List ℕ
field_of (value.Int number) = signed_decimal number
field_of (value.Text bytes) = quoted bytes
field_of value.Null = []

-- a line: its fields, a comma between each two, and the end of the line
unfoldable pub csv_line : List (List ℕ) → List ℕ
csv_line fields = join_by (λ field. field) (codes ",") fields ++ 10 ∷ []

-- the names and the rows, a line for each
unfoldable pub csv_text : Table → List ℕ
csv_text table = flat_map csv_line (map quoted table.names ∷ map (map field_of) table.rows)

-- ---- any style

-- the text of a table
abbrev pub text_of : Style → Table → List ℕ
text_of Columns table = columns_text table
text_of Csv table = csv_text table

-- what printing gives for a text: all of it, or that it is longer than the limit; want of memory may come at any text
abbrev pub Gives : List ℕ → ℕ → Result (List ℕ) TableFault → Type 0
Gives text limit (Ok printed) = (printed ≡ text) × (length text ≤ limit)
Gives text limit (Err (TooManyBytes told)) = (told ≡ limit) × (limit < length text)
Gives text limit (Err NoMemory) = Unit {0}
