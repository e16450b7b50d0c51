-- Rows, and one row for each range variable.
use Rattle.std.specs.Prelude.{◌<◌, ℕ}
use Rattle.om_value.specs.declared.column.ColumnId.{ColumnId}
use Rattle.om_value.specs.declared.column.ColumnId.TheVariants as id
use Rattle.om_value.specs.declared.expr.Width.{Width}
use Rattle.om_value.specs.declared.value.Owned.{Owned}

-- a row: its cells by column, and the numbers in its memory by address and width
pub record Row : Type 0 where
  pub cell : ColumnId → Owned
  pub mem : ℕ → Width → Owned

-- a row for each range variable, by its place in FROM
abbrev pub Tuple : Type 0
Tuple = ℕ → Row

-- this row for every range variable
abbrev pub row_tuple : Row → Tuple
row_tuple row _ = row

-- of registers, there are 32
abbrev pub IsColumn : ColumnId → Type 0
IsColumn (id.Reg number) = number < 32
IsColumn _ = Unit {0}
