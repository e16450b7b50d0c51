-- The names of the relation and of its columns.
use Rattle.std.specs.Prelude.{◌≡◌, ℕ, Bool, true, List, [], ◌∷◌, codes, Contains}
use Rattle.std.specs.Str.{str_eq_ignore_ascii_case}
use Rattle.om_value.specs.declared.column.ColumnId.{ColumnId}
use Rattle.om_value.specs.declared.column.ColumnId.TheVariants as id

-- the columns by name: the registers also by their names in the RISC-V psABI, "Integer Register Convention", where
-- fp is another name of s0
unfoldable pub column_names : List (List ℕ × ColumnId)
column_names =
    (codes "step", id.Step)
    ∷ (codes "pc", id.Pc)
    ∷ (codes "insn", id.Insn)
    ∷ (codes "func", id.Func)
    ∷ (codes "file", id.File)
    ∷ (codes "line", id.Line)
    ∷ (codes "x0", id.Reg 0)
    ∷ (codes "x1", id.Reg 1)
    ∷ (codes "x2", id.Reg 2)
    ∷ (codes "x3", id.Reg 3)
    ∷ (codes "x4", id.Reg 4)
    ∷ (codes "x5", id.Reg 5)
    ∷ (codes "x6", id.Reg 6)
    ∷ (codes "x7", id.Reg 7)
    ∷ (codes "x8", id.Reg 8)
    ∷ (codes "x9", id.Reg 9)
    ∷ (codes "x10", id.Reg 10)
    ∷ (codes "x11", id.Reg 11)
    ∷ (codes "x12", id.Reg 12)
    ∷ (codes "x13", id.Reg 13)
    ∷ (codes "x14", id.Reg 14)
    ∷ (codes "x15", id.Reg 15)
    ∷ (codes "x16", id.Reg 16)
    ∷ (codes "x17", id.Reg 17)
    ∷ (codes "x18", id.Reg 18)
    ∷ (codes "x19", id.Reg 19)
    ∷ (codes "x20", id.Reg 20)
    ∷ (codes "x21", id.Reg 21)
    ∷ (codes "x22", id.Reg 22)
    ∷ (codes "x23", id.Reg 23)
    ∷ (codes "x24", id.Reg 24)
    ∷ (codes "x25", id.Reg 25)
    ∷ (codes "x26", id.Reg 26)
    ∷ (codes "x27", id.Reg 27)
    ∷ (codes "x28", id.Reg 28)
    ∷ (codes "x29", id.Reg 29)
    ∷ (codes "x30", id.Reg 30)
    ∷ (codes "x31", id.Reg 31)
    ∷ (codes "zero", id.Reg 0)
    ∷ (codes "ra", id.Reg 1)
    ∷ (codes "sp", id.Reg 2)
    ∷ (codes "gp", id.Reg 3)
    ∷ (codes "tp", id.Reg 4)
    ∷ (codes "t0", id.Reg 5)
    ∷ (codes "t1", id.Reg 6)
    ∷ (codes "t2", id.Reg 7)
    ∷ (codes "s0", id.Reg 8)
    ∷ (codes "fp", id.Reg 8)
    ∷ (codes "s1", id.Reg 9)
    ∷ (codes "a0", id.Reg 10)
    ∷ (codes "a1", id.Reg 11)
    ∷ (codes "a2", id.Reg 12)
    ∷ (codes "a3", id.Reg 13)
    ∷ (codes "a4", id.Reg 14)
    ∷ (codes "a5", id.Reg 15)
    ∷ (codes "a6", id.Reg 16)
    ∷ (codes "a7", id.Reg 17)
    ∷ (codes "s2", id.Reg 18)
    ∷ (codes "s3", id.Reg 19)
    ∷ (codes "s4", id.Reg 20)
    ∷ (codes "s5", id.Reg 21)
    ∷ (codes "s6", id.Reg 22)
    ∷ (codes "s7", id.Reg 23)
    ∷ (codes "s8", id.Reg 24)
    ∷ (codes "s9", id.Reg 25)
    ∷ (codes "s10", id.Reg 26)
    ∷ (codes "s11", id.Reg 27)
    ∷ (codes "t3", id.Reg 28)
    ∷ (codes "t4", id.Reg 29)
    ∷ (codes "t5", id.Reg 30)
    ∷ (codes "t6", id.Reg 31)
    ∷ []

-- a name is one of those of a column, in any case
pub record Means (name : List ℕ) (id : ColumnId) : Type 0 where
  pub written : List ℕ
  pub listed : Contains column_names (written, id)
  pub same : str_eq_ignore_ascii_case written name ≡ true

-- a name is that of the relation, in any case
unfoldable pub is_relation : List ℕ → Bool
is_relation name = str_eq_ignore_ascii_case (codes "states") name
