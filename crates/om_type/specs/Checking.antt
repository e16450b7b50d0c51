-- What the checker answers, as functions. They tie the code to the relations.
use Rattle.std.specs.Prelude.{◌≡◌, ℕ, ◌+◌, ◌^◌, nat_lt, Bool, not, ◌&&◌, is_some, List, [], ◌∷◌, ◌++◌, map, Option, Some, None, Result, Ok, Err, if◌then◌else◌}
use Rattle.std.specs.Option.{option_map, option_and_then}
use Rattle.std.specs.Str.{bytes_eq, str_eq_ignore_ascii_case}
use Rattle.om_eval.specs.declared.catalog.VarInfo.{VarInfo}
use Rattle.om_eval.specs.declared.column.ColumnId.{ColumnId}
use Rattle.om_eval.specs.declared.column.ColumnId.TheVariants as id
use Rattle.om_eval.specs.declared.cond.Cond.{Cond}
use Rattle.om_eval.specs.declared.cond.Cond.TheVariants as cond
use Rattle.om_eval.specs.declared.expr.Expr.{Expr}
use Rattle.om_eval.specs.declared.expr.Expr.TheVariants as expr
use Rattle.om_parse.specs.Identifiers.{said}
use Rattle.om_parse.specs.declared.tree.Identifier.{Identifier}
use Rattle.om_parse.specs.declared.tree.Identifier.TheVariants as i
use Rattle.om_parse.specs.declared.tree.Query.{Query}
use Rattle.om_parse.specs.declared.tree.Item.{Item}
use Rattle.om_parse.specs.declared.tree.TableName.{TableName}
use Rattle.om_parse.specs.declared.tree.ExprTree.{ExprTree}
use Rattle.om_parse.specs.declared.tree.ExprTree.TheVariants as e
use Rattle.om_parse.specs.declared.tree.CondTree.{CondTree}
use Rattle.om_parse.specs.declared.tree.CondTree.TheFolds.{fold-CondTree}
use Rattle.om_parse.specs.declared.tree.CondTree.TheOpen.{CondTree-F}
use Rattle.om_parse.specs.declared.tree.CompareOp.{CompareOp}
use Rattle.om_type.specs.Columns.{column_names, is_relation}
use Rattle.om_type.specs.Typing.{Variables, own, is_text, compare_of, conjuncts_in, conjuncts_of, name_of}
use Rattle.om_type.specs.declared.fault.TypeFault.{TypeFault}
use Rattle.om_type.specs.declared.fault.TypeFault.TheVariants.{NoMemory, Unbuilt}
use Rattle.om_type.specs.declared.typed.Typed.{Typed}
use Rattle.om_type.specs.declared.typed.Output.{Output}

-- ---- answers

-- what a function that checks ensures: it gives what there is, or that there is none, unless memory ran out
abbrev pub Gives : {A : Type 0} → Option A → Result A TypeFault → Type 0
Gives wanted (Ok it) = wanted ≡ Some it
Gives wanted (Err NoMemory) = Unit {0}
Gives wanted (Err Unbuilt) = wanted ≡ None

-- what a list came to, where nothing was refused
abbrev pub grown : {A : Type 0} → Result (Unit {0}) TypeFault → List A → Result (List A) TypeFault
grown (Ok nothing) list = Ok list
grown (Err fault) list = Err fault

-- all members, where none is missing
abbrev pub all_some : {A : Type 0} → List (Option A) → Option (List A)
all_some [] = Some []
all_some (member ∷ members) = option_and_then (λ first. option_map (λ others. first ∷ others) (all_some members)) member

-- members found before others that may be missing
abbrev pub after : {A : Type 0} → List A → Option (List A) → Option (List A)
after found others = option_map (λ more. found ++ more) others

-- ---- columns

-- the column of the first row whose name is this one, in any case
abbrev pub column_in : List (List ℕ × ColumnId) → List ℕ → Option ColumnId
column_in [] name = None
column_in (row ∷ rows) name = if str_eq_ignore_ascii_case row.0 name then Some row.1 else column_in rows name

-- the column that a name means
unfoldable pub column_named : List ℕ → Option ColumnId
column_named name = column_in column_names name

-- ---- variables

-- a query may name the variable at a place: it is one, it holds numbers, and the place is a number of 32 bits
abbrev pub is_nameable : ℕ → VarInfo → Bool
is_nameable place info = not info.ambiguous && is_some info.scalar && nat_lt place (2 ^ 32)

abbrev pub place_of : ℕ → VarInfo → Option ℕ
place_of place info = if is_nameable place info then Some place else None

-- the place of the first variable that has a name, where a query may name it; the first of these is at a place
abbrev pub variable_from : ℕ → Variables → List ℕ → Option ℕ
variable_from place [] name = None
variable_from place (info ∷ infos) name = if bytes_eq name info.name then place_of place info else variable_from (place + 1) infos name

-- the place of the variable that a name means
unfoldable pub variable_named : Variables → List ℕ → Option ℕ
variable_named catalog name = variable_from 0 catalog name

-- ---- expressions and conditions

-- what an identifier means
abbrev pub meant : Variables → Identifier → Option ColumnId
meant catalog (i.Regular name) = column_named name
meant catalog (i.Delimited name) = option_map id.Var (variable_named catalog (said (i.Delimited name)))

unfoldable pub expr_in : Variables → ExprTree → Option Expr
expr_in catalog (e.Column column) = option_map own (meant catalog column.name)
expr_in catalog (e.Numeral numeral) = Some (expr.Numeral numeral.value)

abbrev pub if_number : Expr → Option Expr
if_number value = if is_text value then None else Some value

unfoldable pub number_in : Variables → ExprTree → Option Expr
number_in catalog tree = option_and_then if_number (expr_in catalog tree)

unfoldable pub comparison_in : Variables → CompareOp → ExprTree → ExprTree → Option Cond
comparison_in catalog op left right =
    option_and_then (λ l. option_map (cond.Compare (compare_of op) l) (number_in catalog right)) (number_in catalog left)

abbrev pub test_step : Variables → CondTree-F (Option Cond) → Option Cond
test_step catalog (CondTree-F.Compare at op left right) = comparison_in catalog op left right
test_step catalog (CondTree-F.All members) = None

-- the test that a comparison is
unfoldable pub test_in : Variables → CondTree → Option Cond
test_in catalog = fold-CondTree (Option Cond) (test_step catalog)

unfoldable pub tests_in : Variables → List CondTree → Option (List Cond)
tests_in catalog trees = all_some (map (test_in catalog) trees)

-- the tests that the conjuncts of a condition are
unfoldable pub tests_of : Variables → CondTree → Option (List Cond)
tests_of catalog tree = tests_in catalog (conjuncts_in tree)

-- ---- the query

abbrev pub output_of : ℕ → ExprTree → Expr → Output
output_of position tree value = record { name = name_of position tree; expr = value }

unfoldable pub output_in : Variables → ℕ → Item → Option Output
output_in catalog position item = option_map (output_of position item.expr) (expr_in catalog item.expr)

-- the outputs of items, the first of which is at a position
abbrev pub outputs_from : Variables → ℕ → List Item → List (Option Output)
outputs_from catalog position [] = []
outputs_from catalog position (item ∷ items) = output_in catalog position item ∷ outputs_from catalog (position + 1) items

unfoldable pub outputs_in : Variables → List Item → Option (List Output)
outputs_in catalog items = all_some (outputs_from catalog 1 items)

unfoldable pub tables_in : List TableName → Option (List (List ℕ))
tables_in (table ∷ []) = if is_relation table.name then Some (table.name ∷ []) else None
tables_in _ = None

abbrev pub typed_by : List (List ℕ) → List Cond → List Output → Typed
typed_by tables conjuncts outputs = record { tables = tables; conjuncts = conjuncts; outputs = outputs }

unfoldable pub typed_in : Variables → Query → Option Typed
typed_in catalog query =
    option_and_then (λ tables. option_and_then (λ outputs. option_map (λ conjuncts. typed_by tables conjuncts outputs) (tests_in catalog (conjuncts_of query.filter))) (outputs_in catalog query.items)) (tables_in query.tables)
