-- Each column of a typed query is one that a row has.
use Rattle.std.proofs.Common.{◌≡◌, ℕ, ◌<◌, Bool, true, nat_lt, List, [], ◌∷◌, ◌++◌, length, Result, Ok, Err, refl, sym, ap, ◌∙◌, arith}
use Rattle.std.specs.Prelude.{All, IfOk}
use Rattle.std.specs.List.{list_all}
use Rattle.std.proofs.lemmas.Bool.{and_parts}
use Rattle.std.proofs.lemmas.List.Elements.{All-nil, All-cons, All-append, All-contains}
use Rattle.om_eval.specs.Row.{IsColumn}
use Rattle.om_eval.specs.declared.column.Column.{Column}
use Rattle.om_eval.specs.declared.column.ColumnId.{ColumnId}
use Rattle.om_eval.specs.declared.column.ColumnId.TheVariants as id
use Rattle.om_eval.specs.declared.comparison.Compare.{Compare}
use Rattle.om_eval.specs.declared.cond.Cond.{Cond}
use Rattle.om_eval.specs.declared.cond.Cond.TheFolds.{fold-roll-Cond}
use Rattle.om_eval.specs.declared.cond.Cond.TheOpen.{Cond-F}
use Rattle.om_eval.specs.declared.cond.Cond.TheVariants as cond
use Rattle.om_eval.specs.declared.cond.Cond.TheVariants.{rolls-Compare}
use Rattle.om_eval.specs.declared.expr.Expr.{Expr}
use Rattle.om_parse.specs.declared.tree.Query.{Query}
use Rattle.om_parse.specs.declared.tree.Item.{Item}
use Rattle.om_parse.specs.declared.tree.TableName.{TableName}
use Rattle.om_parse.specs.declared.tree.ExprTree.{ExprTree}
use Rattle.om_parse.specs.declared.tree.CondTree.{CondTree}
use Rattle.om_type.specs.Columns.{Means, column_names}
use Rattle.om_type.specs.Existing.{AllExist, IsThere, columns_in, columns_of, columns_step}
use Rattle.om_type.specs.Typing.{Variables, IsExpr, IsTest, AreTests, AreOutputs, IsFrom, IsTyped}
use Rattle.om_type.specs.declared.fault.TypeFault.{TypeFault}
use Rattle.om_type.specs.declared.typed.Typed.{Typed}
use Rattle.om_type.specs.declared.typed.Output.{Output}

-- ---- the table's columns

abbrev is_column : ColumnId → Bool
is_column id.Step = true
is_column id.Pc = true
is_column id.Insn = true
is_column id.Func = true
is_column id.File = true
is_column id.Line = true
is_column (id.Reg number) = nat_lt number 32
is_column (id.Var place) = true

all_columns : list_all (λ (row : List ℕ × ColumnId). is_column row.1) column_names ≡ true
unfolding column_names
all_columns = refl

column_from : (column : ColumnId) → is_column column ≡ true → IsColumn column
column_from (id.Reg number) e = grind (arith, e)
column_from _ e = tt

each_column : (rows : List (List ℕ × ColumnId)) → list_all (λ (row : List ℕ × ColumnId). is_column row.1) rows ≡ true → All (λ row. IsColumn row.1) rows
each_column [] pass = All-nil _
each_column (row ∷ rows) pass =
    let both = and_parts (is_column row.1) (list_all (λ (row : List ℕ × ColumnId). is_column row.1) rows) pass in
    All-cons (λ (row : List ℕ × ColumnId). IsColumn row.1) row rows (column_from row.1 both.0) (each_column rows both.1)

means_column : {name : List ℕ} {column : ColumnId} → Means name column → IsColumn column
means_column {name} {column} means =
    All-contains (λ (row : List ℕ × ColumnId). IsColumn row.1) column_names (means.written, column) (each_column column_names all_columns) means.listed

-- ---- expressions and conditions

one_table : {tables : List TableName} {names : List (List ℕ)} → IsFrom tables names → 0 < length names
one_table (IsFrom.states relation) = omega arith

expr_there : {catalog : Variables} {tree : ExprTree} {value : Expr} (typed : Typed) → 0 < length typed.tables → IsExpr catalog tree value → All (IsThere typed) (columns_of value)
expr_there typed some (IsExpr.column means) = All-cons (IsThere typed) _ [] (some, means_column means) (All-nil _)
expr_there typed some (IsExpr.variable means) = All-cons (IsThere typed) _ [] (some, tt) (All-nil _)
expr_there typed some IsExpr.numeral = All-nil _

columns-Compare : (compare : Compare) (left right : Expr) → columns_in (cond.Compare compare left right) ≡ columns_of left ++ columns_of right
unfolding columns_in
columns-Compare compare left right = ap columns_in (sym (rolls-Compare compare left right)) ∙ fold-roll-Cond (List Column) columns_step (Cond-F.Compare compare left right)

test_there : {catalog : Variables} {tree : CondTree} {test : Cond} (typed : Typed) → 0 < length typed.tables → IsTest catalog tree test → All (IsThere typed) (columns_in test)
test_there typed some (IsTest.compared {left = left} {right = right} is_left left_number is_right right_number) =
    rw (columns-Compare _ left right) (All-append (IsThere typed) (columns_of left) (columns_of right) (expr_there typed some is_left) (expr_there typed some is_right))

-- ---- the query

outputs_there : {catalog : Variables} {position : ℕ} {items : List Item} {outputs : List Output} (typed : Typed) → 0 < length typed.tables → AreOutputs catalog position items outputs
    → All (λ output. All (IsThere typed) (columns_of output.expr)) outputs
outputs_there typed some AreOutputs.none = All-nil _
outputs_there typed some (AreOutputs.more first others) = All-cons (λ (output : Output). All (IsThere typed) (columns_of output.expr)) _ _ (expr_there typed some first) (outputs_there typed some others)

tests_there : {catalog : Variables} {trees : List CondTree} {tests : List Cond} (typed : Typed) → 0 < length typed.tables → AreTests catalog trees tests
    → All (λ test. All (IsThere typed) (columns_in test)) tests
tests_there typed some AreTests.none = All-nil _
tests_there typed some (AreTests.more first others) = All-cons (λ (test : Cond). All (IsThere typed) (columns_in test)) _ _ (test_there typed some first) (tests_there typed some others)

pub all_exist : (catalog : Variables) (query : Query) (typed : Typed) → IsTyped catalog query typed → AllExist typed
all_exist catalog query typed is =
    record { outputs = outputs_there typed (one_table is.tables) is.outputs; conjuncts = tests_there typed (one_table is.tables) is.conjuncts }

pub if_all_exist : (catalog : Variables) (query : Query) (result : Result Typed TypeFault) → IfOk result (IsTyped catalog query) → IfOk result AllExist
if_all_exist catalog query (Ok typed) is = all_exist catalog query typed is
if_all_exist catalog query (Err fault) is = tt
