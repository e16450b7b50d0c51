-- What the checker finds is what the relations say.
use Rattle.std.proofs.Common.{◌≡◌, ℕ, ◌+◌, Bool, true, false, List, [], ◌∷◌, length, map, Option, Some, None, ◌⊎◌, inl, inr, refl, sym, ap, subst, ◌∙◌, if◌then◌else◌, arith}
use Rattle.std.specs.Prelude.{◌≢◌, All, Contains}
use Rattle.std.proofs.lemmas.List.Elements.{All-contains, All-cons, All-nil}
use Rattle.std.specs.Option.{option_map, option_and_then}
use Rattle.om_eval.specs.declared.column.ColumnId.{ColumnId}
use Rattle.om_eval.specs.declared.column.ColumnId.TheVariants as id
use Rattle.om_eval.specs.declared.cond.Cond.{Cond}
use Rattle.om_eval.specs.declared.cond.Cond.TheVariants as cond
use Rattle.om_eval.specs.declared.expr.Expr.{Expr}
use Rattle.om_eval.specs.declared.expr.Expr.TheVariants as expr
use Rattle.om_parse.specs.Identifiers.{said}
use Rattle.om_parse.specs.declared.tree.Identifier.{Identifier}
use Rattle.om_parse.specs.declared.tree.Identifier.TheVariants as i
use Rattle.om_parse.specs.declared.tree.Query.{Query}
use Rattle.om_parse.specs.declared.tree.Item.{Item}
use Rattle.om_parse.specs.declared.tree.TableName.{TableName}
use Rattle.om_parse.specs.declared.tree.ExprTree.{ExprTree}
use Rattle.om_parse.specs.declared.tree.ExprTree.TheVariants as e
use Rattle.om_parse.specs.declared.tree.CondTree.{CondTree}
use Rattle.om_parse.specs.declared.tree.CondTree.TheVariants as c
use Rattle.om_parse.specs.declared.tree.CompareOp.{CompareOp}
use Rattle.om_type.specs.Columns.{is_relation}
use Rattle.om_type.specs.Typing.{Variables, IsExpr, is_text, own, compare_of, IsTest, AreTests, AreOutputs, IsFrom, IsTyped, conjuncts_of}
use Rattle.om_type.specs.Unbuilt.{IsUnbuiltExpr, IsNoNumber, IsUnbuiltTest, IsUnbuilt}
use Rattle.om_type.specs.Checking.{all_some, column_named, comparison_in, expr_in, if_number, meant, number_in, output_in, output_of, outputs_from, outputs_in, tables_in, test_in, tests_in, typed_by, typed_in, variable_named}
use Rattle.om_type.specs.declared.typed.Typed.{Typed}
use Rattle.om_type.specs.declared.typed.Output.{Output}
use Rattle.om_type.proofs.ColumnLemmas.{column_settles}
use Rattle.om_type.proofs.VariableLemmas.{variable_settles}
use Rattle.om_type.proofs.ConjunctLemmas.{Shape, shape_of, test_in-All, test_in-Compare}
use Rattle.om_type.proofs.SettlesLemmas.{Settles, all_some-cons, all_some-missing, here, never, there}

-- ---- expressions

column_is : (catalog : Variables) (at : ℕ) (name : List ℕ) (found : Option ColumnId) (value : Expr) → column_named name ≡ found → option_map own found ≡ Some value
    → IsExpr catalog (e.Column (record { at = at; name = i.Regular name })) value
column_is catalog at name None value is told = absurd cc
column_is catalog at name (Some id) value is told =
    let own_is : own id ≡ value = cc in
    subst (IsExpr catalog (e.Column (record { at = at; name = i.Regular name }))) own_is (IsExpr.column ((column_settles name).is id is))

column_isnt : (catalog : Variables) (at : ℕ) (name : List ℕ) (found : Option ColumnId) → column_named name ≡ found → option_map own found ≡ None
    → IsUnbuiltExpr catalog (e.Column (record { at = at; name = i.Regular name }))
column_isnt catalog at name None is told = IsUnbuiltExpr.name ((column_settles name).isnt is)
column_isnt catalog at name (Some id) is told = absurd (never (own id) told)

variable_is : (catalog : Variables) (at : ℕ) (name : List ℕ) (found : Option ℕ) (value : Expr) → variable_named catalog (said (i.Delimited name)) ≡ found → option_map own (option_map id.Var found) ≡ Some value
    → IsExpr catalog (e.Column (record { at = at; name = i.Delimited name })) value
variable_is catalog at name None value is told = absurd cc
variable_is catalog at name (Some place) value is told =
    let own_is : own (id.Var place) ≡ value = cc in
    subst (IsExpr catalog (e.Column (record { at = at; name = i.Delimited name }))) own_is (IsExpr.variable ((variable_settles catalog (said (i.Delimited name))).is place is))

variable_isnt : (catalog : Variables) (at : ℕ) (name : List ℕ) (found : Option ℕ) → variable_named catalog (said (i.Delimited name)) ≡ found → option_map own (option_map id.Var found) ≡ None
    → IsUnbuiltExpr catalog (e.Column (record { at = at; name = i.Delimited name }))
variable_isnt catalog at name None is told = IsUnbuiltExpr.variable ((variable_settles catalog (said (i.Delimited name))).isnt is)
variable_isnt catalog at name (Some place) is told = absurd (never (own (id.Var place)) told)

name_is : (catalog : Variables) (at : ℕ) (name : Identifier) (value : Expr) → option_map own (meant catalog name) ≡ Some value → IsExpr catalog (e.Column (record { at = at; name = name })) value
name_is catalog at (i.Regular name) value told = column_is catalog at name (column_named name) value refl told
name_is catalog at (i.Delimited name) value told = variable_is catalog at name (variable_named catalog (said (i.Delimited name))) value refl told

name_isnt : (catalog : Variables) (at : ℕ) (name : Identifier) → option_map own (meant catalog name) ≡ None → IsUnbuiltExpr catalog (e.Column (record { at = at; name = name }))
name_isnt catalog at (i.Regular name) told = column_isnt catalog at name (column_named name) refl told
name_isnt catalog at (i.Delimited name) told = variable_isnt catalog at name (variable_named catalog (said (i.Delimited name))) refl told

expr_is : (catalog : Variables) (tree : ExprTree) (value : Expr) → expr_in catalog tree ≡ Some value → IsExpr catalog tree value
unfolding expr_in
expr_is catalog (e.Column written) value told = name_is catalog written.at written.name value told
expr_is catalog (e.Numeral written) value told =
    let is : expr.Numeral written.value ≡ value = cc in
    subst (IsExpr catalog (e.Numeral written)) is IsExpr.numeral

expr_isnt : (catalog : Variables) (tree : ExprTree) → expr_in catalog tree ≡ None → IsUnbuiltExpr catalog tree
unfolding expr_in
expr_isnt catalog (e.Column written) told = name_isnt catalog written.at written.name told
expr_isnt catalog (e.Numeral written) told = absurd cc

expr_finds : {catalog : Variables} {tree : ExprTree} {value : Expr} → IsExpr catalog tree value → expr_in catalog tree ≡ Some value
unfolding expr_in
expr_finds (IsExpr.column {name = name} {id = id} means) = ap (option_map own) ((column_settles name).finds id means)
expr_finds {catalog} (IsExpr.variable {name = name} {place = place} means) =
    ap (λ (found : Option ℕ). option_map own (option_map id.Var found)) ((variable_settles catalog (said (i.Delimited name))).finds place means)
expr_finds IsExpr.numeral = refl

expr_misses : {catalog : Variables} {tree : ExprTree} → IsUnbuiltExpr catalog tree → expr_in catalog tree ≡ None
unfolding expr_in
expr_misses (IsUnbuiltExpr.name {name = name} nothing) = ap (option_map own) ((column_settles name).misses nothing)
expr_misses {catalog} (IsUnbuiltExpr.variable {name = name} nothing) =
    ap (λ (found : Option ℕ). option_map own (option_map id.Var found)) ((variable_settles catalog (said (i.Delimited name))).misses nothing)

pub expr_settles : (catalog : Variables) (tree : ExprTree) → Settles (expr_in catalog tree) (IsExpr catalog tree) (IsUnbuiltExpr catalog tree)
expr_settles catalog tree = record { is = expr_is catalog tree; isnt = expr_isnt catalog tree; finds = λ value h. expr_finds h; misses = expr_misses }

-- ---- comparisons

-- an expression of numbers
abbrev IsNumber : Variables → ExprTree → Expr → Type 0
IsNumber catalog tree value = IsExpr catalog tree value × (is_text value ≡ false)

number_is : (catalog : Variables) (tree : ExprTree) (value : Expr) → number_in catalog tree ≡ Some value → IsNumber catalog tree value
unfolding number_in
number_is catalog tree value told = by (expr_in catalog tree) refl told
  where
    kept : (found : Expr) (text : Bool) → is_text found ≡ text → expr_in catalog tree ≡ Some found → (if text then None else Some found) ≡ Some value → IsNumber catalog tree value
    kept found true text is told = absurd cc
    kept found false text is told =
        let same : found ≡ value = cc in
        (expr_is catalog tree value (is ∙ ap Some same), ap is_text (sym same) ∙ text)

    by : (found : Option Expr) → expr_in catalog tree ≡ found → option_and_then if_number found ≡ Some value → IsNumber catalog tree value
    by None is told = absurd cc
    by (Some found) is told = kept found (is_text found) refl is told

number_isnt : (catalog : Variables) (tree : ExprTree) → number_in catalog tree ≡ None → IsNoNumber catalog tree
unfolding number_in
number_isnt catalog tree told = by (expr_in catalog tree) refl told
  where
    kept : (found : Expr) (text : Bool) → is_text found ≡ text → expr_in catalog tree ≡ Some found → (if text then None else Some found) ≡ None → IsNoNumber catalog tree
    kept found true text is told = IsNoNumber.text (expr_is catalog tree found is) text
    kept found false text is told = absurd (never found told)

    by : (found : Option Expr) → expr_in catalog tree ≡ found → option_and_then if_number found ≡ None → IsNoNumber catalog tree
    by None is told = IsNoNumber.unbuilt (expr_isnt catalog tree is)
    by (Some found) is told = kept found (is_text found) refl is told

number_finds : (catalog : Variables) (tree : ExprTree) (value : Expr) → IsNumber catalog tree value → number_in catalog tree ≡ Some value
unfolding number_in
number_finds catalog tree value (is, no_text) = rw (expr_finds is, no_text) refl

number_misses : {catalog : Variables} {tree : ExprTree} → IsNoNumber catalog tree → number_in catalog tree ≡ None
unfolding number_in
number_misses (IsNoNumber.unbuilt no_expr) = rw (expr_misses no_expr) refl
number_misses (IsNoNumber.text is text) = rw (expr_finds is, text) refl

comparison_is : (catalog : Variables) (at : ℕ) (op : CompareOp) (left right : ExprTree) (test : Cond) → comparison_in catalog op left right ≡ Some test → IsTest catalog (c.Compare at op left right) test
unfolding comparison_in
comparison_is catalog at op left right test told = by (number_in catalog left) (number_in catalog right) refl refl told
  where
    by : (a b : Option Expr) → number_in catalog left ≡ a → number_in catalog right ≡ b → option_and_then (λ x. option_map (cond.Compare (compare_of op) x) b) a ≡ Some test → IsTest catalog (c.Compare at op left right) test
    by None b is_left is_right told = absurd cc
    by (Some a) None is_left is_right told = absurd cc
    by (Some a) (Some b) is_left is_right told =
        let one = number_is catalog left a is_left in
        let other = number_is catalog right b is_right in
        let same : cond.Compare (compare_of op) a b ≡ test = cc in
        subst (IsTest catalog (c.Compare at op left right)) same (IsTest.compared one.0 one.1 other.0 other.1)

comparison_isnt : (catalog : Variables) (at : ℕ) (op : CompareOp) (left right : ExprTree) → comparison_in catalog op left right ≡ None → IsUnbuiltTest catalog (c.Compare at op left right)
unfolding comparison_in
comparison_isnt catalog at op left right told = by (number_in catalog left) (number_in catalog right) refl refl told
  where
    by : (a b : Option Expr) → number_in catalog left ≡ a → number_in catalog right ≡ b → option_and_then (λ x. option_map (cond.Compare (compare_of op) x) b) a ≡ None → IsUnbuiltTest catalog (c.Compare at op left right)
    by None b is_left is_right told = IsUnbuiltTest.left (number_isnt catalog left is_left)
    by (Some a) None is_left is_right told = IsUnbuiltTest.right (number_isnt catalog right is_right)
    by (Some a) (Some b) is_left is_right told = absurd (never (cond.Compare (compare_of op) a b) told)

-- ---- conjuncts

shape_is : (catalog : Variables) {tree : CondTree} (test : Cond) → Shape tree → test_in catalog tree ≡ Some test → IsTest catalog tree test
shape_is catalog test (Shape.compare at op left right) told = comparison_is catalog at op left right test (sym (test_in-Compare catalog at op left right) ∙ told)
shape_is catalog test (Shape.all members) told = absurd (never test (sym told ∙ test_in-All catalog members))

shape_isnt : (catalog : Variables) {tree : CondTree} → Shape tree → test_in catalog tree ≡ None → IsUnbuiltTest catalog tree
shape_isnt catalog (Shape.compare at op left right) told = comparison_isnt catalog at op left right (sym (test_in-Compare catalog at op left right) ∙ told)
shape_isnt catalog (Shape.all members) told = IsUnbuiltTest.all members

test_finds : (catalog : Variables) {tree : CondTree} {test : Cond} → IsTest catalog tree test → test_in catalog tree ≡ Some test
unfolding comparison_in
test_finds catalog (IsTest.compared {at = at} {op = op} {left_tree = a} {right_tree = b} {left = left} {right = right} is_left left_number is_right right_number) =
    test_in-Compare catalog at op a b ∙ rw (number_finds catalog a left (is_left, left_number), number_finds catalog b right (is_right, right_number)) refl

none_either : {A B : Type 0} (f : A → Option B) (a : Option A) → ((x : A) → f x ≡ None) → option_and_then f a ≡ None
none_either f None each = refl
none_either f (Some a) each = each a

test_misses : {catalog : Variables} {tree : CondTree} → IsUnbuiltTest catalog tree → test_in catalog tree ≡ None
unfolding comparison_in
test_misses {catalog} (IsUnbuiltTest.left {at = at} {op = op} {left = a} {right = b} isnt) = test_in-Compare catalog at op a b ∙ rw (number_misses isnt) refl
test_misses {catalog} (IsUnbuiltTest.right {at = at} {op = op} {left = a} {right = b} isnt) =
    test_in-Compare catalog at op a b ∙ rw (number_misses isnt) (none_either (λ x. None) (number_in catalog a) (λ x. refl))
test_misses {catalog} (IsUnbuiltTest.all members) = test_in-All catalog members

pub test_settles : (catalog : Variables) (tree : CondTree) → Settles (test_in catalog tree) (IsTest catalog tree) (IsUnbuiltTest catalog tree)
test_settles catalog tree = record {
  is = λ test told. shape_is catalog test (shape_of tree) told;
  isnt = shape_isnt catalog (shape_of tree);
  finds = λ test h. test_finds catalog h;
  misses = test_misses;
}

-- some of the conditions isn't built
abbrev SomeUnbuilt : Variables → List CondTree → Type 0
SomeUnbuilt catalog trees = (tree : CondTree) × Contains trees tree × IsUnbuiltTest catalog tree

tests_are : (catalog : Variables) (trees : List CondTree) (tests : List Cond) → tests_in catalog trees ≡ Some tests → AreTests catalog trees tests
unfolding tests_in
tests_are catalog [] tests told =
    let same : [] ≡ tests = cc in
    subst (AreTests catalog []) same AreTests.none
tests_are catalog (tree ∷ trees) tests told =
    let parts = all_some-cons (test_in catalog tree) (map (test_in catalog) trees) tests told in
    let first = shape_is catalog parts.0 (shape_of tree) parts.2 in
    let others = tests_are catalog trees parts.1 parts.3 in
    subst (AreTests catalog (tree ∷ trees)) (sym parts.4) (AreTests.more first others)

tests_arent : (catalog : Variables) (trees : List CondTree) → tests_in catalog trees ≡ None → SomeUnbuilt catalog trees
unfolding tests_in
tests_arent catalog [] told = absurd cc
tests_arent catalog (tree ∷ trees) told = by (all_some-missing (test_in catalog tree) (map (test_in catalog) trees) told) (tests_arent catalog trees)
  where
    by : (test_in catalog tree ≡ None) ⊎ (all_some (map (test_in catalog) trees) ≡ None) → (all_some (map (test_in catalog) trees) ≡ None → SomeUnbuilt catalog trees) → SomeUnbuilt catalog (tree ∷ trees)
    by (inl first) rest = (tree, here tree trees, shape_isnt catalog (shape_of tree) first)
    by (inr others) rest =
        let some = rest others in
        (some.0, there tree some.0 trees some.1, some.2)

tests_find : (catalog : Variables) {trees : List CondTree} {tests : List Cond} → AreTests catalog trees tests → tests_in catalog trees ≡ Some tests
unfolding tests_in
tests_find catalog AreTests.none = refl
tests_find catalog (AreTests.more first others) = rw (test_finds catalog first, tests_find catalog others) refl

all_built : (catalog : Variables) {trees : List CondTree} {tests : List Cond} → AreTests catalog trees tests → All (λ tree. IsUnbuiltTest catalog tree → ⊥) trees
all_built catalog AreTests.none = All-nil _
all_built catalog (AreTests.more {tree = tree} {trees = trees} {test = test} first others) =
    All-cons (λ other. IsUnbuiltTest catalog other → ⊥) tree trees (λ isnt. never test (sym (test_finds catalog first) ∙ test_misses isnt)) (all_built catalog others)

tests_miss : (catalog : Variables) (trees : List CondTree) (tree : CondTree) → Contains trees tree → IsUnbuiltTest catalog tree → tests_in catalog trees ≡ None
tests_miss catalog trees tree among isnt = by (tests_in catalog trees) refl
  where
    by : (found : Option (List Cond)) → tests_in catalog trees ≡ found → found ≡ None
    by None is = refl
    by (Some found) is = absurd (All-contains (λ other. IsUnbuiltTest catalog other → ⊥) trees tree (all_built catalog (tests_are catalog trees found is)) among isnt)

-- ---- outputs

output_is : (catalog : Variables) (position : ℕ) (item : Item) (output : Output) → output_in catalog position item ≡ Some output → (value : Expr) × IsExpr catalog item.expr value × (output_of position item.expr value ≡ output)
unfolding output_in
output_is catalog position item output told = by (expr_in catalog item.expr) refl told
  where
    by : (found : Option Expr) → expr_in catalog item.expr ≡ found → option_map (output_of position item.expr) found ≡ Some output → (value : Expr) × IsExpr catalog item.expr value × (output_of position item.expr value ≡ output)
    by None is told = absurd cc
    by (Some value) is told = (value, expr_is catalog item.expr value is, cc)

output_isnt : (catalog : Variables) (position : ℕ) (item : Item) → output_in catalog position item ≡ None → IsUnbuiltExpr catalog item.expr
unfolding output_in
output_isnt catalog position item told = by (expr_in catalog item.expr) refl told
  where
    by : (found : Option Expr) → expr_in catalog item.expr ≡ found → option_map (output_of position item.expr) found ≡ None → IsUnbuiltExpr catalog item.expr
    by None is told = expr_isnt catalog item.expr is
    by (Some value) is told = absurd (never (output_of position item.expr value) told)

outputs_are : (catalog : Variables) (position : ℕ) (items : List Item) (outputs : List Output) → all_some (outputs_from catalog position items) ≡ Some outputs → AreOutputs catalog position items outputs
outputs_are catalog position [] outputs told =
    let same : [] ≡ outputs = cc in
    subst (AreOutputs catalog position []) same AreOutputs.none
outputs_are catalog position (item ∷ items) outputs told =
    let parts = all_some-cons (output_in catalog position item) (outputs_from catalog (position + 1) items) outputs told in
    let first = output_is catalog position item parts.0 parts.2 in
    let others = outputs_are catalog (position + 1) items parts.1 parts.3 in
    let all : output_of position item.expr first.0 ∷ parts.1 ≡ outputs = ap (λ (output : Output). output ∷ parts.1) first.2 ∙ sym parts.4 in
    subst (AreOutputs catalog position (item ∷ items)) all (AreOutputs.more first.1 others)

-- some of the items isn't built
abbrev SomeUnbuiltItem : Variables → List Item → Type 0
SomeUnbuiltItem catalog items = (item : Item) × Contains items item × IsUnbuiltExpr catalog item.expr

outputs_arent : (catalog : Variables) (position : ℕ) (items : List Item) → all_some (outputs_from catalog position items) ≡ None → SomeUnbuiltItem catalog items
outputs_arent catalog position [] told = absurd cc
outputs_arent catalog position (item ∷ items) told = by (all_some-missing (output_in catalog position item) (outputs_from catalog (position + 1) items) told) (outputs_arent catalog (position + 1) items)
  where
    by : (output_in catalog position item ≡ None) ⊎ (all_some (outputs_from catalog (position + 1) items) ≡ None) → (all_some (outputs_from catalog (position + 1) items) ≡ None → SomeUnbuiltItem catalog items) → SomeUnbuiltItem catalog (item ∷ items)
    by (inl first) rest = (item, here item items, output_isnt catalog position item first)
    by (inr others) rest =
        let some = rest others in
        (some.0, there item some.0 items some.1, some.2)

outputs_find : (catalog : Variables) {position : ℕ} {items : List Item} {outputs : List Output} → AreOutputs catalog position items outputs → all_some (outputs_from catalog position items) ≡ Some outputs
unfolding output_in
outputs_find catalog AreOutputs.none = refl
outputs_find catalog (AreOutputs.more first others) = rw (expr_finds first, outputs_find catalog others) refl

all_items_built : (catalog : Variables) {position : ℕ} {items : List Item} {outputs : List Output} → AreOutputs catalog position items outputs → All (λ item. IsUnbuiltExpr catalog item.expr → ⊥) items
all_items_built catalog AreOutputs.none = All-nil _
all_items_built catalog (AreOutputs.more {item = item} {items = items} {value = value} first others) =
    All-cons (λ other. IsUnbuiltExpr catalog other.expr → ⊥) item items (λ isnt. never value (sym (expr_finds first) ∙ expr_misses isnt)) (all_items_built catalog others)

outputs_miss : (catalog : Variables) (items : List Item) (item : Item) → Contains items item → IsUnbuiltExpr catalog item.expr → outputs_in catalog items ≡ None
unfolding outputs_in
outputs_miss catalog items item among isnt = by (all_some (outputs_from catalog 1 items)) refl
  where
    by : (found : Option (List Output)) → all_some (outputs_from catalog 1 items) ≡ found → found ≡ None
    by None is = refl
    by (Some found) is = absurd (All-contains (λ other. IsUnbuiltExpr catalog other.expr → ⊥) items item (all_items_built catalog (outputs_are catalog 1 items found is)) among isnt)

-- ---- tables

tables_are : (tables : List TableName) (names : List (List ℕ)) → tables_in tables ≡ Some names → IsFrom tables names
unfolding tables_in
tables_are [] names told = absurd cc
tables_are (table ∷ []) names told = by (is_relation table.name) refl told
  where
    by : (b : Bool) → is_relation table.name ≡ b → (if b then Some (table.name ∷ []) else None) ≡ Some names → IsFrom (table ∷ []) names
    by false is told = absurd cc
    by true is told =
        let same : table.name ∷ [] ≡ names = cc in
        subst (IsFrom (table ∷ [])) same (IsFrom.states is)
tables_are (table ∷ other ∷ tables) names told = absurd cc

tables_arent : (catalog : Variables) (query : Query) (tables : List TableName) → query.tables ≡ tables → tables_in tables ≡ None → IsUnbuilt catalog query
unfolding tables_in
tables_arent catalog query [] is told = IsUnbuilt.tables (λ one. absurd (omega (arith, one, ap (λ (l : List TableName). length l) is)))
tables_arent catalog query (table ∷ []) is told = by (is_relation table.name) refl told
  where
    by : (b : Bool) → is_relation table.name ≡ b → (if b then Some (table.name ∷ []) else None) ≡ None → IsUnbuilt catalog query
    by true relation told = absurd (never (table.name ∷ []) told)
    by false relation told = IsUnbuilt.table (subst (λ (l : List TableName). Contains l table) (sym is) (here table [])) relation
tables_arent catalog query (table ∷ other ∷ tables) is told = IsUnbuilt.tables (λ one. absurd (omega (arith, one, ap (λ (l : List TableName). length l) is)))

tables_find : {tables : List TableName} {names : List (List ℕ)} → IsFrom tables names → tables_in tables ≡ Some names
unfolding tables_in
tables_find (IsFrom.states relation) = rw relation refl

tables_miss : (tables : List TableName) → length tables ≢ 1 → tables_in tables ≡ None
unfolding tables_in
tables_miss [] several = refl
tables_miss (table ∷ []) several = absurd (several refl)
tables_miss (table ∷ other ∷ tables) several = refl

other_table_misses : (tables : List TableName) (table : TableName) → Contains tables table → is_relation table.name ≡ false → tables_in tables ≡ None
unfolding tables_in
other_table_misses [] table among relation = refl
other_table_misses (only ∷ []) table among relation =
    let same : table.name ≡ only.name = All-contains (λ (it : TableName). it.name ≡ only.name) (only ∷ []) table (All-cons (λ (it : TableName). it.name ≡ only.name) only [] refl (All-nil _)) among in
    let not_it : is_relation only.name ≡ false = sym (ap is_relation same) ∙ relation in
    rw not_it refl
other_table_misses (first ∷ second ∷ tables) table among relation = refl

-- ---- the query

query_is : (catalog : Variables) (query : Query) (typed : Typed) → typed_in catalog query ≡ Some typed → IsTyped catalog query typed
unfolding typed_in outputs_in
query_is catalog query typed told = by (tables_in query.tables) (outputs_in catalog query.items) (tests_in catalog (conjuncts_of query.filter)) refl refl refl told
  where
    by : (tables : Option (List (List ℕ))) (outputs : Option (List Output)) (tests : Option (List Cond)) → tables_in query.tables ≡ tables → outputs_in catalog query.items ≡ outputs → tests_in catalog (conjuncts_of query.filter) ≡ tests
        → option_and_then (λ tables. option_and_then (λ outputs. option_map (λ conjuncts. typed_by tables conjuncts outputs) tests) outputs) tables ≡ Some typed → IsTyped catalog query typed
    by None outputs tests are_tables are_outputs are_tests told = absurd cc
    by (Some tables) None tests are_tables are_outputs are_tests told = absurd cc
    by (Some tables) (Some outputs) None are_tables are_outputs are_tests told = absurd cc
    by (Some tables) (Some outputs) (Some tests) are_tables are_outputs are_tests told =
        let same : typed_by tables tests outputs ≡ typed = cc in
        subst (IsTyped catalog query) same record {
          tables = tables_are query.tables tables are_tables;
          outputs = outputs_are catalog 1 query.items outputs are_outputs;
          conjuncts = tests_are catalog (conjuncts_of query.filter) tests are_tests;
        }

query_isnt : (catalog : Variables) (query : Query) → typed_in catalog query ≡ None → IsUnbuilt catalog query
unfolding typed_in outputs_in
query_isnt catalog query told = by (tables_in query.tables) (outputs_in catalog query.items) (tests_in catalog (conjuncts_of query.filter)) refl refl refl told
  where
    by : (tables : Option (List (List ℕ))) (outputs : Option (List Output)) (tests : Option (List Cond)) → tables_in query.tables ≡ tables → outputs_in catalog query.items ≡ outputs → tests_in catalog (conjuncts_of query.filter) ≡ tests
        → option_and_then (λ tables. option_and_then (λ outputs. option_map (λ conjuncts. typed_by tables conjuncts outputs) tests) outputs) tables ≡ None → IsUnbuilt catalog query
    by None outputs tests are_tables are_outputs are_tests told = tables_arent catalog query query.tables refl are_tables
    by (Some tables) None tests are_tables are_outputs are_tests told =
        let some = outputs_arent catalog 1 query.items are_outputs in
        IsUnbuilt.item some.1 some.2
    by (Some tables) (Some outputs) None are_tables are_outputs are_tests told =
        let some = tests_arent catalog (conjuncts_of query.filter) are_tests in
        IsUnbuilt.conjunct some.1 some.2
    by (Some tables) (Some outputs) (Some tests) are_tables are_outputs are_tests told = absurd (never (typed_by tables tests outputs) told)

query_finds : (catalog : Variables) (query : Query) (typed : Typed) → IsTyped catalog query typed → typed_in catalog query ≡ Some typed
unfolding typed_in outputs_in
query_finds catalog query typed is = rw (tables_find is.tables, outputs_find catalog is.outputs, tests_find catalog is.conjuncts) refl

query_misses : (catalog : Variables) (query : Query) → IsUnbuilt catalog query → typed_in catalog query ≡ None
unfolding typed_in
query_misses catalog query (IsUnbuilt.tables several) = rw (tables_miss query.tables several) refl
query_misses catalog query (IsUnbuilt.table {table = table} among relation) = rw (other_table_misses query.tables table among relation) refl
query_misses catalog query (IsUnbuilt.item {item = item} among isnt) =
    rw (outputs_miss catalog query.items item among isnt) (none_either (λ tables. None) (tables_in query.tables) (λ tables. refl))
query_misses catalog query (IsUnbuilt.conjunct {tree = tree} among isnt) =
    rw (tests_miss catalog (conjuncts_of query.filter) tree among isnt) (none_either _ (tables_in query.tables) (λ tables. none_either _ (outputs_in catalog query.items) (λ outputs. refl)))

pub query_settles : (catalog : Variables) (query : Query) → Settles (typed_in catalog query) (IsTyped catalog query) (IsUnbuilt catalog query)
query_settles catalog query = record { is = query_is catalog query; isnt = query_isnt catalog query; finds = query_finds catalog query; misses = query_misses catalog query }
