-- Where the parser of each production stops.
use Rattle.std.proofs.Common.{◌≡◌, ℕ, zero, suc, ◌≤◌, Bool, true, false, cond, List, [], ◌∷◌, ◌++◌, length, Option, Some, None, Ok, refl, sym, ap, subst, arith, rules}
use Rattle.std.proofs.lemmas.List.{append-nil}
use denote.Enum.Bare.{same_true}
use Rattle.om_token.specs.contracts.terminal.Terminal.{the_type}
use Rattle.om_token.specs.declared.token.Kind.{Kind}
use Rattle.om_token.specs.declared.token.Kind.TheVariants as k
use Rattle.om_token.specs.declared.token.Token.{Token}
use Rattle.om_token.specs.declared.terminal.Terminal.{Terminal}
use Rattle.om_token.specs.declared.terminal.Terminal.TheVariants as t
use Rattle.om_parse.specs.declared.tree.Query.{Query}
use Rattle.om_parse.specs.declared.tree.Item.{Item}
use Rattle.om_parse.specs.declared.tree.TableName.{TableName}
use Rattle.om_parse.specs.declared.tree.ColumnName.{ColumnName}
use Rattle.om_parse.specs.declared.tree.Identifier.TheVariants as i
use Rattle.om_parse.specs.declared.tree.Numeral.{Numeral}
use Rattle.om_parse.specs.declared.tree.ExprTree.TheVariants as e
use Rattle.om_parse.specs.declared.tree.CondTree.{CondTree}
use Rattle.om_parse.specs.declared.tree.CondTree.TheVariants as c
use Rattle.om_parse.specs.declared.tree.CompareOp.{CompareOp}
use Rattle.om_parse.specs.declared.tree.CompareOp.TheVariants as o
use Rattle.om_token.specs.Terminals.{same}
use Rattle.om_parse.specs.Grammar.{Tokens, Lang, token, terminal, all_of, IsColumn, IsNumeral, IsItem, AreMoreItems, AreItems, IsTable, IsOperator, IsTest, AreMoreTests, IsCond, IsFilter, IsQuery}
use Rattle.om_parse.specs.Reading as r
use Rattle.om_parse.specs.Reading.{Step, Parser, and_then, ◌>>=◌, pure, one, is, begins, passed, tails, offset_of, expect, identifier_in, column_named, table_named, numeral_of, operator_of, operator_in, operator_at}
use Rattle.om_parse.proofs.ListLemmas.{Shrinks, tails_more, tails_done, item_shrinks, test_shrinks}
use Rattle.om_parse.proofs.Runs.{RunAt, Runs, bind_at, bind_run, map_at, map_run, one_run, branch_at}

-- ---- one token

pub is_same : (which other : Terminal) → same which other ≡ true → which ≡ other
unfolding same
is_same which other h = same_true the_type (search rules) which other h

is_terminal : (which : Terminal) (kind : Kind) → is which kind ≡ true → kind ≡ k.Terminal which
is_terminal which (k.Terminal other) h = ap k.Terminal (sym (is_same which other h))
is_terminal which _ h = absurd cc

-- a reserved word or a symbol, with its offset
pub data IsMark (which : Terminal) : Tokens → ℕ → Type 0 where
  mark : {at : ℕ} → IsMark which (terminal at which ∷ []) at

mark_fits : (which : Terminal) (at : ℕ) (kind : Kind) (x : ℕ) (b : Bool) → is which kind ≡ b → cond b (Some at) None ≡ Some x → IsMark which (token at kind ∷ []) x
mark_fits which at kind x true h f =
    let n : at ≡ x = cc in
    rw (is_terminal which kind h, ← n) mark
mark_fits which at kind x false h f = absurd cc

pub same_itself : (which : Terminal) → same which which ≡ true
unfolding same
same_itself which = denote.Enum.Bare.true_same the_type which which refl

pub expect_runs : (which : Terminal) → Runs (expect which) (IsMark which)
expect_runs which =
    one_run (offset_of which) (IsMark which)
    (λ next x h. mark_fits which next.at next.kind x (is which next.kind) refl h)
    (terminal 0 which, 0, ap (λ (b : Bool). cond b (Some 0) None) (same_itself which))

column_fits : (at : ℕ) (kind : Kind) (x : ColumnName) → column_named at (identifier_in kind) ≡ Some x → IsColumn (token at kind ∷ []) x
column_fits at (k.Regular name) x h =
    let n : record { at = at; name = i.Regular name } ≡ x = cc in
    subst (IsColumn (token at (k.Regular name) ∷ [])) n IsColumn.regular
column_fits at (k.Delimited name) x h =
    let n : record { at = at; name = i.Delimited name } ≡ x = cc in
    subst (IsColumn (token at (k.Delimited name) ∷ [])) n IsColumn.delimited
column_fits at _ x h = absurd cc

pub column_runs : Runs r.column IsColumn
unfolding r.column
column_runs =
    one_run (λ next. column_named next.at (identifier_in next.kind)) IsColumn (λ next x h. column_fits next.at next.kind x h)
    (token 0 (k.Regular []), record { at = 0; name = i.Regular [] }, refl)

table_fits : (at : ℕ) (kind : Kind) (x : TableName) → table_named at kind ≡ Some x → IsTable (token at kind ∷ []) x
table_fits at (k.Regular name) x h =
    let n : record { at = at; name = name } ≡ x = cc in
    subst (IsTable (token at (k.Regular name) ∷ [])) n IsTable.regular
table_fits at _ x h = absurd cc

pub table_runs : Runs r.table IsTable
unfolding r.table
table_runs =
    one_run (λ next. table_named next.at next.kind) IsTable (λ next x h. table_fits next.at next.kind x h)
    (token 0 (k.Regular []), record { at = 0; name = [] }, refl)

numeral_fits : (at : ℕ) (kind : Kind) (x : Numeral) → numeral_of at kind ≡ Some x → IsNumeral (token at kind ∷ []) x
numeral_fits at (k.Numeral value) x h =
    let n : record { at = at; value = value } ≡ x = cc in
    subst (IsNumeral (token at (k.Numeral value) ∷ [])) n IsNumeral.numeral
numeral_fits at _ x h = absurd cc

pub numeral_runs : Runs r.numeral IsNumeral
unfolding r.numeral
numeral_runs =
    one_run (λ next. numeral_of next.at next.kind) IsNumeral (λ next x h. numeral_fits next.at next.kind x h)
    (token 0 (k.Numeral 0), record { at = 0; value = 0 }, refl)

-- an operator, with its offset
pub data IsSign : Tokens → ℕ × CompareOp → Type 0 where
  sign : {at : ℕ} {which : Terminal} {op : CompareOp} → IsOperator which op → IsSign (terminal at which ∷ []) (at, op)

operator_is : (which : Terminal) (op : CompareOp) → operator_of which ≡ Some op → IsOperator which op
operator_is t.Equal op h = let n : o.Equal ≡ op = cc in subst (IsOperator t.Equal) n IsOperator.equal
operator_is t.NotEqual op h = let n : o.NotEqual ≡ op = cc in subst (IsOperator t.NotEqual) n IsOperator.not_equal
operator_is t.Less op h = let n : o.Less ≡ op = cc in subst (IsOperator t.Less) n IsOperator.less
operator_is t.LessOrEqual op h = let n : o.LessOrEqual ≡ op = cc in subst (IsOperator t.LessOrEqual) n IsOperator.less_or_equal
operator_is t.Greater op h = let n : o.Greater ≡ op = cc in subst (IsOperator t.Greater) n IsOperator.greater
operator_is t.GreaterOrEqual op h = let n : o.GreaterOrEqual ≡ op = cc in subst (IsOperator t.GreaterOrEqual) n IsOperator.greater_or_equal
operator_is _ op h = absurd cc

sign_fits : (at : ℕ) (which : Terminal) (found : Option CompareOp) (x : ℕ × CompareOp) → operator_of which ≡ found → operator_at at found ≡ Some x → IsSign (terminal at which ∷ []) x
sign_fits at which None x f h = absurd cc
sign_fits at which (Some op) x f h =
    let n : (at, op) ≡ x = cc in
    subst (IsSign (terminal at which ∷ [])) n (sign (operator_is which op f))

operator_fits : (at : ℕ) (kind : Kind) (x : ℕ × CompareOp) → operator_at at (operator_in kind) ≡ Some x → IsSign (token at kind ∷ []) x
operator_fits at (k.Terminal which) x h = sign_fits at which (operator_of which) x refl h
operator_fits at _ x h = absurd cc

pub operator_runs : Runs r.operator IsSign
unfolding r.operator
operator_runs =
    one_run (λ next. operator_at next.at (operator_in next.kind)) IsSign (λ next x h. operator_fits next.at next.kind x h)
    (terminal 0 t.Equal, (0, o.Equal), refl)

-- ---- more of a list

module _ {A : Type 0} (separator : Terminal) (member : Parser A) (shrinks : Shrinks member) (M : Lang A) (N : Lang (List A)) (runs : Runs member M)
    (none : N [] []) (more : (at : ℕ) (u v : Tokens) (x : A) (xs : List A) → M u x → N v xs → N (terminal at separator ∷ (u ++ v)) (x ∷ xs)) where
  -- a member, and more of them
  data Both : Tokens → List A → Type 0 where
    both : {u v : Tokens} {x : A} {xs : List A} → M u x → N v xs → Both (u ++ v) (x ∷ xs)

  -- more of them behind one
  data Behind (x : A) : Tokens → List A → Type 0 where
    behind : {v : Tokens} {xs : List A} → N v xs → Behind x v (x ∷ xs)

  join_both : (u v : Tokens) (x : A) (ys : List A) → M u x → Behind x v ys → Both (u ++ v) ys
  join_both u v x ys h (behind g) = both h g

  more_both : (next : Token) (u : Tokens) (ys : List A) → is separator next.kind ≡ true → Both u ys → N (next ∷ u) ys
  more_both next u ys h (both {u = u'} {v = v} {x = x} {xs = xs} f g) =
      subst (λ (kind : Kind). N (token next.at kind ∷ (u' ++ v)) (x ∷ xs)) (sym (is_terminal separator next.kind h)) (more next.at u' v x xs f g)

  tails_step : (tokens : Tokens) → (begins separator tokens ≡ true → RunAt (tails separator member) N (member (passed tokens)).1) → RunAt (tails separator member) N tokens
  tails_step tokens h =
      branch_at separator (tails separator member) (member >>= λ x. tails separator member >>= λ xs. pure (x ∷ xs)) [] Both N
      (tails_more separator member shrinks) (tails_done separator member shrinks) none more_both tokens
      (λ begun. bind_at member (λ x. tails separator member >>= λ xs. pure (x ∷ xs)) M Behind Both join_both (λ x. ([], x ∷ [], behind none)) (passed tokens) (runs (passed tokens))
      (λ x. map_at (tails separator member) (λ xs. x ∷ xs) N (Behind x) (λ u xs f. behind f) (member (passed tokens)).1 (h begun)))

  tails_at : (n : ℕ) (tokens : Tokens) → length tokens ≤ n → RunAt (tails separator member) N tokens
  tails_at n [] h = tails_step [] (λ begun. absurd cc)
  tails_at zero (next ∷ tokens) h = absurd (omega arith)
  tails_at (suc n) (next ∷ tokens) h = tails_step (next ∷ tokens) (λ begun. tails_at n (member tokens).1 (omega (arith, shrinks tokens)))

  pub tails_runs : Runs (tails separator member) N
  tails_runs tokens = tails_at (length tokens) tokens (omega arith)

-- ---- items

pub item_runs : Runs r.item IsItem
unfolding r.item
item_runs = map_run r.column (λ name. record { expr = e.Column name }) IsColumn IsItem (λ u x h. IsItem.column h) column_runs

pub more_items_runs : Runs (tails t.Comma r.item) AreMoreItems
more_items_runs = tails_runs t.Comma r.item item_shrinks IsItem AreMoreItems item_runs AreMoreItems.none (λ at u v x xs h g. AreMoreItems.more at h g)

data ItemsBehind (item : Item) : Tokens → List Item → Type 0 where
  items_behind : {v : Tokens} {items : List Item} → AreMoreItems v items → ItemsBehind item v (item ∷ items)

join_items : (u v : Tokens) (x : Item) (y : List Item) → IsItem u x → ItemsBehind x v y → AreItems (u ++ v) y
join_items u v x y h (items_behind f) = AreItems.list h f

pub items_runs : Runs r.items AreItems
unfolding r.items
items_runs =
    bind_run r.item (λ first. tails t.Comma r.item >>= λ others. pure (first ∷ others)) IsItem ItemsBehind AreItems join_items
    (λ x. ([], x ∷ [], items_behind AreMoreItems.none)) item_runs
    (λ first. map_run (tails t.Comma r.item) (λ others. first ∷ others) AreMoreItems (ItemsBehind first) (λ u xs f. items_behind f) more_items_runs)

-- ---- conditions

data AfterColumn (left : ColumnName) : Tokens → CondTree → Type 0 where
  after_column : {v : Tokens} {which : Terminal} {op : CompareOp} {right : Numeral} (at : ℕ) → IsOperator which op → IsNumeral v right
      → AfterColumn left (terminal at which ∷ v) (c.Compare at op (e.Column left) (e.Numeral right))

data AfterSign (left : ColumnName) (x : ℕ × CompareOp) : Tokens → CondTree → Type 0 where
  after_sign : {v : Tokens} {right : Numeral} → IsNumeral v right → AfterSign left x v (c.Compare x.0 x.1 (e.Column left) (e.Numeral right))

join_column : (u v : Tokens) (x : ColumnName) (y : CondTree) → IsColumn u x → AfterColumn x v y → IsTest (u ++ v) y
join_column u v x y h (after_column at f g) = IsTest.comparison at h f g

join_sign : (left : ColumnName) (u v : Tokens) (x : ℕ × CompareOp) (y : CondTree) → IsSign u x → AfterSign left x v y → AfterColumn left (u ++ v) y
join_sign left u v x y (sign {at = at} f) (after_sign g) = after_column at f g

zero_numeral : Numeral
zero_numeral = record { at = 0; value = 0 }

pub test_runs : Runs r.one_test IsTest
unfolding r.one_test zero_numeral
test_runs =
    bind_run r.column (λ left. r.operator >>= λ x. r.numeral >>= λ right. pure (c.Compare x.0 x.1 (e.Column left) (e.Numeral right))) IsColumn AfterColumn IsTest join_column
    (λ left. (terminal 0 t.Equal ∷ token 0 (k.Numeral 0) ∷ [], c.Compare 0 o.Equal (e.Column left) (e.Numeral zero_numeral), after_column 0 IsOperator.equal IsNumeral.numeral)) column_runs
    (λ left. bind_run r.operator (λ x. r.numeral >>= λ right. pure (c.Compare x.0 x.1 (e.Column left) (e.Numeral right))) IsSign (AfterSign left) (AfterColumn left) (join_sign left)
    (λ x. (token 0 (k.Numeral 0) ∷ [], c.Compare x.0 x.1 (e.Column left) (e.Numeral zero_numeral), after_sign IsNumeral.numeral)) operator_runs
    (λ x. map_run r.numeral (λ right. c.Compare x.0 x.1 (e.Column left) (e.Numeral right)) IsNumeral (AfterSign left x) (λ u right f. after_sign f) numeral_runs))

pub more_tests_runs : Runs (tails t.And r.one_test) AreMoreTests
more_tests_runs = tails_runs t.And r.one_test test_shrinks IsTest AreMoreTests test_runs AreMoreTests.none (λ at u v x xs h g. AreMoreTests.more at h g)

data TestsBehind (test : CondTree) : Tokens → CondTree → Type 0 where
  tests_behind : {v : Tokens} {tests : List CondTree} → AreMoreTests v tests → TestsBehind test v (all_of test tests)

join_tests : (u v : Tokens) (x y : CondTree) → IsTest u x → TestsBehind x v y → IsCond (u ++ v) y
join_tests u v x y h (tests_behind f) = IsCond.all h f

pub cond_runs : Runs r.cond IsCond
unfolding r.cond
cond_runs =
    bind_run r.one_test (λ first. tails t.And r.one_test >>= λ others. pure (all_of first others)) IsTest TestsBehind IsCond join_tests
    (λ x. ([], x, tests_behind AreMoreTests.none)) test_runs
    (λ first. map_run (tails t.And r.one_test) (λ others. all_of first others) AreMoreTests (TestsBehind first) (λ u xs f. tests_behind f) more_tests_runs)

data Filtered : Tokens → Option CondTree → Type 0 where
  filtered : {u : Tokens} {cond : CondTree} → IsCond u cond → Filtered u (Some cond)

more_filter : (next : Token) (u : Tokens) (x : Option CondTree) → is t.Where next.kind ≡ true → Filtered u x → IsFilter (next ∷ u) x
more_filter next u x h (filtered {cond = cond} f) =
    subst (λ (kind : Kind). IsFilter (token next.at kind ∷ u) (Some cond)) (sym (is_terminal t.Where next.kind h)) (IsFilter.some next.at f)

pub filter_found : (tokens : Tokens) → begins t.Where tokens ≡ true → r.filter tokens ≡ (r.cond >>= λ it. pure (Some it)) (passed tokens)
unfolding r.filter
filter_found tokens h = rw h refl

pub filter_missing : (tokens : Tokens) → begins t.Where tokens ≡ false → r.filter tokens ≡ (Ok None, tokens)
unfolding r.filter
filter_missing tokens h = rw h refl

pub filter_runs : Runs r.filter IsFilter
filter_runs tokens =
    branch_at t.Where r.filter (r.cond >>= λ it. pure (Some it)) None Filtered IsFilter filter_found filter_missing IsFilter.none more_filter tokens
    (λ _. map_run r.cond (λ it. Some it) IsCond Filtered (λ u x f. filtered f) cond_runs (passed tokens))

-- ---- queries

pub data IsSelectList : Tokens → List Item → Type 0 where
  select_list : {u : Tokens} {items : List Item} (at : ℕ) → AreItems u items → IsSelectList (terminal at t.Select ∷ u) items

pub data IsFromClause : Tokens → TableName → Type 0 where
  from_clause : {u : Tokens} {table : TableName} (at : ℕ) → IsTable u table → IsFromClause (terminal at t.From ∷ u) table

join_select : (u v : Tokens) (x : ℕ) (y : List Item) → IsMark t.Select u x → AreItems v y → IsSelectList (u ++ v) y
join_select u v x y (mark {at = at}) h = select_list at h

join_from : (u v : Tokens) (x : ℕ) (y : TableName) → IsMark t.From u x → IsTable v y → IsFromClause (u ++ v) y
join_from u v x y (mark {at = at}) h = from_clause at h

an_item : Item
an_item = record { expr = e.Column (record { at = 0; name = i.Regular [] }) }

some_items : AreItems (token 0 (k.Regular []) ∷ []) (an_item ∷ [])
unfolding an_item
some_items = AreItems.list (IsItem.column IsColumn.regular) AreMoreItems.none

a_table : TableName
a_table = record { at = 0; name = [] }

some_table : IsTable (token 0 (k.Regular []) ∷ []) a_table
unfolding a_table
some_table = IsTable.regular

pub select_list_runs : Runs r.select_list IsSelectList
unfolding r.select_list
select_list_runs =
    bind_run (expect t.Select) (λ at. r.items) (IsMark t.Select) (λ at. AreItems) IsSelectList join_select
    (λ _. (token 0 (k.Regular []) ∷ [], an_item ∷ [], some_items)) (expect_runs t.Select) (λ _. items_runs)

pub from_clause_runs : Runs r.from_clause IsFromClause
unfolding r.from_clause
from_clause_runs =
    bind_run (expect t.From) (λ at. r.table) (IsMark t.From) (λ at. IsTable) IsFromClause join_from
    (λ _. (token 0 (k.Regular []) ∷ [], a_table, some_table)) (expect_runs t.From) (λ _. table_runs)

abbrev made : List Item → TableName → Option CondTree → Query
made items table filter = record { items = items; tables = table ∷ []; filter = filter }

data AfterItems (items : List Item) : Tokens → Query → Type 0 where
  after_items : {v w : Tokens} {table : TableName} {filter : Option CondTree} → IsFromClause v table → IsFilter w filter → AfterItems items (v ++ w) (made items table filter)

data AfterTable (items : List Item) (table : TableName) : Tokens → Query → Type 0 where
  after_table : {w : Tokens} {filter : Option CondTree} → IsFilter w filter → AfterTable items table w (made items table filter)

join_query : (u v : Tokens) (x : List Item) (y : Query) → IsSelectList u x → AfterItems x v y → IsQuery (u ++ v) y
join_query u v x y (select_list at h) (after_items (from_clause from_at f) g) = IsQuery.select at from_at h f g

join_table : (items : List Item) (u v : Tokens) (x : TableName) (y : Query) → IsFromClause u x → AfterTable items x v y → AfterItems items (u ++ v) y
join_table items u v x y h (after_table f) = after_items h f

pub query_runs : Runs r.query IsQuery
unfolding r.query
query_runs =
    bind_run r.select_list (λ found. r.from_clause >>= λ source. r.filter >>= λ condition. pure (made found source condition)) IsSelectList AfterItems IsQuery join_query
    (λ found. (terminal 0 t.From ∷ token 0 (k.Regular []) ∷ [], made found a_table None, after_items (from_clause 0 some_table) IsFilter.none)) select_list_runs
    (λ found. bind_run r.from_clause (λ source. r.filter >>= λ condition. pure (made found source condition)) IsFromClause (AfterTable found) (AfterItems found) (join_table found)
    (λ source. ([], made found source None, after_table IsFilter.none)) from_clause_runs
    (λ source. map_run r.filter (λ condition. made found source condition) IsFilter (AfterTable found source) (λ u x f. after_table f) filter_runs))

-- ---- a query and no more

abbrev IsEmpty : Tokens → Unit {0} → Type 0
IsEmpty tokens x = tokens ≡ []

end_runs : Runs r.end IsEmpty
unfolding r.end
end_runs [] = record { gives = refl; used = []; split = refl; again = tt; told = refl }
end_runs (next ∷ tokens) = record { gives = refl; used = []; split = refl; again = λ other. refl; told = ([], tt, refl) }

abbrev IsThat : Query → Lang Query
IsThat query tokens x = (tokens ≡ []) × (query ≡ x)

join_end : (u v : Tokens) (x y : Query) → IsQuery u x → IsThat x v y → IsQuery (u ++ v) y
join_end u v x y h f = rw (f.0, append-nil u, ← f.1) h

pub whole_runs : Runs r.whole IsQuery
unfolding r.whole
whole_runs =
    bind_run r.query (λ it. r.end >>= λ nothing. pure it) IsQuery IsThat IsQuery join_end
    (λ it. ([], it, (refl, refl))) query_runs
    (λ it. map_run r.end (λ _. it) IsEmpty (IsThat it) (λ u x f. (f, refl)) end_runs)
