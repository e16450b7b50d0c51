-- Where the parsers of the parts of a query and of a whole query stop.
use Rattle.std.proofs.Common.{◌≡◌, ℕ, suc, ◌+◌, ◌≤◌, List, [], ◌∷◌, ◌++◌, length, Option, Some, None, refl, sym, subst, arith}
use Rattle.om_token.specs.declared.token.Kind.TheVariants as k
use Rattle.om_token.specs.declared.token.Token.{Token}
use Rattle.om_token.specs.declared.terminal.Terminal.{Terminal}
use Rattle.om_token.specs.declared.terminal.Terminal.TheVariants as t
use Rattle.om_grammar.specs.declared.tree.Query.{Query}
use Rattle.om_grammar.specs.declared.tree.Item.{Item}
use Rattle.om_grammar.specs.declared.tree.Alias.{Alias}
use Rattle.om_grammar.specs.declared.tree.TableName.{TableName}
use Rattle.om_grammar.specs.declared.tree.Label.{Label}
use Rattle.om_grammar.specs.declared.tree.ColumnName.{ColumnName}
use Rattle.om_grammar.specs.declared.tree.Identifier.TheVariants as i
use Rattle.om_grammar.specs.declared.tree.SortKey.{SortKey}
use Rattle.om_grammar.specs.declared.tree.Key.{Key}
use Rattle.om_grammar.specs.declared.tree.Key.TheVariants as keys
use Rattle.om_grammar.specs.declared.tree.Direction.{Direction}
use Rattle.om_grammar.specs.declared.tree.Direction.TheVariants as direction
use Rattle.om_grammar.specs.declared.expr_tree.ExprTree.TheVariants as trees
use Rattle.om_grammar.specs.declared.cond_tree.CondTree.{CondTree}
use Rattle.om_grammar.specs.declared.aggregates.Aggregates.TheVariants as aggregates
use Rattle.om_grammar.specs.Grammar as grammar
use Rattle.om_grammar.specs.Grammar.{Tokens, Lang, token, terminal, AreMore, AreListed, IsColumn, IsExpr, IsCond, IsAlias, IsLabel, IsNaming, IsItem, IsTable, IsDirection, IsSortKey, IsFilter, IsBy, IsEnd, IsQuery}
use Rattle.om_grammar.specs.Parsers.{Parser, ◌>>=◌, pure, one, branch}
use Rattle.om_grammar.specs.Reading as r
use Rattle.om_grammar.specs.Reading.{offset_of, label_of, alias_of, key_of, direction_of, expect, plain_column, qualified_column, at_end, made}
use Rattle.om_grammar.proofs.Runs.{Runs, pure_run, bind_run, then_run, seen_run, map_run, wider_run, one_run, paid_run, Then, Seen, Goes}
use Rattle.om_grammar.proofs.Marks.{IsMark, mark, mark_seen, expect_runs, IsRegular, is_regular, regular_seen, label_runs, IsNamed, is_named, named_seen, alias_runs, IsKeyMark, key_mark, key_runs, IsDirectionMark, direction_seen}
use Rattle.om_grammar.proofs.ReadsExpressions.{some_expr}
use Rattle.om_grammar.proofs.ReadsFactors.{expr_runs}
use Rattle.om_grammar.proofs.ReadsConditions.{listed_runs, cond_runs}

-- ---- names

module _ {A : Type 0} (depth : ℕ) (read : Token → Option A) (M : Lang A) (fits : (next : Token) (x : A) → read next ≡ Some x → M (next ∷ []) x) (some : (next : Token) × (x : A) × (read next ≡ Some x)) where
  as_end : (next : Token) (at : ℕ) (u : Tokens) (x : A) → IsMark t.As (next ∷ []) at → M u x → IsNaming M (next ∷ u) (Some x)
  as_end next at u x (mark _) h = IsNaming.«as» at h

  pub naming_runs : Runs depth (r.naming read) (IsNaming M)
  unfolding r.naming
  naming_runs =
      seen_run depth depth (offset_of t.As) (λ _. one read >>= λ x. pure (Some x)) (branch read (λ x. pure (Some x)) (pure None)) (IsNaming M) (omega arith)
      (λ at. map_run depth (one read) (λ x. Some x) M (Seen (offset_of t.As) (IsNaming M) at) (λ u x h next e. as_end next at u x (mark_seen t.As next at e) h) (one_run depth read M fits some))
      (seen_run depth depth read (λ x. pure (Some x)) (pure None) (IsNaming M) (omega arith)
      (λ x. pure_run depth (Some x) (Seen read (IsNaming M) x) (λ next e. IsNaming.bare (fits next x e)))
      (pure_run depth None (IsNaming M) IsNaming.none))

alias_fits : (next : Token) (x : Alias) → alias_of next ≡ Some x → IsAlias (next ∷ []) x
alias_fits next x e = go (next ∷ []) x (named_seen next x e)
  where
    go : (u : Tokens) (x : Alias) → IsNamed u x → IsAlias u x
    go u x (is_named at h) = IsAlias.alias at h

label_fits : (next : Token) (x : Label) → label_of next ≡ Some x → IsLabel (next ∷ []) x
label_fits next x e = go (next ∷ []) x (regular_seen next x e)
  where
    go : (u : Tokens) (x : Label) → IsRegular u x → IsLabel u x
    go u x (is_regular at name) = IsLabel.label at

alias_naming_runs : (depth : ℕ) → Runs depth (r.naming alias_of) (IsNaming IsAlias)
alias_naming_runs depth = naming_runs depth alias_of IsAlias alias_fits (token 0 (k.Regular []), record { at = 0; name = i.Regular [] }, refl)

label_naming_runs : (depth : ℕ) → Runs depth (r.naming label_of) (IsNaming IsLabel)
label_naming_runs depth = naming_runs depth label_of IsLabel label_fits (token 0 (k.Regular []), record { at = 0; name = [] }, refl)

-- ---- items and tables

pub item_runs : (depth : ℕ) → Runs depth (r.item depth) IsItem
unfolding r.item
item_runs depth =
    then_run depth (r.expr depth aggregates.Allowed) (λ x. r.naming alias_of >>= λ name. pure (record { expr = x; alias = name })) (IsExpr aggregates.Allowed) IsItem
    (λ x. ([], record { expr = x; alias = None }, λ u h. IsItem.item h IsNaming.none)) (expr_runs depth aggregates.Allowed)
    (λ x. map_run depth (r.naming alias_of) (λ name. record { expr = x; alias = name }) (IsNaming IsAlias) (Then (IsExpr aggregates.Allowed) IsItem x) (λ w name h u g. IsItem.item g h) (alias_naming_runs depth))

abbrev table_of : Label → Option Label → TableName
table_of name variable = record { at = name.at; name = name.name; variable = variable }

table_end : (name : Label) (variable : Option Label) (u w : Tokens) → IsRegular u name → IsNaming IsLabel w variable → IsTable (u ++ w) (table_of name variable)
table_end name variable u w (is_regular at _) h = IsTable.table at h

pub table_runs : (depth : ℕ) → Runs depth r.table IsTable
unfolding r.table
table_runs depth =
    then_run depth (one label_of) (λ name. r.naming label_of >>= λ variable. pure (table_of name variable)) IsRegular IsTable
    (λ name. ([], table_of name None, λ u h. table_end name None u [] h IsNaming.none)) (label_runs depth)
    (λ name. map_run depth (r.naming label_of) (table_of name) (IsNaming IsLabel) (Then IsRegular IsTable name) (λ w variable h u g. table_end name variable u w g h) (label_naming_runs depth))

-- ---- columns and keys

plain_end : (u : Tokens) (x : Alias) → IsNamed u x → IsColumn u (plain_column x)
plain_end u x (is_named at h) = IsColumn.alone at h

abbrev alone_of : Label → ColumnName
alone_of first = record { qualifier = None; at = first.at; name = i.Regular first.name }

qualified_end : (next dot : Token) (at : ℕ) (first : Label) (u : Tokens) (x : Alias) → IsRegular (next ∷ []) first → IsMark t.Dot (dot ∷ []) at → IsNamed u x → IsColumn (next ∷ dot ∷ u) (qualified_column first x)
qualified_end next dot at first u x (is_regular variable_at variable) (mark dot_at) (is_named name_at h) = IsColumn.qualified variable_at dot_at name_at h

alone_end : (next : Token) (first : Label) → IsRegular (next ∷ []) first → IsColumn (next ∷ []) (alone_of first)
alone_end next first (is_regular at name) = IsColumn.alone at grammar.IsIdentifier.regular

column_named_runs : (depth : ℕ) (first : Label) → Runs depth (r.column_named first) (Seen label_of IsColumn first)
unfolding r.column_named
column_named_runs depth first =
    seen_run depth depth (offset_of t.Dot) (λ _. one alias_of >>= λ name. pure (qualified_column first name)) (pure (alone_of first)) (Seen label_of IsColumn first) (omega arith)
    (λ at. map_run depth (one alias_of) (qualified_column first) IsNamed (Seen (offset_of t.Dot) (Seen label_of IsColumn first) at)
    (λ u x h dot d next e. qualified_end next dot at first u x (regular_seen next first e) (mark_seen t.Dot dot at d) h) (alias_runs depth))
    (pure_run depth (alone_of first) (Seen label_of IsColumn first) (λ next e. alone_end next first (regular_seen next first e)))

pub column_runs : (depth : ℕ) → Runs depth r.column IsColumn
unfolding r.column
column_runs depth =
    seen_run depth depth label_of r.column_named (one alias_of >>= λ name. pure (plain_column name)) IsColumn (omega arith) (column_named_runs depth)
    (map_run depth (one alias_of) plain_column IsNamed IsColumn plain_end (alias_runs depth))

abbrev sort_key_of : ℕ × Key → Direction → SortKey
sort_key_of x d = record { at = x.0; key = x.1; direction = d }

key_end : (x : ℕ × Key) (d : Direction) (u w : Tokens) → IsKeyMark u x → IsDirection w d → IsSortKey (u ++ w) (sort_key_of x d)
key_end x d u w (key_mark at h) g = IsSortKey.sort_key at h g

direction_end : (next : Token) (d : Direction) → IsDirectionMark (next ∷ []) d → IsDirection (next ∷ []) d
direction_end next d (IsDirectionMark.ascending at) = IsDirection.ascending at
direction_end next d (IsDirectionMark.descending at) = IsDirection.descending at

direction_runs : (depth : ℕ) → Runs depth (branch direction_of pure (pure direction.Ascending)) IsDirection
direction_runs depth =
    seen_run depth depth direction_of pure (pure direction.Ascending) IsDirection (omega arith)
    (λ d. pure_run depth d (Seen direction_of IsDirection d) (λ next e. direction_end next d (direction_seen next d e)))
    (pure_run depth direction.Ascending IsDirection IsDirection.none)

pub sort_key_runs : (depth : ℕ) → Runs depth r.sort_key IsSortKey
unfolding r.sort_key
sort_key_runs depth =
    then_run depth (one key_of) (λ x. branch direction_of pure (pure direction.Ascending) >>= λ d. pure (sort_key_of x d)) IsKeyMark IsSortKey
    (λ x. ([], sort_key_of x direction.Ascending, λ u h. key_end x direction.Ascending u [] h IsDirection.none)) (key_runs depth)
    (λ x. map_run depth (branch direction_of pure (pure direction.Ascending)) (sort_key_of x) IsDirection (Then IsKeyMark IsSortKey x) (λ w d h u g. key_end x d u w g h) (direction_runs depth))

-- ---- clauses

where_end : (next : Token) (at : ℕ) (u : Tokens) (x : CondTree) → IsMark t.Where (next ∷ []) at → IsCond u x → IsFilter (next ∷ u) (Some x)
where_end next at u x (mark _) h = IsFilter.some at h

pub filter_runs : (depth : ℕ) → Runs depth (r.filter depth) IsFilter
unfolding r.filter
filter_runs depth =
    seen_run depth depth (offset_of t.Where) (λ _. r.cond depth >>= λ x. pure (Some x)) (pure None) IsFilter (omega arith)
    (λ at. map_run depth (r.cond depth) (λ x. Some x) IsCond (Seen (offset_of t.Where) IsFilter at) (λ u x h next e. where_end next at u x (mark_seen t.Where next at e) h) (cond_runs depth))
    (pure_run depth None IsFilter IsFilter.none)

module _ {A : Type 0} (depth : ℕ) (word : Terminal) (member : Parser A) (M : Lang A) (some : Goes M) (runs : Runs depth member M) where
  by_end : (next : Token) (at : ℕ) (v u : Tokens) (by_at : ℕ) (xs : List A) → IsMark word (next ∷ []) at → IsMark t.By v by_at → AreListed t.Comma M u xs → IsBy word M (next ∷ (v ++ u)) xs
  by_end next at v u by_at xs (mark _) (mark _) h = IsBy.by at by_at h

  pub by_runs : Runs depth (r.by word member) (IsBy word M)
  unfolding r.by
  by_runs =
      seen_run depth depth (offset_of word) (λ _. expect t.By >>= λ _. r.listed member) (pure []) (IsBy word M) (omega arith)
      (λ at. then_run depth (expect t.By) (λ _. r.listed member) (IsMark t.By) (Seen (offset_of word) (IsBy word M) at)
      (λ by_at. (some.0 ++ [], some.1 ∷ [], λ v m next e. by_end next at v (some.0 ++ []) by_at (some.1 ∷ []) (mark_seen word next at e) m (AreListed.list some.2 AreMore.none))) (expect_runs depth t.By)
      (λ by_at. wider_run depth depth (r.listed member) (AreListed t.Comma M) (Then (IsMark t.By) (Seen (offset_of word) (IsBy word M) at) by_at) (omega arith)
      (λ u xs h v m next e. by_end next at v u by_at xs (mark_seen word next at e) m h) (listed_runs depth member M runs)))
      (pure_run depth [] (IsBy word M) IsBy.none)

abbrev IsNone : Lang (Unit {0})
IsNone tokens x = tokens ≡ []

at_end_runs : (depth : ℕ) → Runs depth at_end IsNone
at_end_runs depth [] = record { gives = refl; used = []; split = refl; again = tt; told = refl }
at_end_runs depth (next ∷ tokens) = record { gives = refl; used = []; split = refl; again = λ other. refl; told = ([], tt, refl) }

abbrev IsClosing : Lang (Unit {0})
IsClosing tokens x = IsEnd tokens

semicolon_end : (next : Token) (at : ℕ) (u : Tokens) → IsMark t.Semicolon (next ∷ []) at → u ≡ [] → IsEnd (next ∷ u)
semicolon_end next at u (mark _) e = subst (λ (l : Tokens). IsEnd (terminal at t.Semicolon ∷ l)) (sym e) (IsEnd.some at)

closing_runs : (depth : ℕ) → Runs depth r.closing IsClosing
unfolding r.closing
closing_runs depth =
    seen_run depth depth (offset_of t.Semicolon) (λ _. at_end) at_end IsClosing (omega arith)
    (λ at. wider_run depth depth at_end IsNone (Seen (offset_of t.Semicolon) IsClosing at) (omega arith) (λ u x h next e. semicolon_end next at u (mark_seen t.Semicolon next at e) h) (at_end_runs depth))
    (wider_run depth depth at_end IsNone IsClosing (omega arith) (λ u x h. subst IsEnd (sym h) IsEnd.none) (at_end_runs depth))

-- ---- queries

data IsSelect : Tokens → List Item → Type 0 where
  select_list : {u : Tokens} {items : List Item} (at : ℕ) → AreListed t.Comma IsItem u items → IsSelect (terminal at t.Select ∷ u) items

data IsFrom : Tokens → List TableName → Type 0 where
  from_clause : {u : Tokens} {tables : List TableName} (at : ℕ) → AreListed t.Comma IsTable u tables → IsFrom (terminal at t.From ∷ u) tables

data IsSorting : Tokens → List ColumnName × List SortKey → Type 0 where
  sorting : {x y z : Tokens} {groups : List ColumnName} {keys : List SortKey} → IsBy t.Group IsColumn x groups → IsBy t.Order IsSortKey y keys → IsEnd z → IsSorting (x ++ (y ++ z)) (groups, keys)

an_item : Item
an_item = record { expr = trees.Null 0; alias = None }

some_item : IsItem (terminal 0 t.Null ∷ []) an_item
unfolding an_item
some_item = IsItem.item (some_expr aggregates.Allowed) IsNaming.none

a_table : TableName
a_table = record { at = 0; name = []; variable = None }

some_table : IsTable (token 0 (k.Regular []) ∷ []) a_table
unfolding a_table
some_table = IsTable.table 0 IsNaming.none

a_column : ColumnName
a_column = record { qualifier = None; at = 0; name = i.Regular [] }

some_column : IsColumn (token 0 (k.Regular []) ∷ []) a_column
unfolding a_column
some_column = IsColumn.alone 0 grammar.IsIdentifier.regular

a_key : SortKey
a_key = record { at = 0; key = keys.Position 0; direction = direction.Ascending }

some_key : IsSortKey (token 0 (k.Numeral 0) ∷ []) a_key
unfolding a_key
some_key = IsSortKey.sort_key 0 grammar.IsKey.position IsDirection.none

select_join : (u w : Tokens) (x : ℕ) (y : List Item) → IsMark t.Select u x → AreListed t.Comma IsItem w y → IsSelect (u ++ w) y
select_join u w x y (mark at) h = select_list at h

-- SELECT pays for the depth of the items
select_runs : (depth : ℕ) → Runs (suc depth) (r.select_list depth) IsSelect
unfolding r.select_list
select_runs depth =
    paid_run (suc depth) depth (expect t.Select) (λ _. r.listed (r.item depth)) (IsMark t.Select) (λ _. AreListed t.Comma IsItem) IsSelect paid select_join
    (λ _. (terminal 0 t.Null ∷ [], an_item ∷ [], AreListed.list some_item AreMore.none)) (expect_runs (suc depth) t.Select) (λ _. listed_runs depth (r.item depth) IsItem (item_runs depth))
  where
    paid : (u : Tokens) (x : ℕ) → IsMark t.Select u x → suc depth ≤ depth + length u
    paid u x (mark at) = omega arith

from_join : (u w : Tokens) (x : ℕ) (y : List TableName) → IsMark t.From u x → AreListed t.Comma IsTable w y → IsFrom (u ++ w) y
from_join u w x y (mark at) h = from_clause at h

from_runs : (depth : ℕ) → Runs depth r.from_clause IsFrom
unfolding r.from_clause
from_runs depth =
    bind_run depth (expect t.From) (λ _. r.listed r.table) (IsMark t.From) (λ _. AreListed t.Comma IsTable) IsFrom from_join
    (λ _. (token 0 (k.Regular []) ∷ [], a_table ∷ [], AreListed.list some_table AreMore.none)) (expect_runs depth t.From) (λ _. listed_runs depth r.table IsTable (table_runs depth))

sorting_runs : (depth : ℕ) → Runs depth r.sorting IsSorting
unfolding r.sorting
sorting_runs depth =
    then_run depth (r.by t.Group r.column) (λ groups. r.by t.Order r.sort_key >>= λ keys. r.closing >>= λ _. pure (groups, keys)) (IsBy t.Group IsColumn) IsSorting
    (λ groups. ([], (groups, []), λ x h. sorting h IsBy.none IsEnd.none))
    (by_runs depth t.Group r.column IsColumn (token 0 (k.Regular []) ∷ [], a_column, some_column) (column_runs depth))
    (λ groups. then_run depth (r.by t.Order r.sort_key) (λ keys. r.closing >>= λ _. pure (groups, keys)) (IsBy t.Order IsSortKey) (Then (IsBy t.Group IsColumn) IsSorting groups)
    (λ keys. ([], (groups, keys), λ y g x h. sorting h g IsEnd.none))
    (by_runs depth t.Order r.sort_key IsSortKey (token 0 (k.Numeral 0) ∷ [], a_key, some_key) (sort_key_runs depth))
    (λ keys. map_run depth r.closing (λ _. (groups, keys)) IsClosing (Then (IsBy t.Order IsSortKey) (Then (IsBy t.Group IsColumn) IsSorting groups) keys) (λ z _ e y g x h. sorting h g e) (closing_runs depth)))

select_end : (items : List Item) (tables : List TableName) (condition : Option CondTree) (sorts : List ColumnName × List SortKey) (u v w z : Tokens)
    → IsSelect u items → IsFrom v tables → IsFilter w condition → IsSorting z sorts → IsQuery (u ++ (v ++ (w ++ z))) (made items tables condition sorts)
select_end items tables condition sorts u v w z (select_list at h) (from_clause from_at g) f (sorting a b e) = IsQuery.select at from_at h g f a b e

no_sorting : IsSorting [] ([], [])
no_sorting = sorting IsBy.none IsBy.none IsEnd.none

some_from : IsFrom (terminal 0 t.From ∷ token 0 (k.Regular []) ∷ []) (a_table ∷ [])
some_from = from_clause 0 (AreListed.list some_table AreMore.none)

select_long : (u : Tokens) (items : List Item) → IsSelect u items → 1 ≤ length u
select_long u items (select_list at h) = omega arith

abbrev AfterItems : List Item → Lang Query
AfterItems = Then IsSelect IsQuery

abbrev AfterTables : List Item → List TableName → Lang Query
AfterTables items = Then IsFrom (AfterItems items)

abbrev AfterFilter : List Item → List TableName → Option CondTree → Lang Query
AfterFilter items tables = Then IsFilter (AfterTables items tables)

sorts_runs : (depth : ℕ) (items : List Item) (tables : List TableName) (condition : Option CondTree) → Runs depth (r.sorting >>= λ sorts. pure (made items tables condition sorts)) (AfterFilter items tables condition)
sorts_runs depth items tables condition =
    map_run depth r.sorting (made items tables condition) IsSorting (AfterFilter items tables condition) (λ z sorts s w f v g u h. select_end items tables condition sorts u v w z h g f s) (sorting_runs depth)

tables_runs : (depth : ℕ) (items : List Item) (tables : List TableName) → Runs depth (r.filter depth >>= λ condition. r.sorting >>= λ sorts. pure (made items tables condition sorts)) (AfterTables items tables)
tables_runs depth items tables =
    then_run depth (r.filter depth) (λ condition. r.sorting >>= λ sorts. pure (made items tables condition sorts)) IsFilter (AfterTables items tables)
    (λ condition. ([], made items tables condition ([], []), λ w f v g u h. select_end items tables condition ([], []) u v w [] h g f no_sorting)) (filter_runs depth)
    (λ condition. sorts_runs depth items tables condition)

items_runs : (depth : ℕ) (items : List Item) → Runs depth (r.from_clause >>= λ tables. r.filter depth >>= λ condition. r.sorting >>= λ sorts. pure (made items tables condition sorts)) (AfterItems items)
items_runs depth items =
    then_run depth r.from_clause (λ tables. r.filter depth >>= λ condition. r.sorting >>= λ sorts. pure (made items tables condition sorts)) IsFrom (AfterItems items)
    (λ tables. ([], made items tables None ([], []), λ v g u h. select_end items tables None ([], []) u v [] [] h g IsFilter.none no_sorting)) (from_runs depth)
    (λ tables. tables_runs depth items tables)

pub whole_runs : (depth : ℕ) → Runs (suc depth) (r.whole depth) IsQuery
unfolding r.whole
whole_runs depth =
    paid_run (suc depth) depth (r.select_list depth) (λ items. r.from_clause >>= λ tables. r.filter depth >>= λ condition. r.sorting >>= λ sorts. pure (made items tables condition sorts))
    IsSelect AfterItems IsQuery (λ u items h. omega (arith, select_long u items h)) (λ u v items y h f. f u h)
    (λ items. (
      terminal 0 t.From ∷ token 0 (k.Regular []) ∷ [],
      made items (a_table ∷ []) None ([], []),
      λ u h. select_end items (a_table ∷ []) None ([], []) u (terminal 0 t.From ∷ token 0 (k.Regular []) ∷ []) [] [] h some_from IsFilter.none no_sorting,
    ))
    (select_runs depth) (items_runs depth)
