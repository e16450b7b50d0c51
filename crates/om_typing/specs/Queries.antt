-- What is wrong with a query: SQL-92, sections 6.3, 7.4 to 7.9 and 13.1, as far as the query language has them.
use Rattle.std.specs.Prelude.{ℕ, suc, ◌+◌, Bool, true, false, not, ◌&&◌, ◌||◌, nat_eq, nat_lt, List, [], ◌∷◌, ◌++◌, length, codes, Option, Some, None, if◌then◌else◌}
use Rattle.std.specs.Fmt.{decimal}
use Rattle.std.specs.List.{flat_map, filter_map, list_any}
use Rattle.std.specs.Option.{option_map_or}
use Rattle.std.specs.Str.{bytes_eq, str_eq_ignore_ascii_case}
use Rattle.om_grammar.specs.declared.cond_tree.CondTree.{CondTree}
use Rattle.om_grammar.specs.declared.cond_tree.CondTree.TheFolds.{fold-CondTree}
use Rattle.om_grammar.specs.declared.cond_tree.CondTree.TheOpen.{CondTree-F}
use Rattle.om_grammar.specs.declared.cond_tree.Predicate.{Predicate}
use Rattle.om_grammar.specs.declared.cond_tree.Predicate.TheVariants as p
use Rattle.om_grammar.specs.declared.expr_tree.ExprTree.{ExprTree}
use Rattle.om_grammar.specs.declared.expr_tree.ExprTree.TheFolds.{fold-ExprTree}
use Rattle.om_grammar.specs.declared.expr_tree.ExprTree.TheOpen.{ExprTree-F, Addend-F, Factor-F}
use Rattle.om_grammar.specs.declared.expr_tree.ExprTree.TheVariants as e
use Rattle.om_grammar.specs.declared.tree.ColumnName.{ColumnName}
use Rattle.om_grammar.specs.declared.tree.Identifier.{Identifier}
use Rattle.om_grammar.specs.declared.tree.Identifier.TheVariants as i
use Rattle.om_grammar.specs.declared.tree.Item.{Item}
use Rattle.om_grammar.specs.declared.tree.Key.{Key}
use Rattle.om_grammar.specs.declared.tree.Key.TheVariants as key
use Rattle.om_grammar.specs.declared.tree.Query.{Query}
use Rattle.om_grammar.specs.declared.tree.SortKey.{SortKey}
use Rattle.om_grammar.specs.declared.tree.TableName.{TableName}
use Rattle.om_typing.specs.Columns.{is_relation}
use Rattle.om_typing.specs.Conditions.{condition_mistakes}
use Rattle.om_typing.specs.Judging.{judged, column_judged}
use Rattle.om_typing.specs.Mistakes.{mistake_if}
use Rattle.om_typing.specs.Names.{Scope, Variables, variable_name, place_of}
use Rattle.om_typing.specs.declared.mistake.Mistake.{Mistake}
use Rattle.om_typing.specs.declared.mistake.Rule.TheVariants as rule
use Rattle.om_typing.specs.declared.naming.Heading.{Heading}
use Rattle.om_typing.specs.declared.scope.Grouped.{Grouped}

-- ---- FROM

-- where a range variable is named: by its own name, or by its table's
abbrev pub variable_at : TableName → ℕ
variable_at table = option_map_or (λ label. label.at) table.variable table.at

abbrev pub has_same_variable : TableName → TableName → Bool
has_same_variable one other = str_eq_ignore_ascii_case (variable_name one) (variable_name other)

-- of a table behind others
abbrev pub table_mistakes : List TableName → TableName → List Mistake
table_mistakes before table =
    mistake_if (not (is_relation table.name)) table.at rule.NoTable
    ++ (mistake_if (list_any (λ one. has_same_variable one table) before) (variable_at table) rule.Ambiguous
    ++ mistake_if (nat_eq (length before) 4) table.at rule.TooManyTables)

-- of tables behind others
abbrev pub tables_mistakes : List TableName → List TableName → List Mistake
tables_mistakes before [] = []
tables_mistakes before (table ∷ tables) = table_mistakes before table ++ tables_mistakes (before ++ table ∷ []) tables

-- ---- GROUP BY and items

-- the columns of GROUP BY
unfoldable pub groups_of : Variables → Query → List Grouped
groups_of catalog query = filter_map (place_of catalog query.tables) query.groups

-- what the names of a query are resolved in
abbrev pub scope_of : Variables → Query → Scope
scope_of catalog query = record { catalog = catalog; tables = query.tables; groups = groups_of catalog query }

abbrev pub aggregate_step : ExprTree-F Bool Bool Bool → Bool
aggregate_step (ExprTree-F.Numeral numeral) = false
aggregate_step (ExprTree-F.Text at said) = false
aggregate_step (ExprTree-F.Null at) = false
aggregate_step (ExprTree-F.Column column) = false
aggregate_step (ExprTree-F.Sum first rest) = first || list_any (λ one. one) rest
aggregate_step (ExprTree-F.Product first rest) = first || list_any (λ one. one) rest
aggregate_step (ExprTree-F.Sign at sign expr) = expr
aggregate_step (ExprTree-F.Signed at expr) = expr
aggregate_step (ExprTree-F.Bits at expr high low) = expr
aggregate_step (ExprTree-F.Memory qualifier at width address) = address
aggregate_step (ExprTree-F.CountRows at) = true
aggregate_step (ExprTree-F.Aggregate at function expr) = true

abbrev pub in_addend : Addend-F Bool Bool Bool → Bool
in_addend addend = addend.term

abbrev pub in_factor : Factor-F Bool Bool Bool → Bool
in_factor factor = factor.factor

-- an aggregate stands in an expression
unfoldable pub has_aggregate : ExprTree → Bool
has_aggregate = fold-ExprTree Bool Bool Bool aggregate_step in_addend in_factor

abbrev pub predicate_has_aggregate : Predicate → Bool
predicate_has_aggregate (p.Compare at op left right) = has_aggregate left || has_aggregate right
predicate_has_aggregate (p.Between at polarity what low high) = has_aggregate what || (has_aggregate low || has_aggregate high)
predicate_has_aggregate (p.In at polarity what list) = has_aggregate what || list_any has_aggregate list
predicate_has_aggregate (p.IsNull at polarity what) = has_aggregate what

abbrev pub condition_aggregate_step : CondTree-F Bool → Bool
condition_aggregate_step (CondTree-F.Predicate predicate) = predicate_has_aggregate predicate
condition_aggregate_step (CondTree-F.Not at cond) = cond
condition_aggregate_step (CondTree-F.All conds) = list_any (λ one. one) conds
condition_aggregate_step (CondTree-F.Any conds) = list_any (λ one. one) conds

-- an aggregate stands in a condition
unfoldable pub condition_has_aggregate : CondTree → Bool
condition_has_aggregate = fold-CondTree Bool condition_aggregate_step

abbrev pub filter_has_aggregate : Option CondTree → Bool
filter_has_aggregate None = false
filter_has_aggregate (Some cond) = condition_has_aggregate cond

-- its rows are grouped: it has GROUP BY or an aggregate
abbrev pub is_folded : Query → Bool
is_folded query = nat_lt 0 (length query.groups) || list_any (λ item. has_aggregate item.expr) query.items

abbrev pub group_mistakes : Scope → ColumnName → List Mistake
group_mistakes scope column = (column_judged scope false column).mistakes

abbrev pub item_mistakes : Scope → Bool → Item → List Mistake
item_mistakes scope must_group item = (judged scope item.expr must_group).mistakes

abbrev pub filter_mistakes : Scope → Option CondTree → List Mistake
filter_mistakes scope None = []
filter_mistakes scope (Some cond) = condition_mistakes scope cond

-- ---- the names of the result's columns

-- what an identifier says
abbrev pub said : Identifier → List ℕ
said (i.Regular name) = name
said (i.Delimited name) = name

abbrev pub is_delimited : Identifier → Bool
is_delimited (i.Regular name) = false
is_delimited (i.Delimited name) = true

-- the identifier of the column that an expression is
unfoldable pub own_identifier : ExprTree → Option Identifier
own_identifier (e.Column column) = Some column.name
own_identifier _ = None

-- the identifier that names an item's column: the one that it is given, or else that of the column that it is
abbrev pub identifier_of : Item → Option Identifier
identifier_of item = option_map_or (λ alias. Some alias.name) item.alias (own_identifier item.expr)

-- the name of the column of the item at a position, from 1: what its identifier says, or its position behind `col`
unfoldable pub column_name : ℕ → Item → List ℕ
column_name position item = option_map_or said (identifier_of item) (codes "col" ++ decimal position)

abbrev pub is_delimited_name : Item → Bool
is_delimited_name item = option_map_or is_delimited (identifier_of item) false

-- what stands above the column of the item at a position
abbrev pub heading_of : ℕ → Item → Heading
heading_of position item = record { name = column_name position item; is_delimited = is_delimited_name item }

-- the headings of items, the first of which is at a position
abbrev pub headings_from : ℕ → List Item → List Heading
headings_from position [] = []
headings_from position (item ∷ items) = heading_of position item ∷ headings_from (position + 1) items

-- ---- ORDER BY

-- a key means the column at a position with a heading: by the position; by its name, in any case unless that is delimited; or by the bytes of its name
abbrev pub fits : Key → ℕ → Heading → Bool
fits (key.Position number) position heading = nat_eq number position
fits (key.Named (i.Regular name)) position heading = not heading.is_delimited && str_eq_ignore_ascii_case name heading.name
fits (key.Named (i.Delimited name)) position heading = bytes_eq name heading.name

-- of columns, the first of which is at a position, the number of those that a key means
abbrev pub fitting : Key → ℕ → List Heading → ℕ
fitting key position [] = 0
fitting key position (heading ∷ headings) = if fits key position heading then suc (fitting key (position + 1) headings) else fitting key (position + 1) headings

abbrev pub key_mistakes : List Heading → SortKey → List Mistake
key_mistakes headings key = mistake_if (not (nat_eq (fitting key.key 1 headings) 1)) key.at rule.Position

-- ---- queries

-- all mistakes of a query
unfoldable pub query_mistakes : Variables → Query → List Mistake
query_mistakes catalog query =
    tables_mistakes [] query.tables
    ++ (flat_map (group_mistakes (scope_of catalog query)) query.groups
    ++ (flat_map (item_mistakes (scope_of catalog query) (is_folded query)) query.items
    ++ (filter_mistakes (scope_of catalog query) query.filter
    ++ flat_map (key_mistakes (headings_from 1 query.items)) query.keys)))

-- it has one range variable, no groups, no aggregates and no order
abbrev pub is_plain : Query → Bool
is_plain query = nat_eq (length query.tables) 1 && (not (is_folded query) && (not (filter_has_aggregate query.filter) && nat_eq (length query.keys) 0))
