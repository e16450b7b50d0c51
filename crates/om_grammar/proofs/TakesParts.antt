-- A query is read as its tokens say.
use Rattle.std.proofs.Common.{◌≡◌, ℕ, List, [], ◌∷◌, ◌++◌, Option, None, refl, append_assoc}
use Rattle.om_token.specs.declared.terminal.Terminal.TheVariants as t
use Rattle.om_token.specs.Terminals.{same}
use Rattle.om_grammar.specs.declared.tree.Query.{Query}
use Rattle.om_grammar.specs.declared.tree.Item.{Item}
use Rattle.om_grammar.specs.declared.tree.Alias.{Alias}
use Rattle.om_grammar.specs.declared.tree.TableName.{TableName}
use Rattle.om_grammar.specs.declared.tree.ColumnName.{ColumnName}
use Rattle.om_grammar.specs.declared.tree.SortKey.{SortKey}
use Rattle.om_grammar.specs.declared.cond_tree.CondTree.{CondTree}
use Rattle.om_grammar.specs.Grammar.{Tokens, terminal, IsIdentifier, IsColumn, AreListed, IsAlias, IsNaming, IsItem, IsTable, IsSortKey, IsFilter, IsBy, IsEnd, IsQuery}
use Rattle.om_grammar.specs.Reading as r
use Rattle.om_grammar.specs.Reading.{offset_of, alias_of, direction_of, naming, by, listed, closing, select_list, from_clause, sorting, whole}
use Rattle.om_grammar.specs.Parsers.{found}
use Rattle.om_grammar.proofs.Takes.{Yields, Gives, reads, gives_of, yields_then, listed_takes}
use Rattle.om_grammar.proofs.TakesNames.{EndsAlias, EndsLabel, alias_takes, table_takes, column_takes, key_takes}
use Rattle.om_grammar.proofs.TakesExpressions.{EndsExpr, expr_takes}
use Rattle.om_grammar.proofs.TakesConditions.{EndsCond, cond_takes}

-- ---- the select list

-- these tokens don't go on with an item
record EndsItem (rest : Tokens) : Type 0 where
  expr : EndsExpr rest
  alias : EndsAlias rest

naming_ends : {w : Tokens} {x : Option Alias} → IsNaming IsAlias w x → (rest : Tokens) → EndsItem rest → EndsExpr (w ++ rest)
unfolding same
naming_ends IsNaming.none rest ends = ends.expr
naming_ends (IsNaming.bare (IsAlias.alias at IsIdentifier.regular)) rest ends = record { no_dot = refl; no_scale = refl; no_sign = refl }
naming_ends (IsNaming.bare (IsAlias.alias at IsIdentifier.delimited)) rest ends = record { no_dot = refl; no_scale = refl; no_sign = refl }
naming_ends (IsNaming.«as» as_at h) rest ends = record { no_dot = refl; no_scale = refl; no_sign = refl }

item_takes : (depth : ℕ) (u : Tokens) (x : Item) → IsItem u x → (rest : Tokens) → EndsItem rest → Yields (r.item depth (u ++ rest)) x rest
unfolding r.item r.expr
item_takes depth u x (IsItem.item {u = u'} {w = w} h g) rest ends =
    rw (append_assoc u' w rest) (yields_then _ (expr_takes h depth (w ++ rest) (naming_ends g rest ends)) (yields_then _ (alias_takes g rest ends.alias) (reads refl)))

item_ends_at_comma : (at : ℕ) (rest : Tokens) → EndsItem (terminal at t.Comma ∷ rest)
unfolding same
item_ends_at_comma at rest = record { expr = record { no_dot = refl; no_scale = refl; no_sign = refl }; alias = record { no_as = refl; no_name = refl } }

item_ends_at_from : (at : ℕ) (rest : Tokens) → EndsItem (terminal at t.From ∷ rest)
unfolding same
item_ends_at_from at rest = record { expr = record { no_dot = refl; no_scale = refl; no_sign = refl }; alias = record { no_as = refl; no_name = refl } }

no_comma_at_from : (at : ℕ) (rest : Tokens) → found (offset_of t.Comma) (terminal at t.From ∷ rest) ≡ None
unfolding same
no_comma_at_from at rest = refl

select_takes : {u : Tokens} {xs : List Item} → AreListed t.Comma IsItem u xs → (depth at from_at : ℕ) (rest : Tokens)
    → Yields (select_list depth (terminal at t.Select ∷ (u ++ terminal from_at t.From ∷ rest))) xs (terminal from_at t.From ∷ rest)
unfolding select_list same
select_takes h depth at from_at rest =
    listed_takes IsItem (r.item depth) EndsItem item_ends_at_comma (item_takes depth) h (terminal from_at t.From ∷ rest) (item_ends_at_from from_at rest) (no_comma_at_from from_at rest)

-- ---- what may follow a table, a condition, a column or a key at its end

record Follows (rest : Tokens) : Type 0 where
  cond : EndsCond rest
  label : EndsLabel rest
  no_comma : found (offset_of t.Comma) rest ≡ None
  no_direction : found direction_of rest ≡ None

abbrev at_empty : Follows []
at_empty = record {
  cond = record { expr = record { no_dot = refl; no_scale = refl; no_sign = refl }; no_and = refl; no_or = refl };
  label = record { no_as = refl; no_name = refl };
  no_comma = refl;
  no_direction = refl;
}

semicolon_follows : (at : ℕ) (rest : Tokens) → Follows (terminal at t.Semicolon ∷ rest)
unfolding same
semicolon_follows at rest = record {
  cond = record { expr = record { no_dot = refl; no_scale = refl; no_sign = refl }; no_and = refl; no_or = refl };
  label = record { no_as = refl; no_name = refl };
  no_comma = refl;
  no_direction = refl;
}

order_follows : (at : ℕ) (rest : Tokens) → Follows (terminal at t.Order ∷ rest)
unfolding same
order_follows at rest = record {
  cond = record { expr = record { no_dot = refl; no_scale = refl; no_sign = refl }; no_and = refl; no_or = refl };
  label = record { no_as = refl; no_name = refl };
  no_comma = refl;
  no_direction = refl;
}

group_follows : (at : ℕ) (rest : Tokens) → Follows (terminal at t.Group ∷ rest)
unfolding same
group_follows at rest = record {
  cond = record { expr = record { no_dot = refl; no_scale = refl; no_sign = refl }; no_and = refl; no_or = refl };
  label = record { no_as = refl; no_name = refl };
  no_comma = refl;
  no_direction = refl;
}

where_follows : (at : ℕ) (rest : Tokens) → Follows (terminal at t.Where ∷ rest)
unfolding same
where_follows at rest = record {
  cond = record { expr = record { no_dot = refl; no_scale = refl; no_sign = refl }; no_and = refl; no_or = refl };
  label = record { no_as = refl; no_name = refl };
  no_comma = refl;
  no_direction = refl;
}

end_follows : {z : Tokens} → IsEnd z → Follows z
end_follows IsEnd.none = at_empty
end_follows (IsEnd.some at) = semicolon_follows at []

keys_follow : {y : Tokens} {xs : List SortKey} → IsBy t.Order IsSortKey y xs → (rest : Tokens) → Follows rest → Follows (y ++ rest)
keys_follow IsBy.none rest h = h
keys_follow (IsBy.by {u = u} at by_at g) rest h = order_follows at (terminal by_at t.By ∷ (u ++ rest))

groups_follow : {x : Tokens} {xs : List ColumnName} → IsBy t.Group IsColumn x xs → (rest : Tokens) → Follows rest → Follows (x ++ rest)
groups_follow IsBy.none rest h = h
groups_follow (IsBy.by {u = u} at by_at g) rest h = group_follows at (terminal by_at t.By ∷ (u ++ rest))

filter_follows : {w : Tokens} {x : Option CondTree} → IsFilter w x → (rest : Tokens) → Follows rest → Follows (w ++ rest)
filter_follows IsFilter.none rest h = h
filter_follows (IsFilter.some {u = u} at g) rest h = where_follows at (u ++ rest)

-- ---- which words don't stand there

no_order : {z : Tokens} → IsEnd z → found (offset_of t.Order) z ≡ None
unfolding same
no_order IsEnd.none = refl
no_order (IsEnd.some at) = refl

no_group : {y z : Tokens} {xs : List SortKey} → IsBy t.Order IsSortKey y xs → IsEnd z → found (offset_of t.Group) (y ++ z) ≡ None
unfolding same
no_group IsBy.none IsEnd.none = refl
no_group IsBy.none (IsEnd.some at) = refl
no_group (IsBy.by at by_at g) h = refl

no_where_at_keys : {y z : Tokens} {xs : List SortKey} → IsBy t.Order IsSortKey y xs → IsEnd z → found (offset_of t.Where) (y ++ z) ≡ None
unfolding same
no_where_at_keys IsBy.none IsEnd.none = refl
no_where_at_keys IsBy.none (IsEnd.some at) = refl
no_where_at_keys (IsBy.by at by_at g) h = refl

no_where : {x : Tokens} {xs : List ColumnName} → IsBy t.Group IsColumn x xs → (rest : Tokens) → found (offset_of t.Where) rest ≡ None → found (offset_of t.Where) (x ++ rest) ≡ None
unfolding same
no_where IsBy.none rest e = e
no_where (IsBy.by at by_at g) rest e = refl

-- ---- the other parts

label_ends_at_comma : (at : ℕ) (rest : Tokens) → EndsLabel (terminal at t.Comma ∷ rest)
unfolding same
label_ends_at_comma at rest = record { no_as = refl; no_name = refl }

from_takes : {v : Tokens} {xs : List TableName} → AreListed t.Comma IsTable v xs → (at : ℕ) (rest : Tokens) → Follows rest → Yields (from_clause (terminal at t.From ∷ (v ++ rest))) xs rest
unfolding from_clause same
from_takes h at rest ends = listed_takes IsTable r.table EndsLabel label_ends_at_comma (λ u x h. table_takes h) h rest ends.label ends.no_comma

filter_takes : {w : Tokens} {x : Option CondTree} → IsFilter w x → (depth : ℕ) (rest : Tokens) → Follows rest → found (offset_of t.Where) rest ≡ None → Yields (r.filter depth (w ++ rest)) x rest
unfolding r.filter same
filter_takes IsFilter.none depth rest ends e = rw e (reads refl)
filter_takes (IsFilter.some at h) depth rest ends e = yields_then _ (cond_takes h depth rest ends.cond) (reads refl)

abbrev EndsColumn : Tokens → Type 0
EndsColumn rest = found (offset_of t.Dot) rest ≡ None

abbrev EndsKey : Tokens → Type 0
EndsKey rest = found direction_of rest ≡ None

no_dot_at_comma : (at : ℕ) (rest : Tokens) → EndsColumn (terminal at t.Comma ∷ rest)
unfolding same
no_dot_at_comma at rest = refl

groups_take : {x : Tokens} {xs : List ColumnName} → IsBy t.Group IsColumn x xs → (rest : Tokens) → Follows rest → found (offset_of t.Group) rest ≡ None → Yields (by t.Group r.column (x ++ rest)) xs rest
unfolding by same
groups_take IsBy.none rest ends e = rw e (reads refl)
groups_take (IsBy.by at by_at h) rest ends e = listed_takes IsColumn r.column EndsColumn no_dot_at_comma (λ u x h. column_takes h) h rest ends.cond.expr.no_dot ends.no_comma

keys_take : {y : Tokens} {xs : List SortKey} → IsBy t.Order IsSortKey y xs → (rest : Tokens) → Follows rest → found (offset_of t.Order) rest ≡ None → Yields (by t.Order r.sort_key (y ++ rest)) xs rest
unfolding by same
keys_take IsBy.none rest ends e = rw e (reads refl)
keys_take (IsBy.by at by_at h) rest ends e = listed_takes IsSortKey r.sort_key EndsKey (λ at rest. refl) (λ u x h. key_takes h) h rest ends.no_direction ends.no_comma

closing_takes : {z : Tokens} → IsEnd z → Yields (closing z) tt []
unfolding closing same
closing_takes IsEnd.none = reads refl
closing_takes (IsEnd.some at) = reads refl

sorting_takes : {x y z : Tokens} {groups : List ColumnName} {keys : List SortKey} → IsBy t.Group IsColumn x groups → IsBy t.Order IsSortKey y keys → IsEnd z → Yields (sorting (x ++ (y ++ z))) (groups, keys) []
unfolding sorting
sorting_takes {x} {y} {z} h g k =
    yields_then _ (groups_take h (y ++ z) (keys_follow g z (end_follows k)) (no_group g k)) (yields_then _ (keys_take g z (end_follows k) (no_order k)) (yields_then _ (closing_takes k) (reads refl)))

query_takes : {w : Tokens} {x : Query} → IsQuery w x → (depth : ℕ) → Yields (whole depth w) x []
unfolding whole
query_takes (IsQuery.select {u = u} {v = v} {w = w} {x = x} {y = y} {z = z} at from_at items tables condition groups keys end) depth =
    let sorted : Follows (x ++ (y ++ z)) = groups_follow groups (y ++ z) (keys_follow keys z (end_follows end)) in
    yields_then _ (select_takes items depth at from_at (v ++ (w ++ (x ++ (y ++ z)))))
    (yields_then _ (from_takes tables from_at (w ++ (x ++ (y ++ z))) (filter_follows condition (x ++ (y ++ z)) sorted))
    (yields_then _ (filter_takes condition depth (x ++ (y ++ z)) sorted (no_where groups (y ++ z) (no_where_at_keys keys end)))
    (yields_then _ (sorting_takes groups keys end) (reads refl))))

-- a query is read, unless the parser wants more depth
pub whole_takes : {w : Tokens} {x : Query} → IsQuery w x → (depth : ℕ) → Gives (whole depth) w x []
whole_takes {w} h depth = gives_of (whole depth) w (query_takes h depth)
