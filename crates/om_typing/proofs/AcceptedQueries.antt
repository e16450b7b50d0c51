-- A query that is typed is accepted by the kinds of the columns.
use Rattle.std.proofs.Common.{◌≡◌, ℕ, ◌+◌, Bool, true, false, not, ◌&&◌, nat_eq, nat_lt, List, [], ◌∷◌, length, Option, Some, None, Ok, All, refl, sym, ap, subst, ◌∙◌, arith}
use Rattle.std.specs.List.{flat_map, list_any}
use Rattle.std.proofs.lemmas.Bool.{and_parts}
use Rattle.std.proofs.lemmas.Bool.Decides.{nat_tests}
use Rattle.std.proofs.lemmas.List.Elements.{All-nil, All-cons}
use Rattle.om_grammar.specs.declared.cond_tree.CondTree.{CondTree}
use Rattle.om_grammar.specs.declared.tree.Item.{Item}
use Rattle.om_grammar.specs.declared.tree.Query.{Query}
use Rattle.om_value.specs.ColumnKinds.{column_kind}
use Rattle.om_value.specs.Kinds.{kind, accepts}
use Rattle.om_typing.specs.Names.{Scope, Variables}
use Rattle.om_typing.specs.Queries.{scope_of, has_aggregate, filter_has_aggregate, is_folded, is_plain, tables_mistakes, group_mistakes, item_mistakes, filter_mistakes, headings_from, key_mistakes, query_mistakes}
use Rattle.om_typing.specs.Typing.{IsKnown, AreAccepted, conjuncts_in, outputs_from, typed_in}
use Rattle.om_typing.specs.declared.typed.Output.{Output}
use Rattle.om_typing.proofs.Accepted.{front_none, back_none, or_front, or_back, columns, expr_fits}
use Rattle.om_typing.proofs.AcceptedConditions.{conjuncts_accepted}
use Rattle.om_typing.proofs.TreeInduction.{Each}

all_each : {A : Type 0} (P : A → Type 0) (xs : List A) → Each P xs → All P xs
all_each P [] each = All-nil P
all_each P (x ∷ xs) each = All-cons P x xs each.0 (all_each P xs each.1)

not_true : (b : Bool) → not b ≡ true → b ≡ false
not_true false is = refl
not_true true is = absurd cc

-- of a plain query
record Plain (query : Query) : Type 0 where
  one : length query.tables ≡ 1
  unfolded : is_folded query ≡ false
  filter : filter_has_aggregate query.filter ≡ false

plain_is : (query : Query) → is_plain query ≡ true → Plain query
plain_is query is =
    let first = and_parts (nat_eq (length query.tables) 1) (not (is_folded query) && (not (filter_has_aggregate query.filter) && nat_eq (length query.keys) 0)) is in
    let second = and_parts (not (is_folded query)) (not (filter_has_aggregate query.filter) && nat_eq (length query.keys) 0) first.1 in
    let third = and_parts (not (filter_has_aggregate query.filter)) (nat_eq (length query.keys) 0) second.1 in
    record { one = grind (arith, nat_tests, first.0); unfolded = not_true (is_folded query) second.0; filter = not_true (filter_has_aggregate query.filter) third.0 }

filter_accepted : (scope : Scope) → length scope.tables ≡ 1 → (filter : Option CondTree) → filter_has_aggregate filter ≡ false → filter_mistakes scope filter ≡ [] → Each (λ one. accepts (columns scope) one ≡ Ok tt) (conjuncts_in scope filter)
filter_accepted scope one None plain none = tt
filter_accepted scope one (Some tree) plain none = conjuncts_accepted scope one tree plain none

abbrev HasKind : Scope → Output → Type 0
HasKind scope output = IsKnown (kind (columns scope) output.expr)

items_accepted : (scope : Scope) → length scope.tables ≡ 1 → (position : ℕ) (items : List Item) → list_any (λ item. has_aggregate item.expr) items ≡ false → flat_map (item_mistakes scope false) items ≡ [] → Each (HasKind scope) (outputs_from scope position items)
items_accepted scope one position [] plain none = tt
items_accepted scope one position (x ∷ xs) plain none =
    let fits = expr_fits scope one x.expr (or_front (has_aggregate x.expr) (list_any (λ item. has_aggregate item.expr) xs) plain) (front_none (item_mistakes scope false x) (flat_map (item_mistakes scope false) xs) none) in (
      subst IsKnown (sym fits.kinded) tt,
      items_accepted scope one (position + 1) xs (or_back (has_aggregate x.expr) (list_any (λ item. has_aggregate item.expr) xs) plain) (back_none (item_mistakes scope false x) (flat_map (item_mistakes scope false) xs) none),
    )

pub query_accepted : (catalog : Variables) (query : Query) → is_plain query ≡ true → query_mistakes catalog query ≡ [] → AreAccepted catalog (typed_in catalog query)
unfolding query_mistakes typed_in
query_accepted catalog query plain none =
    let scope = scope_of catalog query in
    let is = plain_is query plain in
    let behind_tables = back_none (tables_mistakes [] query.tables) _ none in
    let behind_groups = back_none (flat_map (group_mistakes scope) query.groups) _ behind_tables in
    let items = front_none (flat_map (item_mistakes scope (is_folded query)) query.items) _ behind_groups in
    let behind_items = back_none (flat_map (item_mistakes scope (is_folded query)) query.items) _ behind_groups in
    let filter = front_none (filter_mistakes scope query.filter) (flat_map (key_mistakes (headings_from 1 query.items)) query.keys) behind_items in
    let free : flat_map (item_mistakes scope false) query.items ≡ [] = ap (λ (b : Bool). flat_map (item_mistakes scope b) query.items) (sym is.unfolded) ∙ items in
    record {
      conjuncts = all_each (λ one. accepts (column_kind catalog) one ≡ Ok tt) _ (filter_accepted scope is.one query.filter is.filter filter);
      outputs = all_each (λ (output : Output). IsKnown (kind (column_kind catalog) output.expr)) _ (items_accepted scope is.one 1 query.items (or_back (nat_lt 0 (length query.groups)) (list_any (λ item. has_aggregate item.expr) query.items) is.unfolded) free);
    }
