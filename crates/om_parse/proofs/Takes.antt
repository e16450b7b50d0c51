-- What is in the language of a production is what its parser reads, where what follows begins nothing that could go on.
use Rattle.std.proofs.Common.{◌≡◌, ℕ, true, false, List, [], ◌∷◌, ◌++◌, Option, Some, Ok, refl, sym, ap, ◌∙◌, append_assoc}
use Rattle.std.proofs.lemmas.List.{append-nil}
use Rattle.om_token.specs.declared.terminal.Terminal.{Terminal}
use Rattle.om_token.specs.declared.terminal.Terminal.TheVariants as t
use Rattle.om_parse.specs.declared.tree.Query.{Query}
use Rattle.om_parse.specs.declared.tree.Item.{Item}
use Rattle.om_parse.specs.declared.tree.TableName.{TableName}
use Rattle.om_parse.specs.declared.tree.ColumnName.{ColumnName}
use Rattle.om_parse.specs.declared.tree.Numeral.{Numeral}
use Rattle.om_parse.specs.declared.tree.ExprTree.TheVariants as e
use Rattle.om_parse.specs.declared.tree.CondTree.{CondTree}
use Rattle.om_parse.specs.declared.tree.CondTree.TheVariants as c
use Rattle.om_parse.specs.declared.tree.CompareOp.{CompareOp}
use Rattle.om_token.specs.Terminals.{same}
use Rattle.om_parse.specs.Grammar.{Tokens, terminal, all_of, IsColumn, IsNumeral, IsItem, AreMoreItems, AreItems, IsTable, IsOperator, IsTest, AreMoreTests, IsCond, IsFilter, IsQuery}
use Rattle.om_parse.specs.Reading as r
use Rattle.om_parse.specs.Reading.{Step, Parser, and_then, ◌>>=◌, pure, begins, passed, tails, expect}
use Rattle.om_parse.proofs.ListLemmas.{Shrinks, tails_more, tails_done, item_shrinks, test_shrinks}
use Rattle.om_parse.proofs.Productions.{same_itself, filter_found, filter_missing}

-- ---- one token

column_takes : {u : Tokens} {x : ColumnName} → IsColumn u x → (rest : Tokens) → r.column (u ++ rest) ≡ (Ok x, rest)
unfolding r.column
column_takes IsColumn.regular rest = refl
column_takes IsColumn.delimited rest = refl

table_takes : {u : Tokens} {x : TableName} → IsTable u x → (rest : Tokens) → r.table (u ++ rest) ≡ (Ok x, rest)
unfolding r.table
table_takes IsTable.regular rest = refl

numeral_takes : {u : Tokens} {x : Numeral} → IsNumeral u x → (rest : Tokens) → r.numeral (u ++ rest) ≡ (Ok x, rest)
unfolding r.numeral
numeral_takes IsNumeral.numeral rest = refl

operator_takes : {which : Terminal} {op : CompareOp} → IsOperator which op → (at : ℕ) (rest : Tokens) → r.operator (terminal at which ∷ rest) ≡ (Ok (at, op), rest)
unfolding r.operator
operator_takes IsOperator.equal at rest = refl
operator_takes IsOperator.not_equal at rest = refl
operator_takes IsOperator.less at rest = refl
operator_takes IsOperator.less_or_equal at rest = refl
operator_takes IsOperator.greater at rest = refl
operator_takes IsOperator.greater_or_equal at rest = refl

expect_takes : (which : Terminal) (at : ℕ) (rest : Tokens) → expect which (terminal at which ∷ rest) ≡ (Ok at, rest)
expect_takes which at rest = rw (same_itself which) refl

begins_same : (which : Terminal) (at : ℕ) (rest : Tokens) → begins which (terminal at which ∷ rest) ≡ true
begins_same which at rest = same_itself which

-- ---- more of a list

tails_take : {A : Type 0} (separator : Terminal) (member : Parser A) (shrinks : Shrinks member) (at : ℕ) (u v rest : Tokens) (x : A) (xs : List A)
    → member (u ++ (v ++ rest)) ≡ (Ok x, v ++ rest) → tails separator member (v ++ rest) ≡ (Ok xs, rest)
    → tails separator member ((terminal at separator ∷ (u ++ v)) ++ rest) ≡ (Ok (x ∷ xs), rest)
tails_take {A} separator member shrinks at u v rest x xs h g =
    let others : A → Parser (List A) = λ x. tails separator member >>= λ xs. pure (x ∷ xs) in
    tails_more separator member shrinks (terminal at separator ∷ ((u ++ v) ++ rest)) (begins_same separator at ((u ++ v) ++ rest))
    ∙ ap (λ (l : Tokens). and_then (member l) others) (append_assoc u v rest)
    ∙ ap (λ (s : Step A). and_then s others) h
    ∙ ap (λ (s : Step (List A)). and_then s (λ xs. pure (x ∷ xs))) g

item_takes : {u : Tokens} {x : Item} → IsItem u x → (rest : Tokens) → r.item (u ++ rest) ≡ (Ok x, rest)
unfolding r.item
item_takes (IsItem.column h) rest = ap (λ (s : Step ColumnName). and_then s (λ name. pure (record { expr = e.Column name }))) (column_takes h rest)

more_items_take : {w : Tokens} {xs : List Item} → AreMoreItems w xs → (rest : Tokens) → begins t.Comma rest ≡ false → tails t.Comma r.item (w ++ rest) ≡ (Ok xs, rest)
more_items_take AreMoreItems.none rest e = tails_done t.Comma r.item item_shrinks rest e
more_items_take (AreMoreItems.more {u = u} {v = v} {item = x} {items = xs} at h g) rest e =
    tails_take t.Comma r.item item_shrinks at u v rest x xs (item_takes h (v ++ rest)) (more_items_take g rest e)

items_take : {w : Tokens} {xs : List Item} → AreItems w xs → (rest : Tokens) → begins t.Comma rest ≡ false → r.items (w ++ rest) ≡ (Ok xs, rest)
unfolding r.items
items_take (AreItems.list {u = u} {v = v} {item = x} {items = xs} h g) rest e =
    let others : Item → Parser (List Item) = λ first. tails t.Comma r.item >>= λ others. pure (first ∷ others) in
    ap (λ (l : Tokens). and_then (r.item l) others) (append_assoc u v rest)
    ∙ ap (λ (s : Step Item). and_then s others) (item_takes h (v ++ rest))
    ∙ ap (λ (s : Step (List Item)). and_then s (λ others. pure (x ∷ others))) (more_items_take g rest e)

-- ---- conditions

test_takes : {w : Tokens} {x : CondTree} → IsTest w x → (rest : Tokens) → r.one_test (w ++ rest) ≡ (Ok x, rest)
unfolding r.one_test
test_takes (IsTest.comparison {u = u} {v = v} {left = left} {sign = which} {op = op} {right = right} at h f g) rest =
    let made : ColumnName → ℕ × CompareOp → Numeral → CondTree = λ left x right. c.Compare x.0 x.1 (e.Column left) (e.Numeral right) in
    ap (λ (l : Tokens). and_then (r.column l) (λ left. r.operator >>= λ x. r.numeral >>= λ right. pure (made left x right))) (append_assoc u (terminal at which ∷ v) rest)
    ∙ ap (λ (s : Step ColumnName). and_then s (λ left. r.operator >>= λ x. r.numeral >>= λ right. pure (made left x right))) (column_takes h (terminal at which ∷ (v ++ rest)))
    ∙ ap (λ (s : Step (ℕ × CompareOp)). and_then s (λ x. r.numeral >>= λ right. pure (made left x right))) (operator_takes f at (v ++ rest))
    ∙ ap (λ (s : Step Numeral). and_then s (λ right. pure (made left (at, op) right))) (numeral_takes g rest)

more_tests_take : {w : Tokens} {xs : List CondTree} → AreMoreTests w xs → (rest : Tokens) → begins t.And rest ≡ false → tails t.And r.one_test (w ++ rest) ≡ (Ok xs, rest)
more_tests_take AreMoreTests.none rest e = tails_done t.And r.one_test test_shrinks rest e
more_tests_take (AreMoreTests.more {u = u} {v = v} {test = x} {tests = xs} at h g) rest e =
    tails_take t.And r.one_test test_shrinks at u v rest x xs (test_takes h (v ++ rest)) (more_tests_take g rest e)

cond_takes : {w : Tokens} {x : CondTree} → IsCond w x → (rest : Tokens) → begins t.And rest ≡ false → r.cond (w ++ rest) ≡ (Ok x, rest)
unfolding r.cond
cond_takes (IsCond.all {u = u} {v = v} {test = x} {tests = xs} h g) rest e =
    let others : CondTree → Parser CondTree = λ first. tails t.And r.one_test >>= λ others. pure (all_of first others) in
    ap (λ (l : Tokens). and_then (r.one_test l) others) (append_assoc u v rest)
    ∙ ap (λ (s : Step CondTree). and_then s others) (test_takes h (v ++ rest))
    ∙ ap (λ (s : Step (List CondTree)). and_then s (λ others. pure (all_of x others))) (more_tests_take g rest e)

filter_takes : {w : Tokens} {x : Option CondTree} → IsFilter w x → (rest : Tokens) → begins t.Where rest ≡ false → begins t.And rest ≡ false → r.filter (w ++ rest) ≡ (Ok x, rest)
filter_takes IsFilter.none rest e f = filter_missing rest e
filter_takes (IsFilter.some {u = u} at h) rest e f =
    filter_found (terminal at t.Where ∷ (u ++ rest)) (begins_same t.Where at (u ++ rest))
    ∙ ap (λ (s : Step CondTree). and_then s (λ it. pure (Some it))) (cond_takes h rest f)

-- ---- queries

no_comma_at_from : (at : ℕ) (rest : Tokens) → begins t.Comma (terminal at t.From ∷ rest) ≡ false
unfolding same
no_comma_at_from at rest = refl

query_takes : {w : Tokens} {x : Query} → IsQuery w x → (rest : Tokens) → begins t.Where rest ≡ false → begins t.And rest ≡ false → r.query (w ++ rest) ≡ (Ok x, rest)
unfolding r.query r.select_list r.from_clause
query_takes (IsQuery.select {u = u} {v = v} {w = w} {items = items} {table = table} {filter = filter} at from_at h f g) rest e n =
    let made : List Item → TableName → Option CondTree → Query = λ found source condition. record { items = found; tables = source ∷ []; filter = condition } in
    let third : List Item → TableName → Parser Query = λ found source. r.filter >>= λ condition. pure (made found source condition) in
    let second : List Item → Parser Query = λ found. r.from_clause >>= third found in
    let after : Tokens = terminal from_at t.From ∷ (v ++ (w ++ rest)) in
    let split : (u ++ terminal from_at t.From ∷ (v ++ w)) ++ rest ≡ u ++ after =
    append_assoc u (terminal from_at t.From ∷ (v ++ w)) rest ∙ ap (λ (l : Tokens). u ++ terminal from_at t.From ∷ l) (append_assoc v w rest) in
    ap (λ (l : Tokens). and_then (r.select_list (terminal at t.Select ∷ l)) second) split
    ∙ ap (λ (s : Step (List Item)). and_then s second)
    (ap (λ (s : Step ℕ). and_then s (λ _. r.items)) (expect_takes t.Select at (u ++ after)) ∙ items_take h after (no_comma_at_from from_at (v ++ (w ++ rest))))
    ∙ ap (λ (s : Step TableName). and_then s (third items))
    (ap (λ (s : Step ℕ). and_then s (λ _. r.table)) (expect_takes t.From from_at (v ++ (w ++ rest))) ∙ table_takes f (w ++ rest))
    ∙ ap (λ (s : Step (Option CondTree)). and_then s (λ condition. pure (made items table condition))) (filter_takes g rest e n)

pub whole_takes : {w : Tokens} {x : Query} → IsQuery w x → r.whole w ≡ (Ok x, [])
unfolding r.whole r.end
whole_takes {w} h =
    ap r.whole (sym (append-nil w))
    ∙ ap (λ (s : Step Query). and_then s (λ it. r.end >>= λ nothing. pure it)) (query_takes h [] refl refl)
