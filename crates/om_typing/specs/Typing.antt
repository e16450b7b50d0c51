-- What a query asks: each of its names resolved, its WHERE split at its ANDs, its outputs named.
use Rattle.std.specs.Prelude.{◌≡◌, ◌⊎◌, ℕ, ◌+◌, List, [], ◌∷◌, map, Option, Some, None, Result, Ok, Err, if◌then◌else◌, All}
use Rattle.std.specs.List.{flat_map}
use Rattle.std.specs.Option.{option_map_or}
use Rattle.om_grammar.specs.declared.cond_tree.CompareOp.{CompareOp}
use Rattle.om_grammar.specs.declared.cond_tree.CompareOp.TheVariants as o
use Rattle.om_grammar.specs.declared.cond_tree.CondTree.{CondTree}
use Rattle.om_grammar.specs.declared.cond_tree.CondTree.TheFolds.{fold-CondTree}
use Rattle.om_grammar.specs.declared.cond_tree.CondTree.TheOpen.{CondTree-F}
use Rattle.om_grammar.specs.declared.cond_tree.Polarity.{Polarity}
use Rattle.om_grammar.specs.declared.cond_tree.Polarity.TheVariants as polarity
use Rattle.om_grammar.specs.declared.cond_tree.Predicate.{Predicate}
use Rattle.om_grammar.specs.declared.cond_tree.Predicate.TheVariants as p
use Rattle.om_grammar.specs.declared.expr_tree.ExprTree.{ExprTree}
use Rattle.om_grammar.specs.declared.expr_tree.ExprTree.TheFolds.{fold-ExprTree}
use Rattle.om_grammar.specs.declared.expr_tree.ExprTree.TheOpen.{ExprTree-F, Addend-F, Factor-F}
use Rattle.om_grammar.specs.declared.expr_tree.Scale.{Scale}
use Rattle.om_grammar.specs.declared.expr_tree.Scale.TheVariants as scale
use Rattle.om_grammar.specs.declared.tree.Item.{Item}
use Rattle.om_grammar.specs.declared.tree.Query.{Query}
use Rattle.om_grammar.specs.declared.tree.TableName.{TableName}
use Rattle.om_value.specs.ColumnKinds.{column_kind}
use Rattle.om_value.specs.Kinds.{kind, accepts}
use Rattle.om_value.specs.declared.comparison.Compare.{Compare}
use Rattle.om_value.specs.declared.comparison.Compare.TheVariants as compare
use Rattle.om_value.specs.declared.cond.Cond.{Cond}
use Rattle.om_value.specs.declared.cond.Cond.TheVariants as cond
use Rattle.om_value.specs.declared.cond.Cond.TheViews as conds
use Rattle.om_value.specs.declared.cond.Polarity.{Polarity as Asked}
use Rattle.om_value.specs.declared.cond.Polarity.TheVariants as asked
use Rattle.om_value.specs.declared.expr.Addend.{Addend}
use Rattle.om_value.specs.declared.expr.Expr.{Expr}
use Rattle.om_value.specs.declared.expr.Expr.TheVariants as expr
use Rattle.om_value.specs.declared.expr.Expr.TheViews as view
use Rattle.om_value.specs.declared.expr.Factor.{Factor}
use Rattle.om_value.specs.declared.expr.Factor.TheVariants as factor
use Rattle.om_value.specs.declared.kind.Kind.{Kind}
use Rattle.om_value.specs.declared.kind.Wrong.{Wrong}
use Rattle.om_typing.specs.Judging.{sign_of, width_of, bound_of}
use Rattle.om_typing.specs.Mistakes.{foremost}
use Rattle.om_typing.specs.Names.{Scope, Variables, place_of, table_meant}
use Rattle.om_typing.specs.Queries.{scope_of, query_mistakes, is_plain, column_name}
use Rattle.om_typing.specs.declared.fault.TypeFault.{TypeFault}
use Rattle.om_typing.specs.declared.fault.TypeFault.TheVariants as fault
use Rattle.om_typing.specs.declared.mistake.Mistake.{Mistake}
use Rattle.om_typing.specs.declared.scope.Grouped.{Grouped}
use Rattle.om_typing.specs.declared.typed.Output.{Output}
use Rattle.om_typing.specs.declared.typed.Typed.{Typed}

-- ---- expressions. Of one with a mistake, and of an aggregate, what can't be resolved is NULL

abbrev pub column_expr : Option Grouped → Expr
column_expr (Some place) = expr.Column (record { table = place.table; id = place.column })
column_expr None = expr.Null

abbrev pub table_or_first : Option ℕ → ℕ
table_or_first (Some table) = table
table_or_first None = 0

-- a divisor, 0 for what is no numeral
abbrev pub divisor_of : Expr → ℕ
divisor_of (expr.Numeral value) = value
divisor_of _ = 0

abbrev pub factor_of : Scale → Expr → Factor
factor_of scale.Times it = factor.Times it
factor_of scale.Divide it = factor.Over (divisor_of it)

abbrev pub expr_step : Scope → ExprTree-F Expr Addend Factor → Expr
expr_step scope (ExprTree-F.Numeral numeral) = expr.Numeral numeral.value
expr_step scope (ExprTree-F.Text at said) = expr.Text said
expr_step scope (ExprTree-F.Null at) = expr.Null
expr_step scope (ExprTree-F.Column column) = column_expr (place_of scope.catalog scope.tables column)
expr_step scope (ExprTree-F.Sum first rest) = view.Sum first rest
expr_step scope (ExprTree-F.Product first rest) = view.Product first rest
expr_step scope (ExprTree-F.Sign at sign operand) = view.Sign (sign_of sign) operand
expr_step scope (ExprTree-F.Signed at operand) = view.Signed operand
expr_step scope (ExprTree-F.Bits at operand high low) = view.Bits operand (bound_of high.value) (bound_of low.value)
expr_step scope (ExprTree-F.Memory qualifier at width address) = view.Memory (table_or_first (table_meant scope.tables qualifier)) (width_of width) address
expr_step scope (ExprTree-F.CountRows at) = expr.Null
expr_step scope (ExprTree-F.Aggregate at function operand) = expr.Null

abbrev pub addend_step : Addend-F Expr Addend Factor → Addend
addend_step addend = view.roll-Addend (record { sign = sign_of addend.sign; term = addend.term })

abbrev pub factor_step : Factor-F Expr Addend Factor → Factor
factor_step it = factor_of it.scale it.factor

-- an expression with its names resolved
unfoldable pub expr_in : Scope → ExprTree → Expr
expr_in scope = fold-ExprTree Expr Addend Factor (expr_step scope) addend_step factor_step

-- ---- conditions

abbrev pub compare_of : CompareOp → Compare
compare_of o.Equal = compare.Equal
compare_of o.NotEqual = compare.NotEqual
compare_of o.Less = compare.Less
compare_of o.LessOrEqual = compare.LessEqual
compare_of o.Greater = compare.Greater
compare_of o.GreaterOrEqual = compare.GreaterEqual

abbrev pub asked_of : Polarity → Asked
asked_of polarity.Plain = asked.Plain
asked_of polarity.Negated = asked.Negated

unfoldable pub predicate_in : Scope → Predicate → Cond
predicate_in scope (p.Compare at op left right) = cond.Compare (compare_of op) (expr_in scope left) (expr_in scope right)
predicate_in scope (p.Between at asked what low high) = cond.Between (asked_of asked) (expr_in scope what) (expr_in scope low) (expr_in scope high)
predicate_in scope (p.In at asked what list) = cond.In (asked_of asked) (expr_in scope what) (map (expr_in scope) list)
predicate_in scope (p.IsNull at asked what) = cond.IsNull (asked_of asked) (expr_in scope what)

-- a condition with its names resolved, and the conditions that it joins by AND
pub record Resolved : Type 0 where
  pub whole : Cond
  pub conjuncts : List Cond

-- one that joins none
abbrev pub single : Cond → Resolved
single whole = record { whole = whole; conjuncts = whole ∷ [] }

abbrev pub condition_step : Scope → CondTree-F Resolved → Resolved
condition_step scope (CondTree-F.Predicate predicate) = single (predicate_in scope predicate)
condition_step scope (CondTree-F.Not at member) = single (conds.Not member.whole)
condition_step scope (CondTree-F.All members) = record { whole = conds.All (map (λ member. member.whole) members); conjuncts = flat_map (λ member. member.conjuncts) members }
condition_step scope (CondTree-F.Any members) = single (conds.Any (map (λ member. member.whole) members))

unfoldable pub condition_in : Scope → CondTree → Resolved
condition_in scope = fold-CondTree Resolved (condition_step scope)

-- ---- the query

abbrev pub output_in : Scope → ℕ → Item → Output
output_in scope position item = record { name = column_name position item; expr = expr_in scope item.expr }

-- the outputs of items, the first of which is at a position
abbrev pub outputs_from : Scope → ℕ → List Item → List Output
outputs_from scope position [] = []
outputs_from scope position (item ∷ items) = output_in scope position item ∷ outputs_from scope (position + 1) items

-- the conjuncts of a WHERE; none where there is none
abbrev pub conjuncts_in : Scope → Option CondTree → List Cond
conjuncts_in scope filter = option_map_or (λ tree. (condition_in scope tree).conjuncts) filter []

-- a range variable's name as written: its own, or else its table's
abbrev pub written_name : TableName → List ℕ
written_name table = option_map_or (λ label. label.name) table.variable table.name

-- what a query asks
unfoldable pub typed_in : Variables → Query → Typed
typed_in catalog query = record {
  tables = map written_name query.tables;
  conjuncts = conjuncts_in (scope_of catalog query) query.filter;
  outputs = outputs_from (scope_of catalog query) 1 query.items;
}

-- ---- the verdict

abbrev pub judged_by : Option Mistake → Result Typed TypeFault → Result Typed TypeFault
judged_by (Some mistake) typed = Err (fault.Mistaken mistake)
judged_by None typed = typed

-- what a query asks, or why it isn't typed
unfoldable pub verdict : Variables → Query → Result Typed TypeFault
verdict catalog query = judged_by (foremost (query_mistakes catalog query)) (if is_plain query then Ok (typed_in catalog query) else Err fault.Unbuilt)

-- a call answers this, unless memory ran out
abbrev pub Answers : Result Typed TypeFault → Result Typed TypeFault → Type 0
Answers result wanted = (result ≡ wanted) ⊎ (result ≡ Err fault.NoMemory)

abbrev pub IsKnown : Result Kind Wrong → Type 0
IsKnown (Ok found) = Unit {0}
IsKnown (Err wrong) = ⊥

-- each expression and each condition of a query is accepted by the kinds of the columns
pub record AreAccepted (catalog : Variables) (typed : Typed) : Type 0 where
  pub conjuncts : All (λ one. accepts (column_kind catalog) one ≡ Ok tt) typed.conjuncts
  pub outputs : All (λ output. IsKnown (kind (column_kind catalog) output.expr)) typed.outputs
