-- An expression with its names resolved, by its parts.
use Rattle.std.proofs.Common.{◌≡◌, ℕ, List, [], ◌∷◌, map, Option, refl, sym, ap, ◌∙◌}
use Rattle.om_grammar.specs.declared.tree.Label.{Label}
use Rattle.om_grammar.specs.declared.tree.ColumnName.{ColumnName}
use Rattle.om_grammar.specs.declared.expr_tree.ExprTree.{ExprTree}
use Rattle.om_grammar.specs.declared.expr_tree.ExprTree.TheFolds.{fold-Addend, fold-Factor, fold-roll-ExprTree, fold_out-Addend, fold_out-Factor}
use Rattle.om_grammar.specs.declared.expr_tree.ExprTree.TheOpen.{ExprTree-F}
use Rattle.om_grammar.specs.declared.expr_tree.ExprTree.TheVariants as v
use Rattle.om_grammar.specs.declared.expr_tree.ExprTree.TheVariants.{rolls-Numeral, rolls-Text, rolls-Null, rolls-Column, rolls-Sum, rolls-Product, rolls-Sign, rolls-Signed, rolls-Bits, rolls-Memory, rolls-CountRows, rolls-Aggregate}
use Rattle.om_grammar.specs.declared.expr_tree.ExprTree.TheViews as e
use Rattle.om_grammar.specs.declared.expr_tree.Addend.{Addend}
use Rattle.om_grammar.specs.declared.expr_tree.Factor.{Factor}
use Rattle.om_grammar.specs.declared.expr_tree.Numeral.{Numeral}
use Rattle.om_grammar.specs.declared.expr_tree.Sign.{Sign}
use Rattle.om_grammar.specs.declared.expr_tree.Width.{Width}
use Rattle.om_grammar.specs.declared.expr_tree.Function.{Function}
use Rattle.om_value.specs.declared.expr.Addend.{Addend as ValueAddend}
use Rattle.om_value.specs.declared.expr.Expr.{Expr}
use Rattle.om_value.specs.declared.expr.Expr.TheVariants as expr
use Rattle.om_value.specs.declared.expr.Expr.TheViews as view
use Rattle.om_value.specs.declared.expr.Factor.{Factor as ValueFactor}
use Rattle.om_typing.specs.Judging.{sign_of, width_of, bound_of}
use Rattle.om_typing.specs.Names.{Scope, place_of, table_meant}
use Rattle.om_typing.specs.Typing.{column_expr, table_or_first, factor_of, expr_step, addend_step, factor_step, expr_in}

-- a term of a sum after the first, with its names resolved
abbrev pub addend_in : Scope → Addend → ValueAddend
addend_in scope addend = view.roll-Addend (record { sign = sign_of addend.sign; term = expr_in scope addend.term })

-- a factor of a product after the first, with its names resolved
abbrev pub factor_in : Scope → Factor → ValueFactor
factor_in scope factor = factor_of factor.scale (expr_in scope factor.factor)

each_is : {X Y : Type 0} (f g : X → Y) → ((x : X) → f x ≡ g x) → (xs : List X) → map f xs ≡ map g xs
each_is f g same [] = refl
each_is f g same (x ∷ xs) = ap (λ y. y ∷ map f xs) (same x) ∙ ap (λ ys. g x ∷ ys) (each_is f g same xs)

addend_is : (scope : Scope) (addend : Addend) → fold-Addend Expr ValueAddend ValueFactor (expr_step scope) addend_step factor_step addend ≡ addend_in scope addend
unfolding expr_in
addend_is scope addend = fold_out-Addend Expr ValueAddend ValueFactor (expr_step scope) addend_step factor_step addend

factor_is : (scope : Scope) (factor : Factor) → fold-Factor Expr ValueAddend ValueFactor (expr_step scope) addend_step factor_step factor ≡ factor_in scope factor
unfolding expr_in
factor_is scope factor = fold_out-Factor Expr ValueAddend ValueFactor (expr_step scope) addend_step factor_step factor

pub resolved_numeral : (scope : Scope) (numeral : Numeral) → expr_in scope (v.Numeral numeral) ≡ expr.Numeral numeral.value
unfolding expr_in
resolved_numeral scope numeral = ap (expr_in scope) (sym (rolls-Numeral numeral)) ∙ fold-roll-ExprTree Expr ValueAddend ValueFactor (expr_step scope) addend_step factor_step (ExprTree-F.Numeral numeral)

pub resolved_text : (scope : Scope) (at : ℕ) (said : List ℕ) → expr_in scope (v.Text at said) ≡ expr.Text said
unfolding expr_in
resolved_text scope at said = ap (expr_in scope) (sym (rolls-Text at said)) ∙ fold-roll-ExprTree Expr ValueAddend ValueFactor (expr_step scope) addend_step factor_step (ExprTree-F.Text at said)

pub resolved_null : (scope : Scope) (at : ℕ) → expr_in scope (v.Null at) ≡ expr.Null
unfolding expr_in
resolved_null scope at = ap (expr_in scope) (sym (rolls-Null at)) ∙ fold-roll-ExprTree Expr ValueAddend ValueFactor (expr_step scope) addend_step factor_step (ExprTree-F.Null at)

pub resolved_column : (scope : Scope) (column : ColumnName) → expr_in scope (v.Column column) ≡ column_expr (place_of scope.catalog scope.tables column)
unfolding expr_in
resolved_column scope column = ap (expr_in scope) (sym (rolls-Column column)) ∙ fold-roll-ExprTree Expr ValueAddend ValueFactor (expr_step scope) addend_step factor_step (ExprTree-F.Column column)

pub resolved_sum : (scope : Scope) (first : ExprTree) (rest : List Addend) → expr_in scope (e.Sum first rest) ≡ view.Sum (expr_in scope first) (map (addend_in scope) rest)
unfolding expr_in
resolved_sum scope first rest = ap (expr_in scope) (sym (rolls-Sum first rest)) ∙ fold-roll-ExprTree Expr ValueAddend ValueFactor (expr_step scope) addend_step factor_step (ExprTree-F.Sum first rest)
    ∙ ap (view.Sum (expr_in scope first)) (each_is (fold-Addend Expr ValueAddend ValueFactor (expr_step scope) addend_step factor_step) (addend_in scope) (addend_is scope) rest)

pub resolved_product : (scope : Scope) (first : ExprTree) (rest : List Factor) → expr_in scope (e.Product first rest) ≡ view.Product (expr_in scope first) (map (factor_in scope) rest)
unfolding expr_in
resolved_product scope first rest = ap (expr_in scope) (sym (rolls-Product first rest)) ∙ fold-roll-ExprTree Expr ValueAddend ValueFactor (expr_step scope) addend_step factor_step (ExprTree-F.Product first rest)
    ∙ ap (view.Product (expr_in scope first)) (each_is (fold-Factor Expr ValueAddend ValueFactor (expr_step scope) addend_step factor_step) (factor_in scope) (factor_is scope) rest)

pub resolved_sign : (scope : Scope) (at : ℕ) (sign : Sign) (operand : ExprTree) → expr_in scope (e.Sign at sign operand) ≡ view.Sign (sign_of sign) (expr_in scope operand)
unfolding expr_in
resolved_sign scope at sign operand = ap (expr_in scope) (sym (rolls-Sign at sign operand)) ∙ fold-roll-ExprTree Expr ValueAddend ValueFactor (expr_step scope) addend_step factor_step (ExprTree-F.Sign at sign operand)

pub resolved_signed : (scope : Scope) (at : ℕ) (operand : ExprTree) → expr_in scope (e.Signed at operand) ≡ view.Signed (expr_in scope operand)
unfolding expr_in
resolved_signed scope at operand = ap (expr_in scope) (sym (rolls-Signed at operand)) ∙ fold-roll-ExprTree Expr ValueAddend ValueFactor (expr_step scope) addend_step factor_step (ExprTree-F.Signed at operand)

pub resolved_bits : (scope : Scope) (at : ℕ) (operand : ExprTree) (high low : Numeral) → expr_in scope (e.Bits at operand high low) ≡ view.Bits (expr_in scope operand) (bound_of high.value) (bound_of low.value)
unfolding expr_in
resolved_bits scope at operand high low = ap (expr_in scope) (sym (rolls-Bits at operand high low)) ∙ fold-roll-ExprTree Expr ValueAddend ValueFactor (expr_step scope) addend_step factor_step (ExprTree-F.Bits at operand high low)

pub resolved_memory : (scope : Scope) (qualifier : Option Label) (at : ℕ) (width : Width) (address : ExprTree) → expr_in scope (e.Memory qualifier at width address) ≡ view.Memory (table_or_first (table_meant scope.tables qualifier)) (width_of width) (expr_in scope address)
unfolding expr_in
resolved_memory scope qualifier at width address = ap (expr_in scope) (sym (rolls-Memory qualifier at width address)) ∙ fold-roll-ExprTree Expr ValueAddend ValueFactor (expr_step scope) addend_step factor_step (ExprTree-F.Memory qualifier at width address)

pub resolved_count_rows : (scope : Scope) (at : ℕ) → expr_in scope (v.CountRows at) ≡ expr.Null
unfolding expr_in
resolved_count_rows scope at = ap (expr_in scope) (sym (rolls-CountRows at)) ∙ fold-roll-ExprTree Expr ValueAddend ValueFactor (expr_step scope) addend_step factor_step (ExprTree-F.CountRows at)

pub resolved_aggregate : (scope : Scope) (at : ℕ) (function : Function) (operand : ExprTree) → expr_in scope (e.Aggregate at function operand) ≡ expr.Null
unfolding expr_in
resolved_aggregate scope at function operand = ap (expr_in scope) (sym (rolls-Aggregate at function operand)) ∙ fold-roll-ExprTree Expr ValueAddend ValueFactor (expr_step scope) addend_step factor_step (ExprTree-F.Aggregate at function operand)
