-- The equations of kinds.
use Rattle.std.proofs.Common.{◌≡◌, ℕ, pos, List, Result, Ok, sym, ap, ◌∙◌}
use Rattle.std.specs.List.{fold}
use Rattle.om_value.proofs.Values.{changed_each}
use Rattle.om_value.specs.Kinds.{numbers, sum_kind, product_kind, quotient_kind, sign_kind, signed_kind, bits_kind, memory_kind, after, Change, kind_step, factor_kind_step, addend_kind_step, kind}
use Rattle.om_value.specs.declared.column.Column.{Column}
use Rattle.om_value.specs.declared.column.ColumnId.{ColumnId}
use Rattle.om_value.specs.declared.expr.Addend.{Addend}
use Rattle.om_value.specs.declared.expr.Expr.{Expr}
use Rattle.om_value.specs.declared.expr.Expr.TheFolds.{fold-Addend, fold-Factor, fold-roll-Expr, fold-roll-Factor, fold_out-Addend}
use Rattle.om_value.specs.declared.expr.Expr.TheOpen.{Expr-F, Factor-F}
use Rattle.om_value.specs.declared.expr.Expr.TheVariants as expr
use Rattle.om_value.specs.declared.expr.Expr.TheVariants.{rolls-Numeral, rolls-Text, rolls-Null, rolls-Column, rolls-Sum, rolls-Product, rolls-Sign, rolls-Signed, rolls-Bits, rolls-Memory}
use Rattle.om_value.specs.declared.expr.Expr.TheViews as view
use Rattle.om_value.specs.declared.expr.Factor.{Factor}
use Rattle.om_value.specs.declared.expr.Factor.TheVariants as factor
use Rattle.om_value.specs.declared.expr.Factor.TheVariants.{rolls-Times, rolls-Over}
use Rattle.om_value.specs.declared.expr.Sign.{Sign}
use Rattle.om_value.specs.declared.expr.Width.{Width}
use Rattle.om_value.specs.declared.kind.Kind.{Kind}
use Rattle.om_value.specs.declared.kind.Kind.TheVariants.{Text, Null}
use Rattle.om_value.specs.declared.kind.Wrong.{Wrong}

-- the kind of a sum so far, with an addend added to it or taken from it
abbrev pub with_addend_kind : (Expr → Result Kind Wrong) → Result Kind Wrong → Addend → Result Kind Wrong
with_addend_kind kinds before addend = after before (λ left. after (kinds addend.term) (sum_kind addend.sign left))

-- the kind of a product so far, multiplied or divided by a factor
abbrev pub with_factor_kind : (Expr → Result Kind Wrong) → Result Kind Wrong → Factor → Result Kind Wrong
with_factor_kind kinds before (factor.Times e) = after before (λ left. after (kinds e) (product_kind left))
with_factor_kind kinds before (factor.Over n) = after before (quotient_kind n)

addend_kind_is : (columns : ColumnId → Kind) (a : Addend) (before : Result Kind Wrong) → fold-Addend (Result Kind Wrong) Change Change (kind_step columns) factor_kind_step addend_kind_step a before ≡ with_addend_kind (kind columns) before a
unfolding kind
addend_kind_is columns a before = ap (λ f. f before) (fold_out-Addend (Result Kind Wrong) Change Change (kind_step columns) factor_kind_step addend_kind_step a)

factor_kind_is : (columns : ColumnId → Kind) (f : Factor) (before : Result Kind Wrong) → fold-Factor (Result Kind Wrong) Change Change (kind_step columns) factor_kind_step addend_kind_step f before ≡ with_factor_kind (kind columns) before f
unfolding kind
factor_kind_is columns (factor.Times e) before = ap (λ f. f before) (ap (fold-Factor (Result Kind Wrong) Change Change (kind_step columns) factor_kind_step addend_kind_step) (sym (rolls-Times e)) ∙ fold-roll-Factor (Result Kind Wrong) Change Change (kind_step columns) factor_kind_step addend_kind_step (Factor-F.Times e))
factor_kind_is columns (factor.Over n) before = ap (λ f. f before) (ap (fold-Factor (Result Kind Wrong) Change Change (kind_step columns) factor_kind_step addend_kind_step) (sym (rolls-Over n)) ∙ fold-roll-Factor (Result Kind Wrong) Change Change (kind_step columns) factor_kind_step addend_kind_step (Factor-F.Over n))

pub kind-Numeral : (columns : ColumnId → Kind) (n : ℕ) → kind columns (expr.Numeral n) ≡ Ok (numbers (pos n) (pos n))
unfolding kind
kind-Numeral columns n = ap (kind columns) (sym (rolls-Numeral n)) ∙ fold-roll-Expr (Result Kind Wrong) Change Change (kind_step columns) factor_kind_step addend_kind_step (Expr-F.Numeral n)

pub kind-Text : (columns : ColumnId → Kind) (bytes : List ℕ) → kind columns (expr.Text bytes) ≡ Ok Text
unfolding kind
kind-Text columns bytes = ap (kind columns) (sym (rolls-Text bytes)) ∙ fold-roll-Expr (Result Kind Wrong) Change Change (kind_step columns) factor_kind_step addend_kind_step (Expr-F.Text bytes)

pub kind-Null : (columns : ColumnId → Kind) → kind columns expr.Null ≡ Ok Null
unfolding kind
kind-Null columns = ap (kind columns) (sym rolls-Null) ∙ fold-roll-Expr (Result Kind Wrong) Change Change (kind_step columns) factor_kind_step addend_kind_step Expr-F.Null

pub kind-Column : (columns : ColumnId → Kind) (c : Column) → kind columns (expr.Column c) ≡ Ok (columns c.id)
unfolding kind
kind-Column columns c = ap (kind columns) (sym (rolls-Column c)) ∙ fold-roll-Expr (Result Kind Wrong) Change Change (kind_step columns) factor_kind_step addend_kind_step (Expr-F.Column c)

pub kind-Sum : (columns : ColumnId → Kind) (first : Expr) (rest : List Addend) → kind columns (view.Sum first rest) ≡ fold (with_addend_kind (kind columns)) (kind columns first) rest
unfolding kind
kind-Sum columns first rest = ap (kind columns) (sym (rolls-Sum first rest)) ∙ fold-roll-Expr (Result Kind Wrong) Change Change (kind_step columns) factor_kind_step addend_kind_step (Expr-F.Sum first rest) ∙ changed_each (fold-Addend (Result Kind Wrong) Change Change (kind_step columns) factor_kind_step addend_kind_step) (with_addend_kind (kind columns)) (addend_kind_is columns) (kind columns first) rest

pub kind-Product : (columns : ColumnId → Kind) (first : Expr) (rest : List Factor) → kind columns (view.Product first rest) ≡ fold (with_factor_kind (kind columns)) (kind columns first) rest
unfolding kind
kind-Product columns first rest = ap (kind columns) (sym (rolls-Product first rest)) ∙ fold-roll-Expr (Result Kind Wrong) Change Change (kind_step columns) factor_kind_step addend_kind_step (Expr-F.Product first rest) ∙ changed_each (fold-Factor (Result Kind Wrong) Change Change (kind_step columns) factor_kind_step addend_kind_step) (with_factor_kind (kind columns)) (factor_kind_is columns) (kind columns first) rest

pub kind-Sign : (columns : ColumnId → Kind) (s : Sign) (e : Expr) → kind columns (view.Sign s e) ≡ after (kind columns e) (sign_kind s)
unfolding kind
kind-Sign columns s e = ap (kind columns) (sym (rolls-Sign s e)) ∙ fold-roll-Expr (Result Kind Wrong) Change Change (kind_step columns) factor_kind_step addend_kind_step (Expr-F.Sign s e)

pub kind-Signed : (columns : ColumnId → Kind) (e : Expr) → kind columns (view.Signed e) ≡ after (kind columns e) signed_kind
unfolding kind
kind-Signed columns e = ap (kind columns) (sym (rolls-Signed e)) ∙ fold-roll-Expr (Result Kind Wrong) Change Change (kind_step columns) factor_kind_step addend_kind_step (Expr-F.Signed e)

pub kind-Bits : (columns : ColumnId → Kind) (e : Expr) (high low : ℕ) → kind columns (view.Bits e high low) ≡ after (kind columns e) (bits_kind high low)
unfolding kind
kind-Bits columns e high low = ap (kind columns) (sym (rolls-Bits e high low)) ∙ fold-roll-Expr (Result Kind Wrong) Change Change (kind_step columns) factor_kind_step addend_kind_step (Expr-F.Bits e high low)

pub kind-Memory : (columns : ColumnId → Kind) (table : ℕ) (width : Width) (e : Expr) → kind columns (view.Memory table width e) ≡ after (kind columns e) (memory_kind width)
unfolding kind
kind-Memory columns table width e = ap (kind columns) (sym (rolls-Memory table width e)) ∙ fold-roll-Expr (Result Kind Wrong) Change Change (kind_step columns) factor_kind_step addend_kind_step (Expr-F.Memory table width e)
