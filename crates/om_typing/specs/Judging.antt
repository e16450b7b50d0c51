-- What is wrong with an expression, of which kind it is where nothing is, and the range variables whose rows it uses.
use Rattle.std.specs.Prelude.{◌≡◌, ℕ, pos, Bool, true, false, not, ◌&&◌, nat_eq, nat_lt, List, [], ◌∷◌, ◌++◌, length, is_some, Option, Some, None, Result, Ok, Err, if◌then◌else◌}
use Rattle.std.specs.List.{fold}
use Rattle.std.specs.Option.{option_map}
use Rattle.om_grammar.specs.declared.expr_tree.ExprTree.{ExprTree}
use Rattle.om_grammar.specs.declared.expr_tree.ExprTree.TheFolds.{fold-ExprTree}
use Rattle.om_grammar.specs.declared.expr_tree.ExprTree.TheOpen.{ExprTree-F, Addend-F, Factor-F}
use Rattle.om_grammar.specs.declared.expr_tree.Function.{Function}
use Rattle.om_grammar.specs.declared.expr_tree.Function.TheVariants as function
use Rattle.om_grammar.specs.declared.expr_tree.Scale.{Scale}
use Rattle.om_grammar.specs.declared.expr_tree.Scale.TheVariants as scale
use Rattle.om_grammar.specs.declared.expr_tree.Sign.{Sign}
use Rattle.om_grammar.specs.declared.expr_tree.Sign.TheVariants as sign
use Rattle.om_grammar.specs.declared.expr_tree.Width.{Width}
use Rattle.om_grammar.specs.declared.expr_tree.Width.TheVariants as width
use Rattle.om_grammar.specs.declared.tree.ColumnName.{ColumnName}
use Rattle.om_grammar.specs.declared.tree.Label.{Label}
use Rattle.om_grammar.specs.declared.tree.TableName.{TableName}
use Rattle.om_value.specs.ColumnKinds.{column_kind, word_numbers}
use Rattle.om_value.specs.Kinds.{numbers, sum_kind, product_kind, quotient_kind, sign_kind, signed_kind, bits_kind, memory_kind}
use Rattle.om_value.specs.declared.catalog.VarInfo.{VarInfo}
use Rattle.om_value.specs.declared.expr.Sign.{Sign as ValueSign}
use Rattle.om_value.specs.declared.expr.Sign.TheVariants as value_sign
use Rattle.om_value.specs.declared.expr.Width.{Width as ValueWidth}
use Rattle.om_value.specs.declared.expr.Width.TheVariants as value_width
use Rattle.om_value.specs.declared.kind.Kind.{Kind}
use Rattle.om_value.specs.declared.kind.Kind.TheVariants.{Text, Null}
use Rattle.om_value.specs.declared.kind.Wrong.{Wrong}
use Rattle.om_value.specs.declared.kind.Wrong.TheVariants.{Clash, Divisor}
use Rattle.om_typing.specs.Mistakes.{mistake, mistake_if, rule_of, noted_all}
use Rattle.om_typing.specs.Names.{Scope, Variables, table_meant, column_meant, info_of, place_meant, is_grouped}
use Rattle.om_typing.specs.declared.judged.Judged.{Judged}
use Rattle.om_typing.specs.declared.judged.Reach.{Reach}
use Rattle.om_typing.specs.declared.judged.Reach.TheVariants as reach
use Rattle.om_typing.specs.declared.mistake.Foremost.{Foremost}
use Rattle.om_typing.specs.declared.mistake.Mistake.{Mistake}
use Rattle.om_typing.specs.declared.mistake.Rule.TheVariants as rule
use Rattle.om_typing.specs.declared.scope.Grouped.{Grouped}

-- ---- range variables used

-- those of two expressions
abbrev pub joined : Reach → Reach → Reach
joined reach.Nothing other = other
joined (reach.Only one) reach.Nothing = reach.Only one
joined (reach.Only one) (reach.Only other) = if nat_eq one other then reach.Only one else reach.Several
joined (reach.Only one) reach.Several = reach.Several
joined reach.Several other = reach.Several

-- that of a column or a memory form, where its range variable is known
abbrev pub reach_of : Option ℕ → Reach
reach_of (Some table) = reach.Only table
reach_of None = reach.Nothing

-- an expression uses another range variable than the one that is known
abbrev pub strays : Option ℕ → Reach → Bool
strays None used = false
strays (Some table) reach.Nothing = false
strays (Some table) (reach.Only other) = not (nat_eq table other)
strays (Some table) reach.Several = true

-- ---- an expression as it is judged

-- the mistakes in it, and what is known of it
pub record Judgement : Type 0 where
  pub mistakes : List Mistake
  pub judged : Judged

abbrev pub judgement : List Mistake → Option Kind → Reach → Judgement
judgement mistakes kind used = record { mistakes = mistakes; judged = record { kind = kind; reach = used; numeral = None } }

-- of a literal
abbrev pub literal : Kind → Judgement
literal kind = judgement [] (Some kind) reach.Nothing

abbrev pub numeral_judged : ℕ → Judgement
numeral_judged value = record { mistakes = []; judged = record { kind = Some (numbers (pos value) (pos value)); reach = reach.Nothing; numeral = Some value } }

-- what an operator makes of a kind, where the operand has one
abbrev pub of_one : (Kind → Result Kind Wrong) → Judged → Option (Result Kind Wrong)
of_one make operand = option_map make operand.kind

-- the same of two
abbrev pub of_kinds : (Kind → Kind → Result Kind Wrong) → Option Kind → Option Kind → Option (Result Kind Wrong)
of_kinds make (Some left) (Some right) = Some (make left right)
of_kinds make (Some left) None = None
of_kinds make None right = None

-- the mistake at an operator's place
abbrev pub told : ℕ → Option (Result Kind Wrong) → List Mistake
told at (Some (Ok kind)) = []
told at (Some (Err wrong)) = mistake at (rule_of wrong) ∷ []
told at None = []

-- the kind that an operator gives, where there is no mistake
abbrev pub given : Option (Result Kind Wrong) → Option Kind
given (Some (Ok kind)) = Some kind
given (Some (Err wrong)) = None
given None = None

-- an operator at a place with one operand
abbrev pub one_judged : ℕ → (Kind → Result Kind Wrong) → Judgement → Judgement
one_judged at make operand = judgement (operand.mistakes ++ told at (of_one make operand.judged)) (given (of_one make operand.judged)) operand.judged.reach

-- an operator at a place with two operands
abbrev pub two_judged : ℕ → (Kind → Kind → Result Kind Wrong) → Judgement → Judgement → Judgement
two_judged at make left right =
    judgement (left.mistakes ++ (right.mistakes ++ told at (of_kinds make left.judged.kind right.judged.kind))) (given (of_kinds make left.judged.kind right.judged.kind)) (joined left.judged.reach right.judged.reach)

-- what a function that judges ensures: it gives what is known, and notes the mistakes
pub record Judges (given : Judged) (before : Foremost) (wanted : Judgement) (after : Foremost) : Type 0 where
  pub known : given ≡ wanted.judged
  pub noted : after ≡ noted_all before wanted.mistakes

-- ---- operators

abbrev pub sign_of : Sign → ValueSign
sign_of sign.Plus = value_sign.Plus
sign_of sign.Minus = value_sign.Minus

abbrev pub width_of : Width → ValueWidth
width_of width.Byte = value_width.Byte
width_of width.Half = value_width.Half
width_of width.Word = value_width.Word

-- a bound of BITS, where 255 stands for each that is greater
abbrev pub bound_of : ℕ → ℕ
bound_of value = if nat_lt value 256 then value else 255

-- of a quotient: the divisor has to be a numeral; a text is refused first
abbrev pub divided_kind : Option ℕ → Kind → Kind → Result Kind Wrong
divided_kind (Some divisor) left right = quotient_kind divisor left
divided_kind None left Text = Err Clash
divided_kind None Text right = Err Clash
divided_kind None left right = Err Divisor

-- of a product or a quotient
abbrev pub scaled_kind : Scale → Option ℕ → Kind → Kind → Result Kind Wrong
scaled_kind scale.Times numeral left right = product_kind left right
scaled_kind scale.Divide numeral left right = divided_kind numeral left right

-- of a memory form, whose address may stray to another row
abbrev pub addressed_kind : ValueWidth → Bool → Kind → Result Kind Wrong
addressed_kind width is_astray address = if is_astray then Err Clash else memory_kind width address

-- ---- names

abbrev pub is_empty : {A : Type 0} → List A → Bool
is_empty [] = true
is_empty (x ∷ xs) = false

-- a kind, where there are no mistakes
abbrev pub unless : List Mistake → Option Kind → Option Kind
unless mistakes kind = if is_empty mistakes then kind else None

-- where the first token of a name stands: its range variable's or its own
abbrev pub first_at : Option Label → ℕ → ℕ
first_at None at = at
first_at (Some label) at = label.at

-- a name whose own token stands at a place has no range variable
abbrev pub table_mistakes : List TableName → Option Label → ℕ → List Mistake
table_mistakes tables None at = mistake_if (nat_lt 1 (length tables)) at rule.Ambiguous
table_mistakes tables (Some label) at = mistake_if (not (is_some (table_meant tables (Some label)))) label.at rule.NoColumn

-- a variable can't be asked for
abbrev pub variable_mistakes : ℕ → ℕ → Option VarInfo → List Mistake
variable_mistakes first at None = []
variable_mistakes first at (Some info) = mistake_if info.ambiguous at rule.Ambiguous ++ mistake_if (not (is_some info.scalar)) first rule.NoScalar

-- a name is that of no column
abbrev pub own_mistakes : Variables → ColumnName → List Mistake
own_mistakes catalog column =
    mistake_if (not (is_some (column_meant catalog column.name))) (first_at column.qualifier column.at) rule.NoColumn
    ++ variable_mistakes (first_at column.qualifier column.at) column.at (info_of catalog (column_meant catalog column.name))

-- a column has to be grouped and isn't
abbrev pub group_mistakes : Scope → Bool → Option Grouped → ℕ → List Mistake
group_mistakes scope must_group place first = mistake_if (must_group && not (is_grouped scope.groups place)) first rule.NotGrouped

abbrev pub column_mistakes : Scope → Bool → ColumnName → List Mistake
column_mistakes scope must_group column =
    table_mistakes scope.tables column.qualifier column.at
    ++ (own_mistakes scope.catalog column
    ++ group_mistakes scope must_group (place_meant (table_meant scope.tables column.qualifier) (column_meant scope.catalog column.name)) (first_at column.qualifier column.at))

-- a column
unfoldable pub column_judged : Scope → Bool → ColumnName → Judgement
column_judged scope must_group column =
    judgement (column_mistakes scope must_group column) (unless (column_mistakes scope must_group column) (option_map (column_kind scope.catalog) (column_meant scope.catalog column.name))) (reach_of (table_meant scope.tables column.qualifier))

-- ---- memory forms and aggregates

abbrev pub form_mistakes : Scope → Bool → Option Label → ℕ → List Mistake
form_mistakes scope must_group qualifier at = table_mistakes scope.tables qualifier at ++ mistake_if must_group (first_at qualifier at) rule.NotGrouped

abbrev pub form_kind : Option ℕ → ValueWidth → Judged → Option (Result Kind Wrong)
form_kind table width address = of_one (addressed_kind width (strays table address.reach)) address

-- a memory form whose word stands at a place
unfoldable pub memory_judged : Scope → Bool → Option Label → ℕ → Width → Judgement → Judgement
memory_judged scope must_group qualifier at width address =
    judgement
    (form_mistakes scope must_group qualifier at ++ (address.mistakes ++ told at (form_kind (table_meant scope.tables qualifier) (width_of width) address.judged)))
    (unless (form_mistakes scope must_group qualifier at) (given (form_kind (table_meant scope.tables qualifier) (width_of width) address.judged)))
    (joined (reach_of (table_meant scope.tables qualifier)) address.judged.reach)

abbrev pub join_mistakes : List TableName → ℕ → List Mistake
join_mistakes tables at = mistake_if (nat_lt 1 (length tables)) at rule.CountOverJoin

-- COUNT of what is judged so
abbrev pub count_kind : List TableName → ℕ → Option Kind → Option Kind
count_kind tables at what = unless (join_mistakes tables at) (option_map (λ kind. word_numbers) what)

abbrev pub aggregate_mistakes : List TableName → ℕ → Function → List Mistake
aggregate_mistakes tables at function.Count = join_mistakes tables at
aggregate_mistakes tables at function.Min = []
aggregate_mistakes tables at function.Max = []

abbrev pub aggregate_kind : List TableName → ℕ → Function → Option Kind → Option Kind
aggregate_kind tables at function.Count what = count_kind tables at what
aggregate_kind tables at function.Min what = what
aggregate_kind tables at function.Max what = what

-- an aggregate at a place of what is judged so
abbrev pub aggregate_judged : List TableName → ℕ → Function → Judgement → Judgement
aggregate_judged tables at function what = judgement (what.mistakes ++ aggregate_mistakes tables at function) (aggregate_kind tables at function what.judged.kind) what.judged.reach

-- ---- expressions

-- an expression, where each column outside aggregates must be grouped, or need not
abbrev pub Judging : Type 0
Judging = Bool → Judgement

-- what a further term or factor makes of a sum or product before it
abbrev pub Growing : Type 0
Growing = Bool → Judgement → Judgement

abbrev pub grown : Bool → Judgement → List Growing → Judgement
grown must_group = fold (λ before next. next must_group before)

-- a sum or a product that begins with what is judged so
abbrev pub compound : Judgement → Judgement
compound first = judgement first.mistakes first.judged.kind first.judged.reach

abbrev pub judge_step : Scope → ExprTree-F Judging Growing Growing → Judging
judge_step scope (ExprTree-F.Numeral numeral) must_group = numeral_judged numeral.value
judge_step scope (ExprTree-F.Text at said) must_group = literal Text
judge_step scope (ExprTree-F.Null at) must_group = literal Null
judge_step scope (ExprTree-F.Column column) must_group = column_judged scope must_group column
judge_step scope (ExprTree-F.Sum first rest) must_group = grown must_group (compound (first must_group)) rest
judge_step scope (ExprTree-F.Product first rest) must_group = grown must_group (compound (first must_group)) rest
judge_step scope (ExprTree-F.Sign at sign expr) must_group = one_judged at (sign_kind (sign_of sign)) (expr must_group)
judge_step scope (ExprTree-F.Signed at expr) must_group = one_judged at signed_kind (expr must_group)
judge_step scope (ExprTree-F.Bits at expr high low) must_group = one_judged at (bits_kind (bound_of high.value) (bound_of low.value)) (expr must_group)
judge_step scope (ExprTree-F.Memory qualifier at width address) must_group = memory_judged scope must_group qualifier at width (address must_group)
judge_step scope (ExprTree-F.CountRows at) must_group = aggregate_judged scope.tables at function.Count (literal Null)
judge_step scope (ExprTree-F.Aggregate at function expr) must_group = aggregate_judged scope.tables at function (expr false)

abbrev pub addend_step : Addend-F Judging Growing Growing → Growing
addend_step addend must_group before = two_judged addend.at (sum_kind (sign_of addend.sign)) before (addend.term must_group)

abbrev pub scaled_judged : ℕ → Scale → Judgement → Judgement → Judgement
scaled_judged at scale left right = two_judged at (scaled_kind scale right.judged.numeral) left right

abbrev pub factor_step : Factor-F Judging Growing Growing → Growing
factor_step factor must_group before = scaled_judged factor.at factor.scale before (factor.factor must_group)

-- an expression, where each column outside aggregates must be grouped, or need not
unfoldable pub judged : Scope → ExprTree → Bool → Judgement
judged scope = fold-ExprTree Judging Growing Growing (judge_step scope) addend_step factor_step
