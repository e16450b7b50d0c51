-- The expressions of a query without a mistake are accepted by the kinds of the columns.
use Rattle.std.proofs.Common.{◌≡◌, ℕ, Bool, true, false, not, List, [], ◌∷◌, ◌++◌, length, map, pos, Option, Some, None, Result, Ok, Err, refl, sym, ap, ◌∙◌}
use Rattle.std.specs.Prelude.{◌||◌, is_some}
use Rattle.std.specs.List.{fold, list_any}
use Rattle.std.specs.Option.{option_map}
use Rattle.om_grammar.specs.declared.expr_tree.Addend.{Addend}
use Rattle.om_grammar.specs.declared.expr_tree.ExprTree.{ExprTree}
use Rattle.om_grammar.specs.declared.expr_tree.ExprTree.TheVariants as v
use Rattle.om_grammar.specs.declared.expr_tree.ExprTree.TheViews as e
use Rattle.om_grammar.specs.declared.expr_tree.Factor.{Factor}
use Rattle.om_grammar.specs.declared.expr_tree.Numeral.{Numeral}
use Rattle.om_grammar.specs.declared.expr_tree.Scale.{Scale}
use Rattle.om_grammar.specs.declared.expr_tree.Scale.TheVariants as scale
use Rattle.om_grammar.specs.declared.expr_tree.Width.{Width}
use Rattle.om_grammar.specs.declared.tree.ColumnName.{ColumnName}
use Rattle.om_grammar.specs.declared.tree.Label.{Label}
use Rattle.om_grammar.specs.declared.tree.TableName.{TableName}
use Rattle.om_value.specs.ColumnKinds.{column_kind}
use Rattle.om_value.specs.Kinds.{after, kind, numbers, sum_kind, product_kind, quotient_kind, sign_kind, signed_kind, bits_kind, memory_kind}
use Rattle.om_value.specs.declared.column.ColumnId.{ColumnId}
use Rattle.om_value.specs.declared.expr.Expr.{Expr}
use Rattle.om_value.specs.declared.expr.Expr.TheVariants as expr
use Rattle.om_value.specs.declared.expr.Expr.TheViews as view
use Rattle.om_value.specs.declared.expr.Width.{Width as ValueWidth}
use Rattle.om_value.specs.declared.kind.Kind.{Kind}
use Rattle.om_value.specs.declared.kind.Kind.TheVariants.{Int, Text, Null}
use Rattle.om_value.specs.declared.kind.Wrong.{Wrong}
use Rattle.om_value.proofs.KindsOf.{with_addend_kind, with_factor_kind, kind-Numeral, kind-Text, kind-Null, kind-Column, kind-Sum, kind-Product, kind-Sign, kind-Signed, kind-Bits, kind-Memory}
use Rattle.om_typing.specs.Judging.{Judgement, compound, told, given, of_one, of_kinds, one_judged, scaled_kind, divided_kind, addressed_kind, form_mistakes, table_mistakes, own_mistakes, group_mistakes, strays, first_at, unless, sign_of, width_of, bound_of, literal, column_judged, memory_judged, judged}
use Rattle.om_typing.specs.Mistakes.{mistake_if}
use Rattle.om_typing.specs.Names.{Scope, table_meant, column_meant, place_meant, place_of}
use Rattle.om_typing.specs.Queries.{has_aggregate}
use Rattle.om_typing.specs.Typing.{column_expr, divisor_of, factor_of, table_or_first, expr_in}
use Rattle.om_typing.specs.declared.judged.Judged.{Judged}
use Rattle.om_typing.specs.declared.mistake.Mistake.{Mistake}
use Rattle.om_typing.specs.declared.mistake.Rule.{Rule}
use Rattle.om_typing.proofs.AggregateLemmas.{aggregate_sum, aggregate_product, aggregate_sign, aggregate_signed, aggregate_bits, aggregate_memory, aggregate_count_rows, aggregate_aggregate}
use Rattle.om_typing.proofs.Judgings.{with_addend, with_factor, judged_numeral, judged_text, judged_null, judged_column, judged_sum, judged_product, judged_sign, judged_signed, judged_bits, judged_memory}
use Rattle.om_typing.proofs.Resolutions.{addend_in, factor_in, resolved_numeral, resolved_text, resolved_null, resolved_column, resolved_sum, resolved_product, resolved_sign, resolved_signed, resolved_bits, resolved_memory}
use Rattle.om_typing.proofs.TreeInduction.{Each, OfTerm, OfFactor, by_tree}

-- ---- lists without members

pub front_none : {A : Type 0} (xs ys : List A) → xs ++ ys ≡ [] → xs ≡ []
front_none [] ys is = refl
front_none (x ∷ xs) ys is = absurd cc

pub back_none : {A : Type 0} (xs ys : List A) → xs ++ ys ≡ [] → ys ≡ []
back_none [] ys is = is
back_none (x ∷ xs) ys is = absurd cc

pub or_front : (a b : Bool) → (a || b) ≡ false → a ≡ false
or_front false b is = refl
or_front true b is = is

pub or_back : (a b : Bool) → (a || b) ≡ false → b ≡ false
or_back false b is = is
or_back true b is = absurd cc

-- ---- operators that are not refused

made_is : (at : ℕ) (made : Result Kind Wrong) → told at (Some made) ≡ [] → (k : Kind) × (made ≡ Ok k)
made_is at (Ok k) is = (k, refl)
made_is at (Err wrong) is = absurd cc

some_of : {A : Type 0} (found : Option A) (at : ℕ) (rule : Rule) → mistake_if (not (is_some found)) at rule ≡ [] → (x : A) × (found ≡ Some x)
some_of (Some x) at rule is = (x, refl)
some_of None at rule is = absurd cc

-- ---- what is shown of an expression

abbrev pub columns : Scope → ColumnId → Kind
columns scope = column_kind scope.catalog

abbrev known_of : Scope → ExprTree → Judged
known_of scope tree = (judged scope tree false).judged

-- its kind is that of the expression with its names resolved
pub record Fits (scope : Scope) (tree : ExprTree) : Type 0 where
  pub found : Kind
  pub known : (known_of scope tree).kind ≡ Some found
  pub kinded : kind (columns scope) (expr_in scope tree) ≡ Ok found
  pub numeral : (value : ℕ) → (known_of scope tree).numeral ≡ Some value → expr_in scope tree ≡ expr.Numeral value

abbrev Accepted : Scope → ExprTree → Type 0
Accepted scope tree = has_aggregate tree ≡ false → (judged scope tree false).mistakes ≡ [] → Fits scope tree

-- ---- operators with one operand

one_fits : (scope : Scope) (tree operand : ExprTree) (made : Expr) (at : ℕ) (make : Kind → Result Kind Wrong)
    → judged scope tree false ≡ one_judged at make (judged scope operand false) → expr_in scope tree ≡ made → kind (columns scope) made ≡ after (kind (columns scope) (expr_in scope operand)) make
    → has_aggregate tree ≡ has_aggregate operand → Accepted scope operand → Accepted scope tree
one_fits scope tree operand made at make judged_is made_is_expr kind_is same accepted plain none =
    let all = sym (ap (λ (j : Judgement). j.mistakes) judged_is) ∙ none in
    let own = told at (of_one make (known_of scope operand)) in
    let inner = accepted (sym same ∙ plain) (front_none (judged scope operand false).mistakes own all) in
    let result = made_is at (make inner.found) (sym (ap (λ (k : Option Kind). told at (option_map make k)) inner.known) ∙ back_none (judged scope operand false).mistakes own all) in
    record {
      found = result.0;
      known = ap (λ (j : Judgement). j.judged.kind) judged_is ∙ ap (λ (k : Option Kind). given (option_map make k)) inner.known ∙ ap (λ (r : Result Kind Wrong). given (Some r)) result.1;
      kinded = ap (kind (columns scope)) made_is_expr ∙ kind_is ∙ ap (λ (r : Result Kind Wrong). after r make) inner.kinded ∙ result.1;
      numeral = λ value is. let never : None ≡ Some value = sym (ap (λ (j : Judgement). j.judged.numeral) judged_is) ∙ is in absurd cc;
    }

-- ---- sums

first_of_sum : (scope : Scope) (rest : List Addend) (before : Judgement) → (fold (with_addend scope false) before rest).mistakes ≡ [] → before.mistakes ≡ []
first_of_sum scope [] before none = none
first_of_sum scope (x ∷ xs) before none = front_none before.mistakes _ (first_of_sum scope xs (with_addend scope false before x) none)

-- a sum so far is of a kind
record Runs (scope : Scope) (so_far : Judgement) (kinds : Result Kind Wrong) : Type 0 where
  found : Kind
  known : so_far.judged.kind ≡ Some found
  kinded : kinds ≡ Ok found

sum_runs : (scope : Scope) (rest : List Addend) (before : Judgement) (kinds : Result Kind Wrong) → Runs scope before kinds → Each (OfTerm (Accepted scope)) rest → list_any (λ addend. has_aggregate addend.term) rest ≡ false
    → (fold (with_addend scope false) before rest).mistakes ≡ [] → Runs scope (fold (with_addend scope false) before rest) (fold (with_addend_kind (kind (columns scope))) kinds (map (addend_in scope) rest))
sum_runs scope [] before kinds runs each plain none = runs
sum_runs scope (x ∷ xs) before kinds runs each plain none =
    let make = sum_kind (sign_of x.sign) in
    let term = judged scope x.term false in
    let own = told x.at (of_kinds make before.judged.kind term.judged.kind) in
    let here = first_of_sum scope xs (with_addend scope false before x) none in
    let behind = back_none before.mistakes (term.mistakes ++ own) here in
    let inner = each.0 (or_front (has_aggregate x.term) (list_any (λ addend. has_aggregate addend.term) xs) plain) (front_none term.mistakes own behind) in
    let both : of_kinds make before.judged.kind term.judged.kind ≡ Some (make runs.found inner.found) = ap (λ (k : Option Kind). of_kinds make k term.judged.kind) runs.known ∙ ap (of_kinds make (Some runs.found)) inner.known in
    let result = made_is x.at (make runs.found inner.found) (sym (ap (told x.at) both) ∙ back_none term.mistakes own behind) in
    let next : Runs scope (with_addend scope false before x) (with_addend_kind (kind (columns scope)) kinds (addend_in scope x)) = record {
      found = result.0;
      known = ap given both ∙ ap (λ (r : Result Kind Wrong). given (Some r)) result.1;
      kinded = ap (λ (r : Result Kind Wrong). after r (λ left. after (kind (columns scope) (expr_in scope x.term)) (make left))) runs.kinded ∙ ap (λ (r : Result Kind Wrong). after r (make runs.found)) inner.kinded ∙ result.1;
    } in
    sum_runs scope xs (with_addend scope false before x) (with_addend_kind (kind (columns scope)) kinds (addend_in scope x)) next each.1 (or_back (has_aggregate x.term) (list_any (λ addend. has_aggregate addend.term) xs) plain) none

-- ---- products

first_of_product : (scope : Scope) (rest : List Factor) (before : Judgement) → (fold (with_factor scope false) before rest).mistakes ≡ [] → before.mistakes ≡ []
first_of_product scope [] before none = none
first_of_product scope (x ∷ xs) before none = front_none before.mistakes _ (first_of_product scope xs (with_factor scope false before x) none)

no_divisor : (left right k : Kind) → divided_kind None left right ≡ Ok k → ⊥
no_divisor (Int a) (Int b) k is = cc
no_divisor (Int a) Text k is = cc
no_divisor (Int a) Null k is = cc
no_divisor Text (Int b) k is = cc
no_divisor Text Text k is = cc
no_divisor Text Null k is = cc
no_divisor Null (Int b) k is = cc
no_divisor Null Text k is = cc
no_divisor Null Null k is = cc

factor_kinded : (cols : ColumnId → Kind) (which : Scale) (numeral : Option ℕ) (factor : Expr) (left right k : Kind) (kinds : Result Kind Wrong)
    → kinds ≡ Ok left → kind cols factor ≡ Ok right → ((value : ℕ) → numeral ≡ Some value → factor ≡ expr.Numeral value) → scaled_kind which numeral left right ≡ Ok k
    → with_factor_kind (kind cols) kinds (factor_of which factor) ≡ Ok k
factor_kinded cols scale.Times numeral factor left right k kinds left_is right_is is_numeral made =
    ap (λ (r : Result Kind Wrong). after r (λ l. after (kind cols factor) (product_kind l))) left_is ∙ ap (λ (r : Result Kind Wrong). after r (product_kind left)) right_is ∙ made
factor_kinded cols scale.Divide (Some value) factor left right k kinds left_is right_is is_numeral made =
    ap (λ (r : Result Kind Wrong). after r (quotient_kind (divisor_of factor))) left_is ∙ ap (λ (n : ℕ). quotient_kind n left) (ap divisor_of (is_numeral value refl)) ∙ made
factor_kinded cols scale.Divide None factor left right k kinds left_is right_is is_numeral made = absurd (no_divisor left right k made)

product_runs : (scope : Scope) (rest : List Factor) (before : Judgement) (kinds : Result Kind Wrong) → Runs scope before kinds → Each (OfFactor (Accepted scope)) rest → list_any (λ factor. has_aggregate factor.factor) rest ≡ false
    → (fold (with_factor scope false) before rest).mistakes ≡ [] → Runs scope (fold (with_factor scope false) before rest) (fold (with_factor_kind (kind (columns scope))) kinds (map (factor_in scope) rest))
product_runs scope [] before kinds runs each plain none = runs
product_runs scope (x ∷ xs) before kinds runs each plain none =
    let right = judged scope x.factor false in
    let make = scaled_kind x.scale right.judged.numeral in
    let own = told x.at (of_kinds make before.judged.kind right.judged.kind) in
    let here = first_of_product scope xs (with_factor scope false before x) none in
    let behind = back_none before.mistakes (right.mistakes ++ own) here in
    let inner = each.0 (or_front (has_aggregate x.factor) (list_any (λ factor. has_aggregate factor.factor) xs) plain) (front_none right.mistakes own behind) in
    let both : of_kinds make before.judged.kind right.judged.kind ≡ Some (make runs.found inner.found) = ap (λ (k : Option Kind). of_kinds make k right.judged.kind) runs.known ∙ ap (of_kinds make (Some runs.found)) inner.known in
    let result = made_is x.at (make runs.found inner.found) (sym (ap (told x.at) both) ∙ back_none right.mistakes own behind) in
    let next : Runs scope (with_factor scope false before x) (with_factor_kind (kind (columns scope)) kinds (factor_in scope x)) = record {
      found = result.0;
      known = ap given both ∙ ap (λ (r : Result Kind Wrong). given (Some r)) result.1;
      kinded = factor_kinded (columns scope) x.scale right.judged.numeral (expr_in scope x.factor) runs.found inner.found result.0 kinds runs.kinded inner.kinded inner.numeral result.1;
    } in
    product_runs scope xs (with_factor scope false before x) (with_factor_kind (kind (columns scope)) kinds (factor_in scope x)) next each.1 (or_back (has_aggregate x.factor) (list_any (λ factor. has_aggregate factor.factor) xs) plain) none

-- ---- names

table_some : (tables : List TableName) (qualifier : Option Label) (at : ℕ) → length tables ≡ 1 → table_mistakes tables qualifier at ≡ [] → (table : ℕ) × (table_meant tables qualifier ≡ Some table)
table_some tables (Some label) at one none = some_of (table_meant tables (Some label)) label.at _ none
table_some [] None at one none = absurd cc
table_some (x ∷ []) None at one none = (0, refl)
table_some (x ∷ y ∷ ys) None at one none = absurd cc

column_fits : (scope : Scope) (column : ColumnName) → length scope.tables ≡ 1 → Accepted scope (v.Column column)
unfolding column_judged
column_fits scope column one plain none =
    let judged_is = judged_column scope false column in
    let all = sym (ap (λ (j : Judgement). j.mistakes) judged_is) ∙ none in
    let of_table = table_mistakes scope.tables column.qualifier column.at in
    let of_own = own_mistakes scope.catalog column in
    let of_group = group_mistakes scope false (place_meant (table_meant scope.tables column.qualifier) (column_meant scope.catalog column.name)) (first_at column.qualifier column.at) in
    let table = table_some scope.tables column.qualifier column.at one (front_none of_table (of_own ++ of_group) all) in
    let meant = some_of (column_meant scope.catalog column.name) (first_at column.qualifier column.at) _ (front_none _ _ (front_none of_own of_group (back_none of_table (of_own ++ of_group) all))) in
    let place : place_of scope.catalog scope.tables column ≡ Some (record { table = table.0; column = meant.0 }) = ap (λ (t : Option ℕ). place_meant t (column_meant scope.catalog column.name)) table.1 ∙ ap (place_meant (Some table.0)) meant.1 in
    record {
      found = columns scope meant.0;
      known = ap (λ (j : Judgement). j.judged.kind) judged_is ∙ ap (λ (ms : List Mistake). unless ms (option_map (column_kind scope.catalog) (column_meant scope.catalog column.name))) all ∙ ap (option_map (column_kind scope.catalog)) meant.1;
      kinded = ap (kind (columns scope)) (resolved_column scope column ∙ ap column_expr place) ∙ kind-Column (columns scope) (record { table = table.0; id = meant.0 });
      numeral = λ value is. let never : None ≡ Some value = sym (ap (λ (j : Judgement). j.judged.numeral) judged_is) ∙ is in absurd cc;
    }

-- ---- memory forms

addressed_is : (width : ValueWidth) (is_astray : Bool) (address k : Kind) → addressed_kind width is_astray address ≡ Ok k → memory_kind width address ≡ Ok k
addressed_is width true address k is = absurd cc
addressed_is width false address k is = is

memory_fits : (scope : Scope) (qualifier : Option Label) (at : ℕ) (width : Width) (address : ExprTree) → Accepted scope address → Accepted scope (e.Memory qualifier at width address)
unfolding memory_judged
memory_fits scope qualifier at width address accepted plain none =
    let judged_is = judged_memory scope false qualifier at width address in
    let all = sym (ap (λ (j : Judgement). j.mistakes) judged_is) ∙ none in
    let table = table_meant scope.tables qualifier in
    let form = form_mistakes scope false qualifier at in
    let astray = strays table (known_of scope address).reach in
    let make = addressed_kind (width_of width) astray in
    let own = told at (of_one make (known_of scope address)) in
    let inside = back_none form ((judged scope address false).mistakes ++ own) all in
    let inner = accepted (sym (aggregate_memory qualifier at width address) ∙ plain) (front_none (judged scope address false).mistakes own inside) in
    let result = made_is at (make inner.found) (sym (ap (λ (k : Option Kind). told at (option_map make k)) inner.known) ∙ back_none (judged scope address false).mistakes own inside) in
    record {
      found = result.0;
      known = ap (λ (j : Judgement). j.judged.kind) judged_is ∙ ap (λ (ms : List Mistake). unless ms (given (of_one make (known_of scope address)))) (front_none form ((judged scope address false).mistakes ++ own) all) ∙ ap (λ (k : Option Kind). given (option_map make k)) inner.known ∙ ap (λ (r : Result Kind Wrong). given (Some r)) result.1;
      kinded = ap (kind (columns scope)) (resolved_memory scope qualifier at width address) ∙ kind-Memory (columns scope) (table_or_first table) (width_of width) (expr_in scope address) ∙ ap (λ (r : Result Kind Wrong). after r (memory_kind (width_of width))) inner.kinded ∙ addressed_is (width_of width) astray inner.found result.0 result.1;
      numeral = λ value is. let never : None ≡ Some value = sym (ap (λ (j : Judgement). j.judged.numeral) judged_is) ∙ is in absurd cc;
    }

-- ---- expressions

literal_fits : (scope : Scope) (tree : ExprTree) (made : Expr) (found : Kind) → judged scope tree false ≡ literal found → expr_in scope tree ≡ made → kind (columns scope) made ≡ Ok found → Fits scope tree
literal_fits scope tree made found judged_is made_is_expr kind_is = record {
  found = found;
  known = ap (λ (j : Judgement). j.judged.kind) judged_is;
  kinded = ap (kind (columns scope)) made_is_expr ∙ kind_is;
  numeral = λ value is. let never : None ≡ Some value = sym (ap (λ (j : Judgement). j.judged.numeral) judged_is) ∙ is in absurd cc;
}

no_numeral_sum : (scope : Scope) (rest : List Addend) (before : Judgement) → before.judged.numeral ≡ None → (fold (with_addend scope false) before rest).judged.numeral ≡ None
no_numeral_sum scope [] before none = none
no_numeral_sum scope (x ∷ xs) before none = no_numeral_sum scope xs (with_addend scope false before x) refl

no_numeral_product : (scope : Scope) (rest : List Factor) (before : Judgement) → before.judged.numeral ≡ None → (fold (with_factor scope false) before rest).judged.numeral ≡ None
no_numeral_product scope [] before none = none
no_numeral_product scope (x ∷ xs) before none = no_numeral_product scope xs (with_factor scope false before x) refl

sum_fits : (scope : Scope) (first : ExprTree) (rest : List Addend) → Accepted scope first → Each (OfTerm (Accepted scope)) rest → Accepted scope (e.Sum first rest)
sum_fits scope first rest accepted each plain none =
    let judged_is = judged_sum scope false first rest in
    let flat = sym (aggregate_sum first rest) ∙ plain in
    let start = compound (judged scope first false) in
    let all = sym (ap (λ (j : Judgement). j.mistakes) judged_is) ∙ none in
    let inner = accepted (or_front (has_aggregate first) (list_any (λ addend. has_aggregate addend.term) rest) flat) (first_of_sum scope rest start all) in
    let runs = sum_runs scope rest start (kind (columns scope) (expr_in scope first)) (record { found = inner.found; known = inner.known; kinded = inner.kinded }) each (or_back (has_aggregate first) (list_any (λ addend. has_aggregate addend.term) rest) flat) all in
    record {
      found = runs.found;
      known = ap (λ (j : Judgement). j.judged.kind) judged_is ∙ runs.known;
      kinded = ap (kind (columns scope)) (resolved_sum scope first rest) ∙ kind-Sum (columns scope) (expr_in scope first) (map (addend_in scope) rest) ∙ runs.kinded;
      numeral = λ value is. let never : None ≡ Some value = sym (ap (λ (j : Judgement). j.judged.numeral) judged_is ∙ no_numeral_sum scope rest start refl) ∙ is in absurd cc;
    }

product_fits : (scope : Scope) (first : ExprTree) (rest : List Factor) → Accepted scope first → Each (OfFactor (Accepted scope)) rest → Accepted scope (e.Product first rest)
product_fits scope first rest accepted each plain none =
    let judged_is = judged_product scope false first rest in
    let flat = sym (aggregate_product first rest) ∙ plain in
    let start = compound (judged scope first false) in
    let all = sym (ap (λ (j : Judgement). j.mistakes) judged_is) ∙ none in
    let inner = accepted (or_front (has_aggregate first) (list_any (λ factor. has_aggregate factor.factor) rest) flat) (first_of_product scope rest start all) in
    let runs = product_runs scope rest start (kind (columns scope) (expr_in scope first)) (record { found = inner.found; known = inner.known; kinded = inner.kinded }) each (or_back (has_aggregate first) (list_any (λ factor. has_aggregate factor.factor) rest) flat) all in
    record {
      found = runs.found;
      known = ap (λ (j : Judgement). j.judged.kind) judged_is ∙ runs.known;
      kinded = ap (kind (columns scope)) (resolved_product scope first rest) ∙ kind-Product (columns scope) (expr_in scope first) (map (factor_in scope) rest) ∙ runs.kinded;
      numeral = λ value is. let never : None ≡ Some value = sym (ap (λ (j : Judgement). j.judged.numeral) judged_is ∙ no_numeral_product scope rest start refl) ∙ is in absurd cc;
    }

numeral_fits : (scope : Scope) (numeral : Numeral) → Fits scope (v.Numeral numeral)
numeral_fits scope numeral =
    let judged_is = judged_numeral scope false numeral in
    record {
      found = numbers (pos numeral.value) (pos numeral.value);
      known = ap (λ (j : Judgement). j.judged.kind) judged_is;
      kinded = ap (kind (columns scope)) (resolved_numeral scope numeral) ∙ kind-Numeral (columns scope) numeral.value;
      numeral = λ value is. let same : Some numeral.value ≡ Some value = sym (ap (λ (j : Judgement). j.judged.numeral) judged_is) ∙ is in resolved_numeral scope numeral ∙ ap expr.Numeral (some_same numeral.value value same);
    }
  where
    some_same : (m n : ℕ) → Some m ≡ Some n → m ≡ n
    some_same m n is = cc

-- an expression without a mistake, over one range variable
pub expr_fits : (scope : Scope) → length scope.tables ≡ 1 → (tree : ExprTree) → has_aggregate tree ≡ false → (judged scope tree false).mistakes ≡ [] → Fits scope tree
expr_fits scope one = by_tree (Accepted scope) record {
  numeral = λ numeral plain none. numeral_fits scope numeral;
  text = λ at said plain none. literal_fits scope (v.Text at said) (expr.Text said) Text (judged_text scope false at said) (resolved_text scope at said) (kind-Text (columns scope) said);
  nothing = λ at plain none. literal_fits scope (v.Null at) expr.Null Null (judged_null scope false at) (resolved_null scope at) (kind-Null (columns scope));
  column = λ column. column_fits scope column one;
  sum = λ first rest. sum_fits scope first rest;
  product = λ first rest. product_fits scope first rest;
  sign = λ at s x accepted. one_fits scope (e.Sign at s x) x (view.Sign (sign_of s) (expr_in scope x)) at (sign_kind (sign_of s)) (judged_sign scope false at s x) (resolved_sign scope at s x) (kind-Sign (columns scope) (sign_of s) (expr_in scope x)) (aggregate_sign at s x) accepted;
  signed = λ at x accepted. one_fits scope (e.Signed at x) x (view.Signed (expr_in scope x)) at signed_kind (judged_signed scope false at x) (resolved_signed scope at x) (kind-Signed (columns scope) (expr_in scope x)) (aggregate_signed at x) accepted;
  bits = λ at x high low accepted. one_fits scope (e.Bits at x high low) x (view.Bits (expr_in scope x) (bound_of high.value) (bound_of low.value)) at (bits_kind (bound_of high.value) (bound_of low.value)) (judged_bits scope false at x high low) (resolved_bits scope at x high low) (kind-Bits (columns scope) (expr_in scope x) (bound_of high.value) (bound_of low.value)) (aggregate_bits at x high low) accepted;
  memory = λ qualifier at width address accepted. memory_fits scope qualifier at width address accepted;
  rows = λ at plain none. let never : true ≡ false = sym (aggregate_count_rows at) ∙ plain in absurd cc;
  aggregate = λ at function x accepted plain none. let never : true ≡ false = sym (aggregate_aggregate at function x) ∙ plain in absurd cc;
}
