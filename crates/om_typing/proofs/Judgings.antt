-- An expression as it is judged, by its parts.
use Rattle.std.proofs.Common.{◌≡◌, ℕ, ◌+◌, ◌<◌, Bool, false, List, [], ◌∷◌, ◌++◌, length, map, take, get_or, Option, None, Result, refl, sym, ap, ◌∙◌}
use Rattle.std.specs.Prelude.{if◌then◌else◌}
use Rattle.std.specs.List.{fold}
use Rattle.std.proofs.lemmas.List.{take_more}
use Rattle.om_grammar.specs.declared.tree.Label.{Label}
use Rattle.om_grammar.specs.declared.tree.ColumnName.{ColumnName}
use Rattle.om_grammar.specs.declared.expr_tree.ExprTree.{ExprTree}
use Rattle.om_grammar.specs.declared.expr_tree.ExprTree.TheFolds.{fold-Addend, fold-Factor, fold-roll-ExprTree, fold_out-Addend, fold_out-Factor}
use Rattle.om_grammar.specs.declared.expr_tree.ExprTree.TheOpen.{ExprTree-F}
use Rattle.om_grammar.specs.declared.expr_tree.ExprTree.TheVariants as v
use Rattle.om_grammar.specs.declared.expr_tree.ExprTree.TheVariants.{rolls-Numeral, rolls-Text, rolls-Null, rolls-Column, rolls-Sum, rolls-Product, rolls-Sign, rolls-Signed, rolls-Bits, rolls-Memory, rolls-CountRows, rolls-Aggregate}
use Rattle.om_grammar.specs.declared.expr_tree.ExprTree.TheViews as e
use Rattle.om_grammar.specs.declared.expr_tree.Addend.{Addend}
use Rattle.om_grammar.specs.declared.expr_tree.Factor.{Factor}
use Rattle.om_grammar.specs.declared.expr_tree.Numeral.{Numeral}
use Rattle.om_grammar.specs.declared.expr_tree.Scale.{Scale}
use Rattle.om_grammar.specs.declared.expr_tree.Sign.{Sign}
use Rattle.om_grammar.specs.declared.expr_tree.Width.{Width}
use Rattle.om_grammar.specs.declared.expr_tree.Function.{Function}
use Rattle.om_grammar.specs.declared.expr_tree.Function.TheVariants as function
use Rattle.om_value.specs.Kinds.{sum_kind, sign_kind, signed_kind, bits_kind}
use Rattle.om_value.specs.declared.kind.Kind.{Kind}
use Rattle.om_value.specs.declared.kind.Kind.TheVariants.{Text, Null}
use Rattle.om_value.specs.declared.kind.Wrong.{Wrong}
use Rattle.om_typing.specs.Judging.{Judges, judgement, compound, told, given, of_one, of_kinds, joined, Judgement, Judging, Growing, grown, sign_of, bound_of, numeral_judged, literal, column_judged, one_judged, two_judged, scaled_kind, scaled_judged, memory_judged, aggregate_judged, form_mistakes, form_kind, width_of, aggregate_mistakes, aggregate_kind, is_empty, reach_of, judge_step, addend_step, factor_step, judged}
use Rattle.om_typing.specs.Mistakes.{noted_all}
use Rattle.om_typing.specs.Names.{Scope, table_meant}
use Rattle.om_typing.specs.declared.judged.Judged.{Judged}
use Rattle.om_typing.specs.declared.judged.Reach.{Reach}
use Rattle.om_typing.specs.declared.mistake.Foremost.{Foremost}
use Rattle.om_typing.proofs.Noting.{noted_append}

-- a sum so far, with another term
abbrev pub with_addend : Scope → Bool → Judgement → Addend → Judgement
with_addend scope must_group before addend = two_judged addend.at (sum_kind (sign_of addend.sign)) before (judged scope addend.term must_group)

-- a product so far, with another factor
abbrev pub with_factor : Scope → Bool → Judgement → Factor → Judgement
with_factor scope must_group before factor = scaled_judged factor.at factor.scale before (judged scope factor.factor must_group)

addend_is : (scope : Scope) (must_group : Bool) (addend : Addend) (before : Judgement) → fold-Addend Judging Growing Growing (judge_step scope) addend_step factor_step addend must_group before ≡ with_addend scope must_group before addend
unfolding judged
addend_is scope must_group addend before = ap (λ (grow : Growing). grow must_group before) (fold_out-Addend Judging Growing Growing (judge_step scope) addend_step factor_step addend)

factor_is : (scope : Scope) (must_group : Bool) (factor : Factor) (before : Judgement) → fold-Factor Judging Growing Growing (judge_step scope) addend_step factor_step factor must_group before ≡ with_factor scope must_group before factor
unfolding judged
factor_is scope must_group factor before = ap (λ (grow : Growing). grow must_group before) (fold_out-Factor Judging Growing Growing (judge_step scope) addend_step factor_step factor)

each_grown : {X : Type 0} (must_group : Bool) (made : X → Growing) (grow : Judgement → X → Judgement) → ((x : X) (before : Judgement) → made x must_group before ≡ grow before x) → (first : Judgement) (xs : List X) → grown must_group first (map made xs) ≡ fold grow first xs
each_grown must_group made grow same first [] = refl
each_grown must_group made grow same first (x ∷ xs) = ap (λ (j : Judgement). grown must_group j (map made xs)) (same x first) ∙ each_grown must_group made grow same (grow first x) xs

pub judged_numeral : (scope : Scope) (must_group : Bool) (numeral : Numeral) → judged scope (v.Numeral numeral) must_group ≡ numeral_judged numeral.value
unfolding judged
judged_numeral scope must_group numeral = ap (λ (j : Judging). j must_group) (ap (judged scope) (sym (rolls-Numeral numeral)) ∙ fold-roll-ExprTree Judging Growing Growing (judge_step scope) addend_step factor_step (ExprTree-F.Numeral numeral))

pub judged_text : (scope : Scope) (must_group : Bool) (at : ℕ) (said : List ℕ) → judged scope (v.Text at said) must_group ≡ literal Text
unfolding judged
judged_text scope must_group at said = ap (λ (j : Judging). j must_group) (ap (judged scope) (sym (rolls-Text at said)) ∙ fold-roll-ExprTree Judging Growing Growing (judge_step scope) addend_step factor_step (ExprTree-F.Text at said))

pub judged_null : (scope : Scope) (must_group : Bool) (at : ℕ) → judged scope (v.Null at) must_group ≡ literal Null
unfolding judged
judged_null scope must_group at = ap (λ (j : Judging). j must_group) (ap (judged scope) (sym (rolls-Null at)) ∙ fold-roll-ExprTree Judging Growing Growing (judge_step scope) addend_step factor_step (ExprTree-F.Null at))

pub judged_column : (scope : Scope) (must_group : Bool) (column : ColumnName) → judged scope (v.Column column) must_group ≡ column_judged scope must_group column
unfolding judged
judged_column scope must_group column = ap (λ (j : Judging). j must_group) (ap (judged scope) (sym (rolls-Column column)) ∙ fold-roll-ExprTree Judging Growing Growing (judge_step scope) addend_step factor_step (ExprTree-F.Column column))

pub judged_sum : (scope : Scope) (must_group : Bool) (first : ExprTree) (rest : List Addend) → judged scope (e.Sum first rest) must_group ≡ fold (with_addend scope must_group) (compound (judged scope first must_group)) rest
unfolding judged
judged_sum scope must_group first rest = ap (λ (j : Judging). j must_group) (ap (judged scope) (sym (rolls-Sum first rest)) ∙ fold-roll-ExprTree Judging Growing Growing (judge_step scope) addend_step factor_step (ExprTree-F.Sum first rest))
    ∙ each_grown must_group (fold-Addend Judging Growing Growing (judge_step scope) addend_step factor_step) (with_addend scope must_group) (addend_is scope must_group) (compound (judged scope first must_group)) rest

pub judged_product : (scope : Scope) (must_group : Bool) (first : ExprTree) (rest : List Factor) → judged scope (e.Product first rest) must_group ≡ fold (with_factor scope must_group) (compound (judged scope first must_group)) rest
unfolding judged
judged_product scope must_group first rest = ap (λ (j : Judging). j must_group) (ap (judged scope) (sym (rolls-Product first rest)) ∙ fold-roll-ExprTree Judging Growing Growing (judge_step scope) addend_step factor_step (ExprTree-F.Product first rest))
    ∙ each_grown must_group (fold-Factor Judging Growing Growing (judge_step scope) addend_step factor_step) (with_factor scope must_group) (factor_is scope must_group) (compound (judged scope first must_group)) rest

pub judged_sign : (scope : Scope) (must_group : Bool) (at : ℕ) (sign : Sign) (expr : ExprTree) → judged scope (e.Sign at sign expr) must_group ≡ one_judged at (sign_kind (sign_of sign)) (judged scope expr must_group)
unfolding judged
judged_sign scope must_group at sign expr = ap (λ (j : Judging). j must_group) (ap (judged scope) (sym (rolls-Sign at sign expr)) ∙ fold-roll-ExprTree Judging Growing Growing (judge_step scope) addend_step factor_step (ExprTree-F.Sign at sign expr))

pub judged_signed : (scope : Scope) (must_group : Bool) (at : ℕ) (expr : ExprTree) → judged scope (e.Signed at expr) must_group ≡ one_judged at signed_kind (judged scope expr must_group)
unfolding judged
judged_signed scope must_group at expr = ap (λ (j : Judging). j must_group) (ap (judged scope) (sym (rolls-Signed at expr)) ∙ fold-roll-ExprTree Judging Growing Growing (judge_step scope) addend_step factor_step (ExprTree-F.Signed at expr))

pub judged_bits : (scope : Scope) (must_group : Bool) (at : ℕ) (expr : ExprTree) (high low : Numeral) → judged scope (e.Bits at expr high low) must_group ≡ one_judged at (bits_kind (bound_of high.value) (bound_of low.value)) (judged scope expr must_group)
unfolding judged
judged_bits scope must_group at expr high low = ap (λ (j : Judging). j must_group) (ap (judged scope) (sym (rolls-Bits at expr high low)) ∙ fold-roll-ExprTree Judging Growing Growing (judge_step scope) addend_step factor_step (ExprTree-F.Bits at expr high low))

pub judged_memory : (scope : Scope) (must_group : Bool) (qualifier : Option Label) (at : ℕ) (width : Width) (address : ExprTree) → judged scope (e.Memory qualifier at width address) must_group ≡ memory_judged scope must_group qualifier at width (judged scope address must_group)
unfolding judged
judged_memory scope must_group qualifier at width address = ap (λ (j : Judging). j must_group) (ap (judged scope) (sym (rolls-Memory qualifier at width address)) ∙ fold-roll-ExprTree Judging Growing Growing (judge_step scope) addend_step factor_step (ExprTree-F.Memory qualifier at width address))

pub judged_count_rows : (scope : Scope) (must_group : Bool) (at : ℕ) → judged scope (v.CountRows at) must_group ≡ aggregate_judged scope.tables at function.Count (literal Null)
unfolding judged
judged_count_rows scope must_group at = ap (λ (j : Judging). j must_group) (ap (judged scope) (sym (rolls-CountRows at)) ∙ fold-roll-ExprTree Judging Growing Growing (judge_step scope) addend_step factor_step (ExprTree-F.CountRows at))

pub judged_aggregate : (scope : Scope) (must_group : Bool) (at : ℕ) (function : Function) (expr : ExprTree) → judged scope (e.Aggregate at function expr) must_group ≡ aggregate_judged scope.tables at function (judged scope expr false)
unfolding judged
judged_aggregate scope must_group at function expr = ap (λ (j : Judging). j must_group) (ap (judged scope) (sym (rolls-Aggregate at function expr)) ∙ fold-roll-ExprTree Judging Growing Growing (judge_step scope) addend_step factor_step (ExprTree-F.Aggregate at function expr))

-- ---- judged one by one

-- one more of a list is folded
pub fold_more : {A B : Type 0} (f : B → A → B) (start : B) (xs : List A) (n : ℕ) (x d : A) → n < length xs → x ≡ get_or xs n d → fold f start (take (n + 1) xs) ≡ f (fold f start (take n xs)) x
fold_more f start xs n x d within is = ap (fold f start) (take_more xs n d within ∙ ap (λ y. take n xs ++ y ∷ []) (sym is)) ∙ fold_append f start (take n xs) x
  where
    fold_append : {A B : Type 0} (f : B → A → B) (start : B) (xs : List A) (x : A) → fold f start (xs ++ x ∷ []) ≡ f (fold f start xs) x
    fold_append f start [] x = refl
    fold_append f start (y ∷ ys) x = fold_append f (f start y) ys x

-- an operator with one operand
pub one_step : (at : ℕ) (make : Kind → Result Kind Wrong) (start : Foremost) (operand : Judgement) (known result : Judged) (found next : Foremost) (kind : Option Kind)
    → Judges known start operand found
    → kind ≡ given (of_one make known) → next ≡ noted_all found (told at (of_one make known)) → result ≡ (judgement [] kind known.reach).judged
    → Judges result start (one_judged at make operand) next
one_step at make start operand known result found next kind judges kind_is next_is result_is = record {
  known = result_is ∙ ap (λ (k : Option Kind). (judgement [] k known.reach).judged) kind_is ∙ ap (λ (j : Judged). (judgement [] (given (of_one make j)) j.reach).judged) judges.known;
  noted = next_is ∙ ap (λ (j : Judged). noted_all found (told at (of_one make j))) judges.known ∙ ap (λ (f : Foremost). noted_all f (told at (of_one make operand.judged))) judges.noted ∙ sym (noted_append start operand.mistakes (told at (of_one make operand.judged)));
}

-- an operator with two operands
pub two_step : (at : ℕ) (make : Kind → Kind → Result Kind Wrong) (start : Foremost) (left right : Judgement) (known_left known_right result : Judged) (found_left found_right next : Foremost) (kind : Option Kind) (reach : Reach)
    → Judges known_left start left found_left → Judges known_right found_left right found_right
    → kind ≡ given (of_kinds make known_left.kind known_right.kind) → next ≡ noted_all found_right (told at (of_kinds make known_left.kind known_right.kind))
    → reach ≡ joined known_left.reach known_right.reach → result ≡ (judgement [] kind reach).judged
    → Judges result start (two_judged at make left right) next
two_step at make start left right known_left known_right result found_left found_right next kind reach judges_left judges_right kind_is next_is reach_is result_is = record {
  known = result_is ∙ ap (λ (k : Option Kind). (judgement [] k reach).judged) kind_is ∙ ap (λ (r : Reach). (judgement [] (given (of_kinds make known_left.kind known_right.kind)) r).judged) reach_is
      ∙ ap (λ (j : Judged). (judgement [] (given (of_kinds make j.kind known_right.kind)) (joined j.reach known_right.reach)).judged) judges_left.known
      ∙ ap (λ (j : Judged). (judgement [] (given (of_kinds make left.judged.kind j.kind)) (joined left.judged.reach j.reach)).judged) judges_right.known;
  noted = next_is ∙ ap (λ (j : Judged). noted_all found_right (told at (of_kinds make j.kind known_right.kind))) judges_left.known
      ∙ ap (λ (j : Judged). noted_all found_right (told at (of_kinds make left.judged.kind j.kind))) judges_right.known
      ∙ ap (λ (f : Foremost). noted_all f (told at (of_kinds make left.judged.kind right.judged.kind))) (judges_right.noted ∙ ap (λ (f : Foremost). noted_all f right.mistakes) judges_left.noted)
      ∙ sym (noted_append start left.mistakes (right.mistakes ++ told at (of_kinds make left.judged.kind right.judged.kind)) ∙ noted_append (noted_all start left.mistakes) right.mistakes (told at (of_kinds make left.judged.kind right.judged.kind)));
}

-- a memory form
pub memory_step : (scope : Scope) (must_group : Bool) (qualifier : Option Label) (at : ℕ) (width : Width) (start : Foremost) (address : Judgement) (known result : Judged) (formed found next : Foremost) (kind whole : Option Kind) (reach : Reach)
    → formed ≡ noted_all start (form_mistakes scope must_group qualifier at) → Judges known formed address found
    → kind ≡ given (form_kind (table_meant scope.tables qualifier) (width_of width) known) → next ≡ noted_all found (told at (form_kind (table_meant scope.tables qualifier) (width_of width) known))
    → whole ≡ (if is_empty (form_mistakes scope must_group qualifier at) then kind else None)
    → reach ≡ joined (reach_of (table_meant scope.tables qualifier)) known.reach → result ≡ (judgement [] whole reach).judged
    → Judges result start (memory_judged scope must_group qualifier at width address) next
unfolding memory_judged
memory_step scope must_group qualifier at width start address known result formed found next kind whole reach formed_is judges kind_is next_is whole_is reach_is result_is =
    let own = form_mistakes scope must_group qualifier at in
    let made = λ (j : Judged). form_kind (table_meant scope.tables qualifier) (width_of width) j in
    record {
      known = result_is ∙ ap (λ (k : Option Kind). (judgement [] k reach).judged) (whole_is ∙ ap (λ (k : Option Kind). if is_empty own then k else None) kind_is)
          ∙ ap (λ (r : Reach). (judgement [] (if is_empty own then given (made known) else None) r).judged) reach_is
          ∙ ap (λ (j : Judged). (judgement [] (if is_empty own then given (made j) else None) (joined (reach_of (table_meant scope.tables qualifier)) j.reach)).judged) judges.known;
      noted = next_is ∙ ap (λ (j : Judged). noted_all found (told at (made j))) judges.known
          ∙ ap (λ (f : Foremost). noted_all f (told at (made address.judged))) (judges.noted ∙ ap (λ (f : Foremost). noted_all f address.mistakes) formed_is)
          ∙ sym (noted_append start own (address.mistakes ++ told at (made address.judged)) ∙ noted_append (noted_all start own) address.mistakes (told at (made address.judged)));
    }

-- an aggregate
pub aggregate_step : (scope : Scope) (at : ℕ) (which : Function) (start : Foremost) (what : Judgement) (known result : Judged) (found next : Foremost) (kind : Option Kind)
    → Judges known start what found
    → kind ≡ aggregate_kind scope.tables at which known.kind → next ≡ noted_all found (aggregate_mistakes scope.tables at which) → result ≡ (judgement [] kind known.reach).judged
    → Judges result start (aggregate_judged scope.tables at which what) next
aggregate_step scope at which start what known result found next kind judges kind_is next_is result_is = record {
  known = result_is ∙ ap (λ (k : Option Kind). (judgement [] k known.reach).judged) kind_is ∙ ap (λ (j : Judged). (judgement [] (aggregate_kind scope.tables at which j.kind) j.reach).judged) judges.known;
  noted = next_is ∙ ap (λ (f : Foremost). noted_all f (aggregate_mistakes scope.tables at which)) judges.noted ∙ sym (noted_append start what.mistakes (aggregate_mistakes scope.tables at which));
}

-- a further factor
pub factor_step_of : (at : ℕ) (which : Scale) (start : Foremost) (left right : Judgement) (known_left known_right result : Judged) (found_left found_right next : Foremost) (kind : Option Kind) (reach : Reach)
    → Judges known_left start left found_left → Judges known_right found_left right found_right
    → kind ≡ given (of_kinds (scaled_kind which known_right.numeral) known_left.kind known_right.kind) → next ≡ noted_all found_right (told at (of_kinds (scaled_kind which known_right.numeral) known_left.kind known_right.kind))
    → reach ≡ joined known_left.reach known_right.reach → result ≡ (judgement [] kind reach).judged
    → Judges result start (scaled_judged at which left right) next
factor_step_of at which start left right known_left known_right result found_left found_right next kind reach judges_left judges_right kind_is next_is reach_is result_is =
    let numeral : known_right.numeral ≡ right.judged.numeral = ap (λ (j : Judged). j.numeral) judges_right.known in
    two_step at (scaled_kind which right.judged.numeral) start left right known_left known_right result found_left found_right next kind reach judges_left judges_right
    (kind_is ∙ ap (λ n. given (of_kinds (scaled_kind which n) known_left.kind known_right.kind)) numeral)
    (next_is ∙ ap (λ n. noted_all found_right (told at (of_kinds (scaled_kind which n) known_left.kind known_right.kind))) numeral)
    reach_is result_is

-- the beginning of a sum or a product
pub compound_step : (start : Foremost) (first : Judgement) (known result : Judged) (found : Foremost) → Judges known start first found → result ≡ (judgement [] known.kind known.reach).judged → Judges result start (compound first) found
compound_step start first known result found judges result_is = record {
  known = result_is ∙ ap (λ (j : Judged). (judgement [] j.kind j.reach).judged) judges.known;
  noted = judges.noted;
}
