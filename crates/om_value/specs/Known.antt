-- What expressions and conditions are worth where rows were already taken out of their states, so that each column and each memory form has an answer; and what they read.
use Rattle.std.specs.Prelude.{ℕ, ℤ, pos, List, [], ◌∷◌, ◌++◌, map}
use Rattle.std.specs.List.{flat_map}
use Rattle.om_value.specs.Meaning.{with_sign, signed, bits, changed, summed, multiplied, divided, truth_with}
use Rattle.om_value.specs.declared.cond.Cond.{Cond}
use Rattle.om_value.specs.declared.cond.Cond.TheFolds.{fold-Cond}
use Rattle.om_value.specs.declared.cond.Cond.TheOpen.{Cond-F}
use Rattle.om_value.specs.declared.expr.Addend.{Addend}
use Rattle.om_value.specs.declared.expr.Expr.{Expr}
use Rattle.om_value.specs.declared.expr.Expr.TheFolds.{fold-Expr, map-Expr, map-Factor, map-Addend}
use Rattle.om_value.specs.declared.expr.Expr.TheOpen.{Expr-F, Addend-F, Factor-F}
use Rattle.om_value.specs.declared.expr.Expr.TheVariants as expr
use Rattle.om_value.specs.declared.expr.Expr.TheViews as view
use Rattle.om_value.specs.declared.expr.Factor.{Factor}
use Rattle.om_value.specs.declared.truth.Truth.{Truth}
use Rattle.om_value.specs.declared.value.Owned.{Owned}
use Rattle.om_value.specs.declared.value.Owned.TheVariants.{Int, Text, Null}

-- an answer for each column and memory form
abbrev pub Known : Type 0
Known = Expr → Owned

-- ---- folds whose steps see the parts, too

-- the expression of a layer whose parts are given with what was found of them
abbrev pub whole : {A B C : Type 0} → Expr-F (Expr × A) (Factor × B) (Addend × C) → Expr
whole {A} {B} {C} layer = view.roll-Expr (map-Expr (Expr × A) (Factor × B) (Addend × C) Expr Factor Addend (λ part. part.0) (λ part. part.0) (λ part. part.0) layer)

abbrev pub whole_factor : {A B C : Type 0} → Factor-F (Expr × A) (Factor × B) (Addend × C) → Factor
whole_factor {A} {B} {C} layer = view.roll-Factor (map-Factor (Expr × A) (Factor × B) (Addend × C) Expr Factor Addend (λ part. part.0) (λ part. part.0) (λ part. part.0) layer)

abbrev pub whole_addend : {A B C : Type 0} → Addend-F (Expr × A) (Factor × B) (Addend × C) → Addend
whole_addend {A} {B} {C} layer = view.roll-Addend (map-Addend (Expr × A) (Factor × B) (Addend × C) Expr Factor Addend (λ part. part.0) (λ part. part.0) (λ part. part.0) layer)

abbrev pub fold_whole : {A B C : Type 0} → (Expr-F (Expr × A) (Factor × B) (Addend × C) → A) → (Factor-F (Expr × A) (Factor × B) (Addend × C) → B) → (Addend-F (Expr × A) (Factor × B) (Addend × C) → C) → Expr → Expr × A
fold_whole {A} {B} {C} step factor addend = fold-Expr (Expr × A) (Factor × B) (Addend × C) (λ layer. (whole layer, step layer)) (λ layer. (whole_factor layer, factor layer)) (λ layer. (whole_addend layer, addend layer))

-- ---- values by answers

abbrev pub known_step : (ℤ → ℤ) → Known → Expr-F (Expr × Owned) (Factor × (Owned → Owned)) (Addend × (Owned → Owned)) → Owned
known_step round known (Expr-F.Numeral number) = Int (pos number)
known_step round known (Expr-F.Text bytes) = Text bytes
known_step round known Expr-F.Null = Null
known_step round known (Expr-F.Column column) = known (expr.Column column)
known_step round known (Expr-F.Sum first rest) = changed first.1 (map (λ addend. addend.1) rest)
known_step round known (Expr-F.Product first rest) = changed first.1 (map (λ factor. factor.1) rest)
known_step round known (Expr-F.Sign sign number) = with_sign round sign number.1
known_step round known (Expr-F.Signed word) = signed word.1
known_step round known (Expr-F.Bits number high low) = bits high low number.1
known_step round known (Expr-F.Memory table width address) = known (view.Memory table width address.0)

abbrev pub known_factor_step : (ℤ → ℤ) → Factor-F (Expr × Owned) (Factor × (Owned → Owned)) (Addend × (Owned → Owned)) → Owned → Owned
known_factor_step round (Factor-F.Times factor) before = multiplied round before factor.1
known_factor_step round (Factor-F.Over divisor) before = divided divisor before

abbrev pub known_addend_step : (ℤ → ℤ) → Addend-F (Expr × Owned) (Factor × (Owned → Owned)) (Addend × (Owned → Owned)) → Owned → Owned
known_addend_step round addend before = summed round addend.sign before addend.term.1

-- the value of an expression, by the answers to its columns and memory forms
unfoldable pub value_by : (ℤ → ℤ) → Known → Expr → Owned
value_by round known expr = (fold_whole (known_step round known) (known_factor_step round) (known_addend_step round) expr).1

-- the truth of a condition, by the same
abbrev pub truth_by : (ℤ → ℤ) → Known → Cond → Truth
truth_by round known = truth_with (value_by round known)

-- ---- what is read

abbrev pub lists : {A : Type 0} → List (List A) → List A
lists = flat_map (λ list. list)

abbrev pub reads_step : Expr-F (Expr × List Expr) (Factor × List Expr) (Addend × List Expr) → List Expr
reads_step (Expr-F.Numeral number) = []
reads_step (Expr-F.Text bytes) = []
reads_step Expr-F.Null = []
reads_step (Expr-F.Column column) = expr.Column column ∷ []
reads_step (Expr-F.Sum first rest) = first.1 ++ lists (map (λ addend. addend.1) rest)
reads_step (Expr-F.Product first rest) = first.1 ++ lists (map (λ factor. factor.1) rest)
reads_step (Expr-F.Sign sign number) = number.1
reads_step (Expr-F.Signed word) = word.1
reads_step (Expr-F.Bits number high low) = number.1
reads_step (Expr-F.Memory table width address) = view.Memory table width address.0 ∷ []

abbrev pub factor_reads_step : Factor-F (Expr × List Expr) (Factor × List Expr) (Addend × List Expr) → List Expr
factor_reads_step (Factor-F.Times factor) = factor.1
factor_reads_step (Factor-F.Over divisor) = []

abbrev pub addend_reads_step : Addend-F (Expr × List Expr) (Factor × List Expr) (Addend × List Expr) → List Expr
addend_reads_step addend = addend.term.1

-- the columns and memory forms that an expression reads: of a memory form, it alone
unfoldable pub reads : Expr → List Expr
reads expr = (fold_whole reads_step factor_reads_step addend_reads_step expr).1

abbrev pub cond_reads_step : Cond-F (List Expr) → List Expr
cond_reads_step (Cond-F.Compare compare left right) = reads left ++ reads right
cond_reads_step (Cond-F.Between polarity what low high) = reads what ++ (reads low ++ reads high)
cond_reads_step (Cond-F.In polarity what list) = reads what ++ lists (map reads list)
cond_reads_step (Cond-F.IsNull polarity what) = reads what
cond_reads_step (Cond-F.Not member) = member
cond_reads_step (Cond-F.All members) = lists members
cond_reads_step (Cond-F.Any members) = lists members

-- those that a condition reads
unfoldable pub cond_reads : Cond → List Expr
cond_reads = fold-Cond (List Expr) cond_reads_step

-- ---- which rows are used

abbrev pub uses_step : Expr-F (List ℕ) (List ℕ) (List ℕ) → List ℕ
uses_step (Expr-F.Numeral number) = []
uses_step (Expr-F.Text bytes) = []
uses_step Expr-F.Null = []
uses_step (Expr-F.Column column) = column.table ∷ []
uses_step (Expr-F.Sum first rest) = first ++ lists rest
uses_step (Expr-F.Product first rest) = first ++ lists rest
uses_step (Expr-F.Sign sign number) = number
uses_step (Expr-F.Signed word) = word
uses_step (Expr-F.Bits number high low) = number
uses_step (Expr-F.Memory table width address) = table ∷ address

abbrev pub factor_uses_step : Factor-F (List ℕ) (List ℕ) (List ℕ) → List ℕ
factor_uses_step (Factor-F.Times factor) = factor
factor_uses_step (Factor-F.Over divisor) = []

abbrev pub addend_uses_step : Addend-F (List ℕ) (List ℕ) (List ℕ) → List ℕ
addend_uses_step addend = addend.term

-- the range variables whose rows an expression uses
unfoldable pub uses : Expr → List ℕ
uses = fold-Expr (List ℕ) (List ℕ) (List ℕ) uses_step factor_uses_step addend_uses_step

abbrev pub cond_uses_step : Cond-F (List ℕ) → List ℕ
cond_uses_step (Cond-F.Compare compare left right) = uses left ++ uses right
cond_uses_step (Cond-F.Between polarity what low high) = uses what ++ (uses low ++ uses high)
cond_uses_step (Cond-F.In polarity what list) = uses what ++ lists (map uses list)
cond_uses_step (Cond-F.IsNull polarity what) = uses what
cond_uses_step (Cond-F.Not member) = member
cond_uses_step (Cond-F.All members) = lists members
cond_uses_step (Cond-F.Any members) = lists members

-- those whose rows a condition uses
unfoldable pub cond_uses : Cond → List ℕ
cond_uses = fold-Cond (List ℕ) cond_uses_step
