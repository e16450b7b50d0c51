-- The equations of values.
use Rattle.std.proofs.Common.{◌≡◌, ℕ, ℤ, pos, List, [], ◌∷◌, map, refl, sym, ap, ◌∙◌, arith}
use Rattle.std.proofs.Math.Path.{fun_ext}
use Rattle.std.specs.List.{fold}
use Rattle.om_value.proofs.Induction.{Each, OfTerm, OfFactor, by_cases}
use Rattle.om_value.specs.Row.{Row, Tuple, IsColumn}
use Rattle.om_value.specs.Known.{Known, whole, whole_factor, whole_addend, fold_whole, known_step, known_factor_step, known_addend_step, value_by}
use Rattle.om_value.specs.Meaning.{value_with, truth_with, value_step, factor_step, addend_step, changed, summed, multiplied, with_sign, signed, bits, memory_at, cell_at, with_addend, with_factor}
use Rattle.om_value.specs.declared.column.Column.{Column}
use Rattle.om_value.specs.declared.column.ColumnId.{ColumnId}
use Rattle.om_value.specs.declared.column.ColumnId.TheVariants as id
use Rattle.om_value.specs.declared.cond.Cond.{Cond}
use Rattle.om_value.specs.declared.expr.Addend.{Addend}
use Rattle.om_value.specs.declared.expr.Expr.{Expr}
use Rattle.om_value.specs.declared.expr.Expr.TheFolds.{fold-Addend, fold-Factor, map-Expr, fold-roll-Expr, fold-roll-Factor, fold_out-Addend}
use Rattle.om_value.specs.declared.expr.Expr.TheOpen.{Expr-F, Addend-F, Factor-F}
use Rattle.om_value.specs.declared.expr.Expr.TheVariants as expr
use Rattle.om_value.specs.declared.expr.Expr.TheVariants.{rolls-Numeral, rolls-Text, rolls-Null, rolls-Column, rolls-Sum, rolls-Product, rolls-Sign, rolls-Signed, rolls-Bits, rolls-Memory}
use Rattle.om_value.specs.declared.expr.Expr.TheViews as view
use Rattle.om_value.specs.declared.expr.Factor.{Factor}
use Rattle.om_value.specs.declared.expr.Factor.TheVariants as factor
use Rattle.om_value.specs.declared.expr.Factor.TheVariants.{rolls-Times, rolls-Over}
use Rattle.om_value.specs.declared.expr.Sign.{Sign}
use Rattle.om_value.specs.declared.expr.Width.{Width}
use Rattle.om_value.specs.declared.value.Owned.{Owned}
use Rattle.om_value.specs.declared.value.Owned.TheVariants.{Int, Text, Null}

pub changed_each : {A V : Type 0} (change : A → V → V) (step : V → A → V) → ((x : A) (v : V) → change x v ≡ step v x) → (v : V) (xs : List A) → fold (λ v change. change v) v (map change xs) ≡ fold step v xs
changed_each change step same v [] = refl
changed_each change step same v (x ∷ xs) = changed_each change step same (change x v) xs ∙ ap (λ w. fold step w xs) (same x v)

-- ---- by rows

addend_is : (round : ℤ → ℤ) (t : Tuple) (a : Addend) (v : Owned) → fold-Addend Owned (Owned → Owned) (Owned → Owned) (value_step round t) (factor_step round) (addend_step round) a v ≡ with_addend round (value_with round t) v a
unfolding value_with
addend_is round t a v = ap (λ f. f v) (fold_out-Addend Owned (Owned → Owned) (Owned → Owned) (value_step round t) (factor_step round) (addend_step round) a)

factor_is : (round : ℤ → ℤ) (t : Tuple) (f : Factor) (v : Owned) → fold-Factor Owned (Owned → Owned) (Owned → Owned) (value_step round t) (factor_step round) (addend_step round) f v ≡ with_factor round (value_with round t) v f
unfolding value_with
factor_is round t (factor.Times e) v = ap (λ f. f v) (ap (fold-Factor Owned (Owned → Owned) (Owned → Owned) (value_step round t) (factor_step round) (addend_step round)) (sym (rolls-Times e)) ∙ fold-roll-Factor Owned (Owned → Owned) (Owned → Owned) (value_step round t) (factor_step round) (addend_step round) (Factor-F.Times e))
factor_is round t (factor.Over n) v = ap (λ f. f v) (ap (fold-Factor Owned (Owned → Owned) (Owned → Owned) (value_step round t) (factor_step round) (addend_step round)) (sym (rolls-Over n)) ∙ fold-roll-Factor Owned (Owned → Owned) (Owned → Owned) (value_step round t) (factor_step round) (addend_step round) (Factor-F.Over n))

pub value-Numeral : (round : ℤ → ℤ) (t : Tuple) (n : ℕ) → value_with round t (expr.Numeral n) ≡ Int (pos n)
unfolding value_with
value-Numeral round t n = ap (value_with round t) (sym (rolls-Numeral n)) ∙ fold-roll-Expr Owned (Owned → Owned) (Owned → Owned) (value_step round t) (factor_step round) (addend_step round) (Expr-F.Numeral n)

pub value-Text : (round : ℤ → ℤ) (t : Tuple) (bytes : List ℕ) → value_with round t (expr.Text bytes) ≡ Text bytes
unfolding value_with
value-Text round t bytes = ap (value_with round t) (sym (rolls-Text bytes)) ∙ fold-roll-Expr Owned (Owned → Owned) (Owned → Owned) (value_step round t) (factor_step round) (addend_step round) (Expr-F.Text bytes)

pub value-Null : (round : ℤ → ℤ) (t : Tuple) → value_with round t expr.Null ≡ Null
unfolding value_with
value-Null round t = ap (value_with round t) (sym rolls-Null) ∙ fold-roll-Expr Owned (Owned → Owned) (Owned → Owned) (value_step round t) (factor_step round) (addend_step round) Expr-F.Null

pub value-Column : (round : ℤ → ℤ) (t : Tuple) (c : Column) → value_with round t (expr.Column c) ≡ cell_at (t c.table) c.id
unfolding value_with
value-Column round t c = ap (value_with round t) (sym (rolls-Column c)) ∙ fold-roll-Expr Owned (Owned → Owned) (Owned → Owned) (value_step round t) (factor_step round) (addend_step round) (Expr-F.Column c)

pub value-Sum : (round : ℤ → ℤ) (t : Tuple) (first : Expr) (rest : List Addend) → value_with round t (view.Sum first rest) ≡ fold (with_addend round (value_with round t)) (value_with round t first) rest
unfolding value_with
value-Sum round t first rest = ap (value_with round t) (sym (rolls-Sum first rest)) ∙ fold-roll-Expr Owned (Owned → Owned) (Owned → Owned) (value_step round t) (factor_step round) (addend_step round) (Expr-F.Sum first rest) ∙ changed_each (fold-Addend Owned (Owned → Owned) (Owned → Owned) (value_step round t) (factor_step round) (addend_step round)) (with_addend round (value_with round t)) (addend_is round t) (value_with round t first) rest

pub value-Product : (round : ℤ → ℤ) (t : Tuple) (first : Expr) (rest : List Factor) → value_with round t (view.Product first rest) ≡ fold (with_factor round (value_with round t)) (value_with round t first) rest
unfolding value_with
value-Product round t first rest = ap (value_with round t) (sym (rolls-Product first rest)) ∙ fold-roll-Expr Owned (Owned → Owned) (Owned → Owned) (value_step round t) (factor_step round) (addend_step round) (Expr-F.Product first rest) ∙ changed_each (fold-Factor Owned (Owned → Owned) (Owned → Owned) (value_step round t) (factor_step round) (addend_step round)) (with_factor round (value_with round t)) (factor_is round t) (value_with round t first) rest

pub value-Sign : (round : ℤ → ℤ) (t : Tuple) (s : Sign) (e : Expr) → value_with round t (view.Sign s e) ≡ with_sign round s (value_with round t e)
unfolding value_with
value-Sign round t s e = ap (value_with round t) (sym (rolls-Sign s e)) ∙ fold-roll-Expr Owned (Owned → Owned) (Owned → Owned) (value_step round t) (factor_step round) (addend_step round) (Expr-F.Sign s e)

pub value-Signed : (round : ℤ → ℤ) (t : Tuple) (e : Expr) → value_with round t (view.Signed e) ≡ signed (value_with round t e)
unfolding value_with
value-Signed round t e = ap (value_with round t) (sym (rolls-Signed e)) ∙ fold-roll-Expr Owned (Owned → Owned) (Owned → Owned) (value_step round t) (factor_step round) (addend_step round) (Expr-F.Signed e)

pub value-Bits : (round : ℤ → ℤ) (t : Tuple) (e : Expr) (high low : ℕ) → value_with round t (view.Bits e high low) ≡ bits high low (value_with round t e)
unfolding value_with
value-Bits round t e high low = ap (value_with round t) (sym (rolls-Bits e high low)) ∙ fold-roll-Expr Owned (Owned → Owned) (Owned → Owned) (value_step round t) (factor_step round) (addend_step round) (Expr-F.Bits e high low)

pub value-Memory : (round : ℤ → ℤ) (t : Tuple) (table : ℕ) (width : Width) (e : Expr) → value_with round t (view.Memory table width e) ≡ memory_at (t table) width (value_with round t e)
unfolding value_with
value-Memory round t table width e = ap (value_with round t) (sym (rolls-Memory table width e)) ∙ fold-roll-Expr Owned (Owned → Owned) (Owned → Owned) (value_step round t) (factor_step round) (addend_step round) (Expr-F.Memory table width e)

-- ---- by answers: the same expression stands beside what is found of it

abbrev pub fold_factor_whole : {A B C : Type 0} → (Expr-F (Expr × A) (Factor × B) (Addend × C) → A) → (Factor-F (Expr × A) (Factor × B) (Addend × C) → B) → (Addend-F (Expr × A) (Factor × B) (Addend × C) → C) → Factor → Factor × B
fold_factor_whole {A} {B} {C} step by_factor addend = fold-Factor (Expr × A) (Factor × B) (Addend × C) (λ layer. (whole layer, step layer)) (λ layer. (whole_factor layer, by_factor layer)) (λ layer. (whole_addend layer, addend layer))

abbrev pub fold_addend_whole : {A B C : Type 0} → (Expr-F (Expr × A) (Factor × B) (Addend × C) → A) → (Factor-F (Expr × A) (Factor × B) (Addend × C) → B) → (Addend-F (Expr × A) (Factor × B) (Addend × C) → C) → Addend → Addend × C
fold_addend_whole {A} {B} {C} step by_factor addend = fold-Addend (Expr × A) (Factor × B) (Addend × C) (λ layer. (whole layer, step layer)) (λ layer. (whole_factor layer, by_factor layer)) (λ layer. (whole_addend layer, addend layer))

pub whole_roll : {A B C : Type 0} (step : Expr-F (Expr × A) (Factor × B) (Addend × C) → A) (by_factor : Factor-F (Expr × A) (Factor × B) (Addend × C) → B) (addend : Addend-F (Expr × A) (Factor × B) (Addend × C) → C) (x : Expr-F Expr Factor Addend) → let layer = map-Expr Expr Factor Addend (Expr × A) (Factor × B) (Addend × C) (fold_whole step by_factor addend) (fold_factor_whole step by_factor addend) (fold_addend_whole step by_factor addend) x in fold_whole step by_factor addend (view.roll-Expr x) ≡ (whole layer, step layer)
whole_roll {A} {B} {C} step by_factor addend x = fold-roll-Expr (Expr × A) (Factor × B) (Addend × C) (λ layer. (whole layer, step layer)) (λ layer. (whole_factor layer, by_factor layer)) (λ layer. (whole_addend layer, addend layer)) x

pub whole_addend_is : {A B C : Type 0} (step : Expr-F (Expr × A) (Factor × B) (Addend × C) → A) (by_factor : Factor-F (Expr × A) (Factor × B) (Addend × C) → B) (addend : Addend-F (Expr × A) (Factor × B) (Addend × C) → C) (a : Addend) → fold_addend_whole step by_factor addend a ≡ (record { sign = a.sign; term = (fold_whole step by_factor addend a.term).0 }, addend (record { sign = a.sign; term = fold_whole step by_factor addend a.term }))
whole_addend_is {A} {B} {C} step by_factor addend a = fold_out-Addend (Expr × A) (Factor × B) (Addend × C) (λ layer. (whole layer, step layer)) (λ layer. (whole_factor layer, by_factor layer)) (λ layer. (whole_addend layer, addend layer)) a

pub whole_factor_Times : {A B C : Type 0} (step : Expr-F (Expr × A) (Factor × B) (Addend × C) → A) (by_factor : Factor-F (Expr × A) (Factor × B) (Addend × C) → B) (addend : Addend-F (Expr × A) (Factor × B) (Addend × C) → C) (e : Expr) → fold_factor_whole step by_factor addend (factor.Times e) ≡ (factor.Times (fold_whole step by_factor addend e).0, by_factor (Factor-F.Times (fold_whole step by_factor addend e)))
whole_factor_Times {A} {B} {C} step by_factor addend e = ap (fold_factor_whole step by_factor addend) (sym (rolls-Times e)) ∙ fold-roll-Factor (Expr × A) (Factor × B) (Addend × C) (λ layer. (whole layer, step layer)) (λ layer. (whole_factor layer, by_factor layer)) (λ layer. (whole_addend layer, addend layer)) (Factor-F.Times e) ∙ ap (λ f. (f, by_factor (Factor-F.Times (fold_whole step by_factor addend e)))) (rolls-Times _)

pub whole_factor_Over : {A B C : Type 0} (step : Expr-F (Expr × A) (Factor × B) (Addend × C) → A) (by_factor : Factor-F (Expr × A) (Factor × B) (Addend × C) → B) (addend : Addend-F (Expr × A) (Factor × B) (Addend × C) → C) (n : ℕ) → fold_factor_whole step by_factor addend (factor.Over n) ≡ (factor.Over n, by_factor (Factor-F.Over n))
whole_factor_Over {A} {B} {C} step by_factor addend n = ap (fold_factor_whole step by_factor addend) (sym (rolls-Over n)) ∙ fold-roll-Factor (Expr × A) (Factor × B) (Addend × C) (λ layer. (whole layer, step layer)) (λ layer. (whole_factor layer, by_factor layer)) (λ layer. (whole_addend layer, addend layer)) (Factor-F.Over n) ∙ ap (λ f. (f, by_factor (Factor-F.Over n))) (rolls-Over n)

abbrev IsWhole : {A B C : Type 0} (step : Expr-F (Expr × A) (Factor × B) (Addend × C) → A) (by_factor : Factor-F (Expr × A) (Factor × B) (Addend × C) → B) (addend : Addend-F (Expr × A) (Factor × B) (Addend × C) → C) → Expr → Type 0
IsWhole step by_factor addend e = (fold_whole step by_factor addend e).0 ≡ e

whole_addends : {A B C : Type 0} (step : Expr-F (Expr × A) (Factor × B) (Addend × C) → A) (by_factor : Factor-F (Expr × A) (Factor × B) (Addend × C) → B) (addend : Addend-F (Expr × A) (Factor × B) (Addend × C) → C) (rest : List Addend) → Each (OfTerm (IsWhole step by_factor addend)) rest → map (λ a. a.0) (map (fold_addend_whole step by_factor addend) rest) ≡ rest
whole_addends step by_factor addend [] each = refl
whole_addends step by_factor addend (a ∷ rest) each =
    let first : (fold_addend_whole step by_factor addend a).0 ≡ a = ap (λ p. p.0) (whole_addend_is step by_factor addend a) ∙ ap (λ e. (let made : Addend = record { sign = a.sign; term = e } in made)) each.0 in
    ap (λ b. b ∷ map (λ a. a.0) (map (fold_addend_whole step by_factor addend) rest)) first ∙ ap (λ bs. a ∷ bs) (whole_addends step by_factor addend rest each.1)

whole_factor_of : {A B C : Type 0} (step : Expr-F (Expr × A) (Factor × B) (Addend × C) → A) (by_factor : Factor-F (Expr × A) (Factor × B) (Addend × C) → B) (addend : Addend-F (Expr × A) (Factor × B) (Addend × C) → C) (f : Factor) → OfFactor (IsWhole step by_factor addend) f → (fold_factor_whole step by_factor addend f).0 ≡ f
whole_factor_of step by_factor addend (factor.Times e) is = ap (λ p. p.0) (whole_factor_Times step by_factor addend e) ∙ ap (λ e. factor.Times e) is
whole_factor_of step by_factor addend (factor.Over n) is = ap (λ p. p.0) (whole_factor_Over step by_factor addend n)

whole_factors : {A B C : Type 0} (step : Expr-F (Expr × A) (Factor × B) (Addend × C) → A) (by_factor : Factor-F (Expr × A) (Factor × B) (Addend × C) → B) (addend : Addend-F (Expr × A) (Factor × B) (Addend × C) → C) (rest : List Factor) → Each (OfFactor (IsWhole step by_factor addend)) rest → map (λ f. f.0) (map (fold_factor_whole step by_factor addend) rest) ≡ rest
whole_factors step by_factor addend [] each = refl
whole_factors step by_factor addend (f ∷ rest) each =
    ap (λ g. g ∷ map (λ f. f.0) (map (fold_factor_whole step by_factor addend) rest)) (whole_factor_of step by_factor addend f each.0) ∙ ap (λ gs. f ∷ gs) (whole_factors step by_factor addend rest each.1)

pub whole_is : {A B C : Type 0} (step : Expr-F (Expr × A) (Factor × B) (Addend × C) → A) (by_factor : Factor-F (Expr × A) (Factor × B) (Addend × C) → B) (addend : Addend-F (Expr × A) (Factor × B) (Addend × C) → C) (e : Expr) → (fold_whole step by_factor addend e).0 ≡ e
whole_is step by_factor addend = by_cases (IsWhole step by_factor addend) record {
  numeral = λ n. rw (← (rolls-Numeral n)) (ap (λ p. p.0) (whole_roll step by_factor addend (Expr-F.Numeral n)));
  text = λ bytes. rw (← (rolls-Text bytes)) (ap (λ p. p.0) (whole_roll step by_factor addend (Expr-F.Text bytes)));
  nothing = rw (← rolls-Null) (ap (λ p. p.0) (whole_roll step by_factor addend Expr-F.Null));
  column = λ c. rw (← (rolls-Column c)) (ap (λ p. p.0) (whole_roll step by_factor addend (Expr-F.Column c)));
  sum = λ first rest is each. rw (← (rolls-Sum first rest)) (ap (λ p. p.0) (whole_roll step by_factor addend (Expr-F.Sum first rest)) ∙ ap (λ e. view.roll-Expr (Expr-F.Sum e (map (λ a. a.0) (map (fold_addend_whole step by_factor addend) rest)))) is ∙ ap (λ r. view.roll-Expr (Expr-F.Sum first r)) (whole_addends step by_factor addend rest each));
  product = λ first rest is each. rw (← (rolls-Product first rest)) (ap (λ p. p.0) (whole_roll step by_factor addend (Expr-F.Product first rest)) ∙ ap (λ e. view.roll-Expr (Expr-F.Product e (map (λ f. f.0) (map (fold_factor_whole step by_factor addend) rest)))) is ∙ ap (λ r. view.roll-Expr (Expr-F.Product first r)) (whole_factors step by_factor addend rest each));
  sign = λ s e is. rw (← (rolls-Sign s e)) (ap (λ p. p.0) (whole_roll step by_factor addend (Expr-F.Sign s e)) ∙ ap (λ f. view.roll-Expr (Expr-F.Sign s f)) is);
  signed = λ e is. rw (← (rolls-Signed e)) (ap (λ p. p.0) (whole_roll step by_factor addend (Expr-F.Signed e)) ∙ ap (λ f. view.roll-Expr (Expr-F.Signed f)) is);
  bits = λ e high low is. rw (← (rolls-Bits e high low)) (ap (λ p. p.0) (whole_roll step by_factor addend (Expr-F.Bits e high low)) ∙ ap (λ f. view.roll-Expr (Expr-F.Bits f high low)) is);
  memory = λ table width e is. rw (← (rolls-Memory table width e)) (ap (λ p. p.0) (whole_roll step by_factor addend (Expr-F.Memory table width e)) ∙ ap (λ f. view.roll-Expr (Expr-F.Memory table width f)) is);
}

changed_pairs : {A B : Type 0} (pair : A → B × (Owned → Owned)) (step : Owned → A → Owned) → ((x : A) (v : Owned) → (pair x).1 v ≡ step v x) → (v : Owned) (xs : List A) → changed v (map (λ p. p.1) (map pair xs)) ≡ fold step v xs
changed_pairs pair step same v [] = refl
changed_pairs pair step same v (x ∷ xs) = changed_pairs pair step same ((pair x).1 v) xs ∙ ap (λ w. fold step w xs) (same x v)

by_addend : (round : ℤ → ℤ) (k : Known) (a : Addend) (v : Owned) → (fold_addend_whole (known_step round k) (known_factor_step round) (known_addend_step round) a).1 v ≡ with_addend round (value_by round k) v a
unfolding value_by
by_addend round k a v = ap (λ p. p.1 v) (whole_addend_is (known_step round k) (known_factor_step round) (known_addend_step round) a)

by_factor_is : (round : ℤ → ℤ) (k : Known) (f : Factor) (v : Owned) → (fold_factor_whole (known_step round k) (known_factor_step round) (known_addend_step round) f).1 v ≡ with_factor round (value_by round k) v f
unfolding value_by
by_factor_is round k (factor.Times e) v = ap (λ p. p.1 v) (whole_factor_Times (known_step round k) (known_factor_step round) (known_addend_step round) e)
by_factor_is round k (factor.Over n) v = ap (λ p. p.1 v) (whole_factor_Over (known_step round k) (known_factor_step round) (known_addend_step round) n)

pub by-Numeral : (round : ℤ → ℤ) (k : Known) (n : ℕ) → value_by round k (expr.Numeral n) ≡ Int (pos n)
unfolding value_by
by-Numeral round k n = ap (value_by round k) (sym (rolls-Numeral n)) ∙ ap (λ p. p.1) (whole_roll (known_step round k) (known_factor_step round) (known_addend_step round) (Expr-F.Numeral n))

pub by-Text : (round : ℤ → ℤ) (k : Known) (bytes : List ℕ) → value_by round k (expr.Text bytes) ≡ Text bytes
unfolding value_by
by-Text round k bytes = ap (value_by round k) (sym (rolls-Text bytes)) ∙ ap (λ p. p.1) (whole_roll (known_step round k) (known_factor_step round) (known_addend_step round) (Expr-F.Text bytes))

pub by-Null : (round : ℤ → ℤ) (k : Known) → value_by round k expr.Null ≡ Null
unfolding value_by
by-Null round k = ap (value_by round k) (sym rolls-Null) ∙ ap (λ p. p.1) (whole_roll (known_step round k) (known_factor_step round) (known_addend_step round) Expr-F.Null)

pub by-Column : (round : ℤ → ℤ) (k : Known) (c : Column) → value_by round k (expr.Column c) ≡ k (expr.Column c)
unfolding value_by
by-Column round k c = ap (value_by round k) (sym (rolls-Column c)) ∙ ap (λ p. p.1) (whole_roll (known_step round k) (known_factor_step round) (known_addend_step round) (Expr-F.Column c))

pub by-Sum : (round : ℤ → ℤ) (k : Known) (first : Expr) (rest : List Addend) → value_by round k (view.Sum first rest) ≡ fold (with_addend round (value_by round k)) (value_by round k first) rest
unfolding value_by
by-Sum round k first rest = ap (value_by round k) (sym (rolls-Sum first rest)) ∙ ap (λ p. p.1) (whole_roll (known_step round k) (known_factor_step round) (known_addend_step round) (Expr-F.Sum first rest)) ∙ changed_pairs (fold_addend_whole (known_step round k) (known_factor_step round) (known_addend_step round)) (with_addend round (value_by round k)) (by_addend round k) (value_by round k first) rest

pub by-Product : (round : ℤ → ℤ) (k : Known) (first : Expr) (rest : List Factor) → value_by round k (view.Product first rest) ≡ fold (with_factor round (value_by round k)) (value_by round k first) rest
unfolding value_by
by-Product round k first rest = ap (value_by round k) (sym (rolls-Product first rest)) ∙ ap (λ p. p.1) (whole_roll (known_step round k) (known_factor_step round) (known_addend_step round) (Expr-F.Product first rest)) ∙ changed_pairs (fold_factor_whole (known_step round k) (known_factor_step round) (known_addend_step round)) (with_factor round (value_by round k)) (by_factor_is round k) (value_by round k first) rest

pub by-Sign : (round : ℤ → ℤ) (k : Known) (s : Sign) (e : Expr) → value_by round k (view.Sign s e) ≡ with_sign round s (value_by round k e)
unfolding value_by
by-Sign round k s e = ap (value_by round k) (sym (rolls-Sign s e)) ∙ ap (λ p. p.1) (whole_roll (known_step round k) (known_factor_step round) (known_addend_step round) (Expr-F.Sign s e))

pub by-Signed : (round : ℤ → ℤ) (k : Known) (e : Expr) → value_by round k (view.Signed e) ≡ signed (value_by round k e)
unfolding value_by
by-Signed round k e = ap (value_by round k) (sym (rolls-Signed e)) ∙ ap (λ p. p.1) (whole_roll (known_step round k) (known_factor_step round) (known_addend_step round) (Expr-F.Signed e))

pub by-Bits : (round : ℤ → ℤ) (k : Known) (e : Expr) (high low : ℕ) → value_by round k (view.Bits e high low) ≡ bits high low (value_by round k e)
unfolding value_by
by-Bits round k e high low = ap (value_by round k) (sym (rolls-Bits e high low)) ∙ ap (λ p. p.1) (whole_roll (known_step round k) (known_factor_step round) (known_addend_step round) (Expr-F.Bits e high low))

pub by-Memory : (round : ℤ → ℤ) (k : Known) (table : ℕ) (width : Width) (e : Expr) → value_by round k (view.Memory table width e) ≡ k (view.Memory table width e)
unfolding value_by
by-Memory round k table width e = ap (value_by round k) (sym (rolls-Memory table width e)) ∙ ap (λ p. p.1) (whole_roll (known_step round k) (known_factor_step round) (known_addend_step round) (Expr-F.Memory table width e)) ∙ ap (λ f. k (view.Memory table width f)) (whole_is (known_step round k) (known_factor_step round) (known_addend_step round) e)

-- where each answer is the value at a tuple, so is what is computed from the answers
abbrev IsSame : (ℤ → ℤ) → Tuple → Expr → Type 0
IsSame round t e = value_by round (value_with round t) e ≡ value_with round t e

pub same_sum : (round : ℤ → ℤ) (one other : Expr → Owned) (v : Owned) (rest : List Addend) → Each (OfTerm (λ e. one e ≡ other e)) rest → fold (with_addend round one) v rest ≡ fold (with_addend round other) v rest
same_sum round one other v [] each = refl
same_sum round one other v (a ∷ rest) each = same_sum round one other (with_addend round one v a) rest each.1 ∙ ap (λ x. fold (with_addend round other) (summed round a.sign v x) rest) each.0

same_factor : (round : ℤ → ℤ) (one other : Expr → Owned) (v : Owned) (f : Factor) → OfFactor (λ e. one e ≡ other e) f → with_factor round one v f ≡ with_factor round other v f
same_factor round one other v (factor.Times e) is = ap (multiplied round v) is
same_factor round one other v (factor.Over n) is = refl

pub same_product : (round : ℤ → ℤ) (one other : Expr → Owned) (v : Owned) (rest : List Factor) → Each (OfFactor (λ e. one e ≡ other e)) rest → fold (with_factor round one) v rest ≡ fold (with_factor round other) v rest
same_product round one other v [] each = refl
same_product round one other v (f ∷ rest) each = same_product round one other (with_factor round one v f) rest each.1 ∙ ap (λ x. fold (with_factor round other) x rest) (same_factor round one other v f each.0)

pub by_value : (round : ℤ → ℤ) (t : Tuple) (e : Expr) → value_by round (value_with round t) e ≡ value_with round t e
by_value round t = by_cases (IsSame round t) record {
  numeral = λ n. by-Numeral round (value_with round t) n ∙ sym (value-Numeral round t n);
  text = λ bytes. by-Text round (value_with round t) bytes ∙ sym (value-Text round t bytes);
  nothing = by-Null round (value_with round t) ∙ sym (value-Null round t);
  column = λ c. by-Column round (value_with round t) c;
  sum = λ first rest is each. by-Sum round (value_with round t) first rest ∙ same_sum round (value_by round (value_with round t)) (value_with round t) _ rest each ∙ ap (λ v. fold (with_addend round (value_with round t)) v rest) is ∙ sym (value-Sum round t first rest);
  product = λ first rest is each. by-Product round (value_with round t) first rest ∙ same_product round (value_by round (value_with round t)) (value_with round t) _ rest each ∙ ap (λ v. fold (with_factor round (value_with round t)) v rest) is ∙ sym (value-Product round t first rest);
  sign = λ s e is. by-Sign round (value_with round t) s e ∙ ap (with_sign round s) is ∙ sym (value-Sign round t s e);
  signed = λ e is. by-Signed round (value_with round t) e ∙ ap signed is ∙ sym (value-Signed round t e);
  bits = λ e high low is. by-Bits round (value_with round t) e high low ∙ ap (bits high low) is ∙ sym (value-Bits round t e high low);
  memory = λ table width e is. by-Memory round (value_with round t) table width e;
}

-- a condition is worth the same where its expressions are
pub truth_same : (f h : Expr → Owned) → ((e : Expr) → f e ≡ h e) → (cond : Cond) → truth_with f cond ≡ truth_with h cond
truth_same f h same cond = ap (λ g. truth_with g cond) (fun_ext same)

-- the cell at a column
pub cell_of : (row : Row) (id : ColumnId) → IsColumn id → cell_at row id ≡ row.cell id
cell_of row id.Step is = refl
cell_of row id.Pc is = refl
cell_of row id.Insn is = refl
cell_of row id.Func is = refl
cell_of row id.File is = refl
cell_of row id.Line is = refl
cell_of row (id.Reg number) is = grind (arith, is)
cell_of row (id.Var place) is = refl

-- no row has a register past its 32
pub no_cell : (row : Row) (id : ColumnId) → (IsColumn id → ⊥) → cell_at row id ≡ Null
no_cell row id.Step not = absurd (not tt)
no_cell row id.Pc not = absurd (not tt)
no_cell row id.Insn not = absurd (not tt)
no_cell row id.Func not = absurd (not tt)
no_cell row id.File not = absurd (not tt)
no_cell row id.Line not = absurd (not tt)
no_cell row (id.Reg number) not = grind (arith, not)
no_cell row (id.Var place) not = absurd (not tt)
