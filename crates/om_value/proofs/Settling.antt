-- What an expression reads settles its value, and so do the rows that it uses.
use Rattle.std.proofs.Common.{◌≡◌, ℕ, ℤ, List, [], ◌∷◌, ◌++◌, map, All, refl, sym, ap, ◌∙◌}
use Rattle.std.specs.List.{fold}
use Rattle.std.proofs.lemmas.List.Elements.{All-nil, All-cons, All-head, All-tail}
use Rattle.om_value.specs.Row.{Tuple}
use Rattle.om_value.specs.Meaning.{with_addend, with_factor, value_with, truth_with, all_of, any_of, compared, between, is_null, negated, with_polarity, memory_at, with_sign, signed, bits, cell_at}
use Rattle.om_value.specs.Known.{Known, lists, value_by, reads, reads_step, factor_reads_step, addend_reads_step, cond_reads, cond_reads_step, uses, uses_step, factor_uses_step, addend_uses_step, cond_uses, cond_uses_step}
use Rattle.om_value.specs.declared.column.Column.{Column}
use Rattle.om_value.specs.declared.comparison.Compare.{Compare}
use Rattle.om_value.specs.declared.comparison.Compare.TheVariants as compare
use Rattle.om_value.specs.declared.cond.Cond.{Cond}
use Rattle.om_value.specs.declared.cond.Cond.TheFolds.{fold-roll-Cond}
use Rattle.om_value.specs.declared.cond.Cond.TheOpen.{Cond-F}
use Rattle.om_value.specs.declared.cond.Cond.TheVariants as cond
use Rattle.om_value.specs.declared.cond.Cond.TheVariants.{rolls-Compare, rolls-Between, rolls-In, rolls-IsNull, rolls-Not, rolls-All, rolls-Any}
use Rattle.om_value.specs.declared.cond.Polarity.{Polarity}
use Rattle.om_value.specs.declared.expr.Addend.{Addend}
use Rattle.om_value.specs.declared.expr.Expr.{Expr}
use Rattle.om_value.specs.declared.expr.Expr.TheFolds.{fold-Addend, fold-Factor, fold-roll-Expr, fold-roll-Factor, fold_out-Addend}
use Rattle.om_value.specs.declared.expr.Expr.TheOpen.{Expr-F, Factor-F}
use Rattle.om_value.specs.declared.expr.Expr.TheVariants as expr
use Rattle.om_value.specs.declared.expr.Expr.TheVariants.{rolls-Numeral, rolls-Text, rolls-Null, rolls-Column, rolls-Sum, rolls-Product, rolls-Sign, rolls-Signed, rolls-Bits, rolls-Memory}
use Rattle.om_value.specs.declared.expr.Expr.TheViews as view
use Rattle.om_value.specs.declared.expr.Factor.{Factor}
use Rattle.om_value.specs.declared.expr.Factor.TheVariants as factor
use Rattle.om_value.specs.declared.expr.Factor.TheVariants.{rolls-Times, rolls-Over}
use Rattle.om_value.specs.declared.expr.Sign.{Sign}
use Rattle.om_value.specs.declared.expr.Width.{Width}
use Rattle.om_value.specs.declared.value.Owned.{Owned}
use Rattle.om_value.proofs.Induction.{Each, OfTerm, OfFactor, by_cases, by_cond_cases}
use Rattle.om_value.proofs.Truths.{truth-Compare, truth-Between, truth-In, truth-IsNull, truth-Not, truth-All, truth-Any}
use Rattle.om_value.proofs.Values.{same_sum, same_product, whole_roll, whole_is, whole_addend_is, whole_factor_Times, whole_factor_Over, fold_addend_whole, fold_factor_whole, value-Numeral, value-Text, value-Null, value-Column, value-Sum, value-Product, value-Sign, value-Signed, value-Bits, value-Memory, by-Numeral, by-Text, by-Null, by-Column, by-Sum, by-Product, by-Sign, by-Signed, by-Bits, by-Memory}

-- ---- lists of facts

all_front : {A : Type 0} (P : A → Type 0) (xs ys : List A) → All P (xs ++ ys) → All P xs
all_front P [] ys h = All-nil P
all_front P (x ∷ xs) ys h = All-cons P x xs (All-head P x (xs ++ ys) h) (all_front P xs ys (All-tail P x (xs ++ ys) h))

all_back : {A : Type 0} (P : A → Type 0) (xs ys : List A) → All P (xs ++ ys) → All P ys
all_back P [] ys h = h
all_back P (x ∷ xs) ys h = all_back P xs ys (All-tail P x (xs ++ ys) h)

all_each : {A B : Type 0} (P : B → Type 0) (found : A → List B) (xs : List A) → All P (lists (map found xs)) → Each (λ x. All P (found x)) xs
all_each P found [] h = tt
all_each P found (x ∷ xs) h = (all_front P (found x) (lists (map found xs)) h, all_each P found xs (all_back P (found x) (lists (map found xs)) h))

-- one from the other, at each
each_then : {A : Type 0} (P Q R : A → Type 0) → ((x : A) → P x → Q x → R x) → (xs : List A) → Each P xs → Each Q xs → Each R xs
each_then P Q R next [] p q = tt
each_then P Q R next (x ∷ xs) p q = (next x p.0 q.0, each_then P Q R next xs p.1 q.1)

map_same : {A B : Type 0} (one other : A → B) → ((x : A) → one x ≡ other x) → (xs : List A) → map one xs ≡ map other xs
map_same one other same [] = refl
map_same one other same (x ∷ xs) = ap (λ y. y ∷ map one xs) (same x) ∙ ap (λ ys. other x ∷ ys) (map_same one other same xs)

map_each : {A B : Type 0} (one other : A → B) (xs : List A) → Each (λ x. one x ≡ other x) xs → map one xs ≡ map other xs
map_each one other [] each = refl
map_each one other (x ∷ xs) each = ap (λ y. y ∷ map one xs) each.0 ∙ ap (λ ys. other x ∷ ys) (map_each one other xs each.1)

map_pairs : {A B C : Type 0} (pair : A → B × C) (found : A → C) → ((x : A) → (pair x).1 ≡ found x) → (xs : List A) → map (λ p. p.1) (map pair xs) ≡ map found xs
map_pairs pair found same [] = refl
map_pairs pair found same (x ∷ xs) = ap (λ y. y ∷ map (λ p. p.1) (map pair xs)) (same x) ∙ ap (λ ys. found x ∷ ys) (map_pairs pair found same xs)

-- what is found of the term of an addend, or of a factor
abbrev of_term : {A : Type 0} → (Expr → List A) → Addend → List A
of_term found addend = found addend.term

abbrev of_factor : {A : Type 0} → (Expr → List A) → Factor → List A
of_factor found (factor.Times e) = found e
of_factor found (factor.Over n) = []

-- ---- what is read

reads_addend : (a : Addend) → (fold_addend_whole reads_step factor_reads_step addend_reads_step a).1 ≡ of_term reads a
unfolding reads
reads_addend a = ap (λ p. p.1) (whole_addend_is reads_step factor_reads_step addend_reads_step a)

reads_factor : (f : Factor) → (fold_factor_whole reads_step factor_reads_step addend_reads_step f).1 ≡ of_factor reads f
unfolding reads
reads_factor (factor.Times e) = ap (λ p. p.1) (whole_factor_Times reads_step factor_reads_step addend_reads_step e)
reads_factor (factor.Over n) = ap (λ p. p.1) (whole_factor_Over reads_step factor_reads_step addend_reads_step n)

reads-Column : (c : Column) → reads (expr.Column c) ≡ expr.Column c ∷ []
unfolding reads
reads-Column c = ap reads (sym (rolls-Column c)) ∙ ap (λ p. p.1) (whole_roll reads_step factor_reads_step addend_reads_step (Expr-F.Column c))

reads-Sum : (first : Expr) (rest : List Addend) → reads (view.Sum first rest) ≡ reads first ++ lists (map (of_term reads) rest)
unfolding reads
reads-Sum first rest = ap reads (sym (rolls-Sum first rest)) ∙ ap (λ p. p.1) (whole_roll reads_step factor_reads_step addend_reads_step (Expr-F.Sum first rest)) ∙ ap (λ found. reads first ++ lists found) (map_pairs (fold_addend_whole reads_step factor_reads_step addend_reads_step) (of_term reads) reads_addend rest)

reads-Product : (first : Expr) (rest : List Factor) → reads (view.Product first rest) ≡ reads first ++ lists (map (of_factor reads) rest)
unfolding reads
reads-Product first rest = ap reads (sym (rolls-Product first rest)) ∙ ap (λ p. p.1) (whole_roll reads_step factor_reads_step addend_reads_step (Expr-F.Product first rest)) ∙ ap (λ found. reads first ++ lists found) (map_pairs (fold_factor_whole reads_step factor_reads_step addend_reads_step) (of_factor reads) reads_factor rest)

reads-Sign : (s : Sign) (e : Expr) → reads (view.Sign s e) ≡ reads e
unfolding reads
reads-Sign s e = ap reads (sym (rolls-Sign s e)) ∙ ap (λ p. p.1) (whole_roll reads_step factor_reads_step addend_reads_step (Expr-F.Sign s e))

reads-Signed : (e : Expr) → reads (view.Signed e) ≡ reads e
unfolding reads
reads-Signed e = ap reads (sym (rolls-Signed e)) ∙ ap (λ p. p.1) (whole_roll reads_step factor_reads_step addend_reads_step (Expr-F.Signed e))

reads-Bits : (e : Expr) (high low : ℕ) → reads (view.Bits e high low) ≡ reads e
unfolding reads
reads-Bits e high low = ap reads (sym (rolls-Bits e high low)) ∙ ap (λ p. p.1) (whole_roll reads_step factor_reads_step addend_reads_step (Expr-F.Bits e high low))

reads-Memory : (table : ℕ) (width : Width) (e : Expr) → reads (view.Memory table width e) ≡ view.Memory table width e ∷ []
unfolding reads
reads-Memory table width e = ap reads (sym (rolls-Memory table width e)) ∙ ap (λ p. p.1) (whole_roll reads_step factor_reads_step addend_reads_step (Expr-F.Memory table width e)) ∙ ap (λ f. view.Memory table width f ∷ []) (whole_is reads_step factor_reads_step addend_reads_step e)

cond_reads-Compare : (compare : Compare) (left right : Expr) → cond_reads (cond.Compare compare left right) ≡ reads left ++ reads right
unfolding cond_reads
cond_reads-Compare compare left right = ap cond_reads (sym (rolls-Compare compare left right)) ∙ fold-roll-Cond (List Expr) cond_reads_step (Cond-F.Compare compare left right)

cond_reads-Between : (polarity : Polarity) (what low high : Expr) → cond_reads (cond.Between polarity what low high) ≡ reads what ++ (reads low ++ reads high)
unfolding cond_reads
cond_reads-Between polarity what low high = ap cond_reads (sym (rolls-Between polarity what low high)) ∙ fold-roll-Cond (List Expr) cond_reads_step (Cond-F.Between polarity what low high)

cond_reads-In : (polarity : Polarity) (what : Expr) (list : List Expr) → cond_reads (cond.In polarity what list) ≡ reads what ++ lists (map reads list)
unfolding cond_reads
cond_reads-In polarity what list = ap cond_reads (sym (rolls-In polarity what list)) ∙ fold-roll-Cond (List Expr) cond_reads_step (Cond-F.In polarity what list)

cond_reads-IsNull : (polarity : Polarity) (what : Expr) → cond_reads (cond.IsNull polarity what) ≡ reads what
unfolding cond_reads
cond_reads-IsNull polarity what = ap cond_reads (sym (rolls-IsNull polarity what)) ∙ fold-roll-Cond (List Expr) cond_reads_step (Cond-F.IsNull polarity what)

cond_reads-Not : (member : Cond) → cond_reads (cond.Not member) ≡ cond_reads member
unfolding cond_reads
cond_reads-Not member = ap cond_reads (sym (rolls-Not member)) ∙ fold-roll-Cond (List Expr) cond_reads_step (Cond-F.Not member)

cond_reads-All : (members : List Cond) → cond_reads (cond.All members) ≡ lists (map cond_reads members)
unfolding cond_reads
cond_reads-All members = ap cond_reads (sym (rolls-All members)) ∙ fold-roll-Cond (List Expr) cond_reads_step (Cond-F.All members)

cond_reads-Any : (members : List Cond) → cond_reads (cond.Any members) ≡ lists (map cond_reads members)
unfolding cond_reads
cond_reads-Any members = ap cond_reads (sym (rolls-Any members)) ∙ fold-roll-Cond (List Expr) cond_reads_step (Cond-F.Any members)

-- ---- answers

abbrev Agree : (ℤ → ℤ) → Known → Tuple → Expr → Type 0
Agree round known tuple form = known form ≡ value_with round tuple form

abbrev Settles : (ℤ → ℤ) → Known → Tuple → Expr → Type 0
Settles round known tuple e = All (Agree round known tuple) (reads e) → value_by round known e ≡ value_with round tuple e

settled_term : (round : ℤ → ℤ) (known : Known) (tuple : Tuple) (a : Addend) → OfTerm (Settles round known tuple) a → All (Agree round known tuple) (of_term reads a) → OfTerm (λ e. value_by round known e ≡ value_with round tuple e) a
settled_term round known tuple a settles h = settles h

settled_factor : (round : ℤ → ℤ) (known : Known) (tuple : Tuple) (f : Factor) → OfFactor (Settles round known tuple) f → All (Agree round known tuple) (of_factor reads f) → OfFactor (λ e. value_by round known e ≡ value_with round tuple e) f
settled_factor round known tuple (factor.Times e) settles h = settles h
settled_factor round known tuple (factor.Over n) settles h = tt

pub settled : (round : ℤ → ℤ) (known : Known) (tuple : Tuple) (e : Expr) → Settles round known tuple e
settled round known tuple = by_cases (Settles round known tuple) record {
  numeral = λ n h. by-Numeral round known n ∙ sym (value-Numeral round tuple n);
  text = λ bytes h. by-Text round known bytes ∙ sym (value-Text round tuple bytes);
  nothing = λ h. by-Null round known ∙ sym (value-Null round tuple);
  column = λ c h. let one = rw reads-Column at h in by-Column round known c ∙ All-head (Agree round known tuple) (expr.Column c) [] one;
  sum = λ first rest settles each h.
      let both = rw reads-Sum at h in
      let front = all_front (Agree round known tuple) (reads first) (lists (map (of_term reads) rest)) both in
      let back = all_each (Agree round known tuple) (of_term reads) rest (all_back (Agree round known tuple) (reads first) (lists (map (of_term reads) rest)) both) in
      let same = each_then (OfTerm (Settles round known tuple)) (λ a. All (Agree round known tuple) (of_term reads a)) (OfTerm (λ e. value_by round known e ≡ value_with round tuple e)) (settled_term round known tuple) rest each back in
      by-Sum round known first rest ∙ same_sum round (value_by round known) (value_with round tuple) _ rest same ∙ ap (λ v. fold (with_addend round (value_with round tuple)) v rest) (settles front) ∙ sym (value-Sum round tuple first rest);
  product = λ first rest settles each h.
      let both = rw reads-Product at h in
      let front = all_front (Agree round known tuple) (reads first) (lists (map (of_factor reads) rest)) both in
      let back = all_each (Agree round known tuple) (of_factor reads) rest (all_back (Agree round known tuple) (reads first) (lists (map (of_factor reads) rest)) both) in
      let same = each_then (OfFactor (Settles round known tuple)) (λ f. All (Agree round known tuple) (of_factor reads f)) (OfFactor (λ e. value_by round known e ≡ value_with round tuple e)) (settled_factor round known tuple) rest each back in
      by-Product round known first rest ∙ same_product round (value_by round known) (value_with round tuple) _ rest same ∙ ap (λ v. fold (with_factor round (value_with round tuple)) v rest) (settles front) ∙ sym (value-Product round tuple first rest);
  sign = λ s e settles h. let one = rw reads-Sign at h in by-Sign round known s e ∙ ap (with_sign round s) (settles one) ∙ sym (value-Sign round tuple s e);
  signed = λ e settles h. let one = rw reads-Signed at h in by-Signed round known e ∙ ap signed (settles one) ∙ sym (value-Signed round tuple e);
  bits = λ e high low settles h. let one = rw reads-Bits at h in by-Bits round known e high low ∙ ap (bits high low) (settles one) ∙ sym (value-Bits round tuple e high low);
  memory = λ table width e settles h. let one = rw reads-Memory at h in by-Memory round known table width e ∙ All-head (Agree round known tuple) (view.Memory table width e) [] one;
}

-- ---- rows

uses_addend : (a : Addend) → fold-Addend (List ℕ) (List ℕ) (List ℕ) uses_step factor_uses_step addend_uses_step a ≡ of_term uses a
unfolding uses
uses_addend a = fold_out-Addend (List ℕ) (List ℕ) (List ℕ) uses_step factor_uses_step addend_uses_step a

uses_factor : (f : Factor) → fold-Factor (List ℕ) (List ℕ) (List ℕ) uses_step factor_uses_step addend_uses_step f ≡ of_factor uses f
unfolding uses
uses_factor (factor.Times e) = ap (fold-Factor (List ℕ) (List ℕ) (List ℕ) uses_step factor_uses_step addend_uses_step) (sym (rolls-Times e)) ∙ fold-roll-Factor (List ℕ) (List ℕ) (List ℕ) uses_step factor_uses_step addend_uses_step (Factor-F.Times e)
uses_factor (factor.Over n) = ap (fold-Factor (List ℕ) (List ℕ) (List ℕ) uses_step factor_uses_step addend_uses_step) (sym (rolls-Over n)) ∙ fold-roll-Factor (List ℕ) (List ℕ) (List ℕ) uses_step factor_uses_step addend_uses_step (Factor-F.Over n)

uses-Column : (c : Column) → uses (expr.Column c) ≡ c.table ∷ []
unfolding uses
uses-Column c = ap uses (sym (rolls-Column c)) ∙ fold-roll-Expr (List ℕ) (List ℕ) (List ℕ) uses_step factor_uses_step addend_uses_step (Expr-F.Column c)

uses-Sum : (first : Expr) (rest : List Addend) → uses (view.Sum first rest) ≡ uses first ++ lists (map (of_term uses) rest)
unfolding uses
uses-Sum first rest = ap uses (sym (rolls-Sum first rest)) ∙ fold-roll-Expr (List ℕ) (List ℕ) (List ℕ) uses_step factor_uses_step addend_uses_step (Expr-F.Sum first rest) ∙ ap (λ found. uses first ++ lists found) (map_same (fold-Addend (List ℕ) (List ℕ) (List ℕ) uses_step factor_uses_step addend_uses_step) (of_term uses) uses_addend rest)

uses-Product : (first : Expr) (rest : List Factor) → uses (view.Product first rest) ≡ uses first ++ lists (map (of_factor uses) rest)
unfolding uses
uses-Product first rest = ap uses (sym (rolls-Product first rest)) ∙ fold-roll-Expr (List ℕ) (List ℕ) (List ℕ) uses_step factor_uses_step addend_uses_step (Expr-F.Product first rest) ∙ ap (λ found. uses first ++ lists found) (map_same (fold-Factor (List ℕ) (List ℕ) (List ℕ) uses_step factor_uses_step addend_uses_step) (of_factor uses) uses_factor rest)

uses-Sign : (s : Sign) (e : Expr) → uses (view.Sign s e) ≡ uses e
unfolding uses
uses-Sign s e = ap uses (sym (rolls-Sign s e)) ∙ fold-roll-Expr (List ℕ) (List ℕ) (List ℕ) uses_step factor_uses_step addend_uses_step (Expr-F.Sign s e)

uses-Signed : (e : Expr) → uses (view.Signed e) ≡ uses e
unfolding uses
uses-Signed e = ap uses (sym (rolls-Signed e)) ∙ fold-roll-Expr (List ℕ) (List ℕ) (List ℕ) uses_step factor_uses_step addend_uses_step (Expr-F.Signed e)

uses-Bits : (e : Expr) (high low : ℕ) → uses (view.Bits e high low) ≡ uses e
unfolding uses
uses-Bits e high low = ap uses (sym (rolls-Bits e high low)) ∙ fold-roll-Expr (List ℕ) (List ℕ) (List ℕ) uses_step factor_uses_step addend_uses_step (Expr-F.Bits e high low)

uses-Memory : (table : ℕ) (width : Width) (e : Expr) → uses (view.Memory table width e) ≡ table ∷ uses e
unfolding uses
uses-Memory table width e = ap uses (sym (rolls-Memory table width e)) ∙ fold-roll-Expr (List ℕ) (List ℕ) (List ℕ) uses_step factor_uses_step addend_uses_step (Expr-F.Memory table width e)

cond_uses-Compare : (compare : Compare) (left right : Expr) → cond_uses (cond.Compare compare left right) ≡ uses left ++ uses right
unfolding cond_uses
cond_uses-Compare compare left right = ap cond_uses (sym (rolls-Compare compare left right)) ∙ fold-roll-Cond (List ℕ) cond_uses_step (Cond-F.Compare compare left right)

cond_uses-Between : (polarity : Polarity) (what low high : Expr) → cond_uses (cond.Between polarity what low high) ≡ uses what ++ (uses low ++ uses high)
unfolding cond_uses
cond_uses-Between polarity what low high = ap cond_uses (sym (rolls-Between polarity what low high)) ∙ fold-roll-Cond (List ℕ) cond_uses_step (Cond-F.Between polarity what low high)

cond_uses-In : (polarity : Polarity) (what : Expr) (list : List Expr) → cond_uses (cond.In polarity what list) ≡ uses what ++ lists (map uses list)
unfolding cond_uses
cond_uses-In polarity what list = ap cond_uses (sym (rolls-In polarity what list)) ∙ fold-roll-Cond (List ℕ) cond_uses_step (Cond-F.In polarity what list)

cond_uses-IsNull : (polarity : Polarity) (what : Expr) → cond_uses (cond.IsNull polarity what) ≡ uses what
unfolding cond_uses
cond_uses-IsNull polarity what = ap cond_uses (sym (rolls-IsNull polarity what)) ∙ fold-roll-Cond (List ℕ) cond_uses_step (Cond-F.IsNull polarity what)

cond_uses-Not : (member : Cond) → cond_uses (cond.Not member) ≡ cond_uses member
unfolding cond_uses
cond_uses-Not member = ap cond_uses (sym (rolls-Not member)) ∙ fold-roll-Cond (List ℕ) cond_uses_step (Cond-F.Not member)

cond_uses-All : (members : List Cond) → cond_uses (cond.All members) ≡ lists (map cond_uses members)
unfolding cond_uses
cond_uses-All members = ap cond_uses (sym (rolls-All members)) ∙ fold-roll-Cond (List ℕ) cond_uses_step (Cond-F.All members)

cond_uses-Any : (members : List Cond) → cond_uses (cond.Any members) ≡ lists (map cond_uses members)
unfolding cond_uses
cond_uses-Any members = ap cond_uses (sym (rolls-Any members)) ∙ fold-roll-Cond (List ℕ) cond_uses_step (Cond-F.Any members)

abbrev SameAt : Tuple → Tuple → ℕ → Type 0
SameAt one other table = one table ≡ other table

abbrev RowsSettle : (ℤ → ℤ) → Tuple → Tuple → Expr → Type 0
RowsSettle round one other e = All (SameAt one other) (uses e) → value_with round one e ≡ value_with round other e

rows_term : (round : ℤ → ℤ) (one other : Tuple) (a : Addend) → OfTerm (RowsSettle round one other) a → All (SameAt one other) (of_term uses a) → OfTerm (λ e. value_with round one e ≡ value_with round other e) a
rows_term round one other a settles h = settles h

rows_factor : (round : ℤ → ℤ) (one other : Tuple) (f : Factor) → OfFactor (RowsSettle round one other) f → All (SameAt one other) (of_factor uses f) → OfFactor (λ e. value_with round one e ≡ value_with round other e) f
rows_factor round one other (factor.Times e) settles h = settles h
rows_factor round one other (factor.Over n) settles h = tt

pub rows_settle : (round : ℤ → ℤ) (one other : Tuple) (e : Expr) → RowsSettle round one other e
rows_settle round one other = by_cases (RowsSettle round one other) record {
  numeral = λ n h. value-Numeral round one n ∙ sym (value-Numeral round other n);
  text = λ bytes h. value-Text round one bytes ∙ sym (value-Text round other bytes);
  nothing = λ h. value-Null round one ∙ sym (value-Null round other);
  column = λ c h. let here = rw uses-Column at h in value-Column round one c ∙ ap (λ r. cell_at r c.id) (All-head (SameAt one other) c.table [] here) ∙ sym (value-Column round other c);
  sum = λ first rest settles each h.
      let both = rw uses-Sum at h in
      let front = all_front (SameAt one other) (uses first) (lists (map (of_term uses) rest)) both in
      let back = all_each (SameAt one other) (of_term uses) rest (all_back (SameAt one other) (uses first) (lists (map (of_term uses) rest)) both) in
      let same = each_then (OfTerm (RowsSettle round one other)) (λ a. All (SameAt one other) (of_term uses a)) (OfTerm (λ e. value_with round one e ≡ value_with round other e)) (rows_term round one other) rest each back in
      value-Sum round one first rest ∙ same_sum round (value_with round one) (value_with round other) _ rest same ∙ ap (λ v. fold (with_addend round (value_with round other)) v rest) (settles front) ∙ sym (value-Sum round other first rest);
  product = λ first rest settles each h.
      let both = rw uses-Product at h in
      let front = all_front (SameAt one other) (uses first) (lists (map (of_factor uses) rest)) both in
      let back = all_each (SameAt one other) (of_factor uses) rest (all_back (SameAt one other) (uses first) (lists (map (of_factor uses) rest)) both) in
      let same = each_then (OfFactor (RowsSettle round one other)) (λ f. All (SameAt one other) (of_factor uses f)) (OfFactor (λ e. value_with round one e ≡ value_with round other e)) (rows_factor round one other) rest each back in
      value-Product round one first rest ∙ same_product round (value_with round one) (value_with round other) _ rest same ∙ ap (λ v. fold (with_factor round (value_with round other)) v rest) (settles front) ∙ sym (value-Product round other first rest);
  sign = λ s e settles h. let here = rw uses-Sign at h in value-Sign round one s e ∙ ap (with_sign round s) (settles here) ∙ sym (value-Sign round other s e);
  signed = λ e settles h. let here = rw uses-Signed at h in value-Signed round one e ∙ ap signed (settles here) ∙ sym (value-Signed round other e);
  bits = λ e high low settles h. let here = rw uses-Bits at h in value-Bits round one e high low ∙ ap (bits high low) (settles here) ∙ sym (value-Bits round other e high low);
  memory = λ table width e settles h.
      let both = rw uses-Memory at h in
      value-Memory round one table width e ∙ ap (λ r. memory_at r width (value_with round one e)) (All-head (SameAt one other) table (uses e) both) ∙ ap (memory_at (other table) width) (settles (All-tail (SameAt one other) table (uses e) both)) ∙ sym (value-Memory round other table width e);
}

-- ---- conditions, where what is found of an expression settles its value

abbrev Settled : {A : Type 0} → (A → Type 0) → (Expr → List A) → (Expr → Owned) → (Expr → Owned) → Type 0
Settled P found one other = (e : Expr) → All P (found e) → one e ≡ other e

pub settled_members : {A : Type 0} (P : A → Type 0) (found : Cond → List A) (one other : Expr → Owned) (members : List Cond) → Each (λ c. All P (found c) → truth_with one c ≡ truth_with other c) members → All P (lists (map found members)) → map (truth_with one) members ≡ map (truth_with other) members
settled_members P found one other members each h = map_each (truth_with one) (truth_with other) members (each_then (λ c. All P (found c) → truth_with one c ≡ truth_with other c) (λ c. All P (found c)) (λ c. truth_with one c ≡ truth_with other c) (λ c settles there. settles there) members each (all_each P found members h))

settled_compare : {A : Type 0} (P : A → Type 0) (found : Expr → List A) (one other : Expr → Owned) → Settled P found one other → (op : Compare) (left right : Expr) → All P (found left ++ found right) → truth_with one (cond.Compare op left right) ≡ truth_with other (cond.Compare op left right)
settled_compare P found one other settles op left right both = truth-Compare one op left right ∙ ap (λ v. compared op v (one right)) (settles left (all_front P (found left) (found right) both)) ∙ ap (compared op (other left)) (settles right (all_back P (found left) (found right) both)) ∙ sym (truth-Compare other op left right)

settled_between : {A : Type 0} (P : A → Type 0) (found : Expr → List A) (one other : Expr → Owned) → Settled P found one other → (polarity : Polarity) (what low high : Expr) → All P (found what ++ (found low ++ found high)) → truth_with one (cond.Between polarity what low high) ≡ truth_with other (cond.Between polarity what low high)
settled_between P found one other settles polarity what low high all =
    let ends = all_back P (found what) (found low ++ found high) all in
    truth-Between one polarity what low high ∙ ap (λ v. with_polarity polarity (between v (one low) (one high))) (settles what (all_front P (found what) (found low ++ found high) all)) ∙ ap (λ v. with_polarity polarity (between (other what) v (one high))) (settles low (all_front P (found low) (found high) ends)) ∙ ap (λ v. with_polarity polarity (between (other what) (other low) v)) (settles high (all_back P (found low) (found high) ends)) ∙ sym (truth-Between other polarity what low high)

settled_in : {A : Type 0} (P : A → Type 0) (found : Expr → List A) (one other : Expr → Owned) → Settled P found one other → (polarity : Polarity) (what : Expr) (list : List Expr) → All P (found what ++ lists (map found list)) → truth_with one (cond.In polarity what list) ≡ truth_with other (cond.In polarity what list)
settled_in P found one other settles polarity what list all =
    let each = all_each P found list (all_back P (found what) (lists (map found list)) all) in
    let first = settles what (all_front P (found what) (lists (map found list)) all) in
    let same = each_then (λ e. All P (found e)) (λ e. All P (found e)) (λ e. compared compare.Equal (other what) (one e) ≡ compared compare.Equal (other what) (other e)) (λ e there _. ap (compared compare.Equal (other what)) (settles e there)) list each each in
    truth-In one polarity what list ∙ ap (λ v. with_polarity polarity (any_of (map (λ e. compared compare.Equal v (one e)) list))) first ∙ ap (λ xs. with_polarity polarity (any_of xs)) (map_each (λ e. compared compare.Equal (other what) (one e)) (λ e. compared compare.Equal (other what) (other e)) list same) ∙ sym (truth-In other polarity what list)

settled_is_null : {A : Type 0} (P : A → Type 0) (found : Expr → List A) (one other : Expr → Owned) → Settled P found one other → (polarity : Polarity) (what : Expr) → All P (found what) → truth_with one (cond.IsNull polarity what) ≡ truth_with other (cond.IsNull polarity what)
settled_is_null P found one other settles polarity what there = truth-IsNull one polarity what ∙ ap (λ v. with_polarity polarity (is_null v)) (settles what there) ∙ sym (truth-IsNull other polarity what)

pub cond_settled : (round : ℤ → ℤ) (known : Known) (tuple : Tuple) (c : Cond) → All (Agree round known tuple) (cond_reads c) → truth_with (value_by round known) c ≡ truth_with (value_with round tuple) c
cond_settled round known tuple = by_cond_cases (λ c. All (Agree round known tuple) (cond_reads c) → truth_with (value_by round known) c ≡ truth_with (value_with round tuple) c) record {
  compare = λ op left right h. settled_compare (Agree round known tuple) reads (value_by round known) (value_with round tuple) (settled round known tuple) op left right (rw cond_reads-Compare at h);
  between = λ polarity what low high h. settled_between (Agree round known tuple) reads (value_by round known) (value_with round tuple) (settled round known tuple) polarity what low high (rw cond_reads-Between at h);
  among = λ polarity what list h. settled_in (Agree round known tuple) reads (value_by round known) (value_with round tuple) (settled round known tuple) polarity what list (rw cond_reads-In at h);
  is_null = λ polarity what h. settled_is_null (Agree round known tuple) reads (value_by round known) (value_with round tuple) (settled round known tuple) polarity what (rw cond_reads-IsNull at h);
  negation = λ member holds h. truth-Not (value_by round known) member ∙ ap negated (holds (rw cond_reads-Not at h)) ∙ sym (truth-Not (value_with round tuple) member);
  all = λ members each h. truth-All (value_by round known) members ∙ ap all_of (settled_members (Agree round known tuple) cond_reads (value_by round known) (value_with round tuple) members each (rw cond_reads-All at h)) ∙ sym (truth-All (value_with round tuple) members);
  any = λ members each h. truth-Any (value_by round known) members ∙ ap any_of (settled_members (Agree round known tuple) cond_reads (value_by round known) (value_with round tuple) members each (rw cond_reads-Any at h)) ∙ sym (truth-Any (value_with round tuple) members);
}

pub cond_rows_settle : (round : ℤ → ℤ) (one other : Tuple) (c : Cond) → All (SameAt one other) (cond_uses c) → truth_with (value_with round one) c ≡ truth_with (value_with round other) c
cond_rows_settle round one other = by_cond_cases (λ c. All (SameAt one other) (cond_uses c) → truth_with (value_with round one) c ≡ truth_with (value_with round other) c) record {
  compare = λ op left right h. settled_compare (SameAt one other) uses (value_with round one) (value_with round other) (rows_settle round one other) op left right (rw cond_uses-Compare at h);
  between = λ polarity what low high h. settled_between (SameAt one other) uses (value_with round one) (value_with round other) (rows_settle round one other) polarity what low high (rw cond_uses-Between at h);
  among = λ polarity what list h. settled_in (SameAt one other) uses (value_with round one) (value_with round other) (rows_settle round one other) polarity what list (rw cond_uses-In at h);
  is_null = λ polarity what h. settled_is_null (SameAt one other) uses (value_with round one) (value_with round other) (rows_settle round one other) polarity what (rw cond_uses-IsNull at h);
  negation = λ member holds h. truth-Not (value_with round one) member ∙ ap negated (holds (rw cond_uses-Not at h)) ∙ sym (truth-Not (value_with round other) member);
  all = λ members each h. truth-All (value_with round one) members ∙ ap all_of (settled_members (SameAt one other) cond_uses (value_with round one) (value_with round other) members each (rw cond_uses-All at h)) ∙ sym (truth-All (value_with round other) members);
  any = λ members each h. truth-Any (value_with round one) members ∙ ap any_of (settled_members (SameAt one other) cond_uses (value_with round one) (value_with round other) members each (rw cond_uses-Any at h)) ∙ sym (truth-Any (value_with round other) members);
}
