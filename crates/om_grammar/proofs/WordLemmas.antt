-- The texts of a tree, from those of its parts.
use Rattle.std.proofs.Common.{◌≡◌, ℕ, ◌+◌, ◌-◌, ◌<◌, ◌≤◌, Option, Result, Ok, Err, List, [], ◌∷◌, ◌++◌, length, map, take, drop, get_or, codes, refl, sym, ap, subst, inl, inr, ◌⊎◌, ◌∙◌, append_assoc, arith}
use Rattle.std.specs.List.{flat_map}
use Rattle.std.specs.Fmt.{decimal}
use Rattle.om_base.specs.Appending.{PutsBehind}
use Rattle.std.proofs.lemmas.List.{take_all, take_more, append-nil}
use Rattle.std.proofs.lemmas.List.Concat.{flat_map-append}
use Rattle.std.proofs.lemmas.List.Folds.{flat_map-map}
use Rattle.om_token.specs.declared.terminal.Terminal.TheVariants as t
use Rattle.om_grammar.specs.declared.tree.Label.{Label}
use Rattle.om_grammar.specs.declared.tree.ColumnName.{ColumnName}
use Rattle.om_grammar.specs.declared.expr_tree.ExprTree.{ExprTree}
use Rattle.om_grammar.specs.declared.expr_tree.ExprTree.TheFolds.{fold-ExprTree, fold-Addend, fold-Factor, fold-roll-ExprTree, fold_out-Addend, fold_out-Factor}
use Rattle.om_grammar.specs.declared.expr_tree.ExprTree.TheOpen.{ExprTree-F}
use Rattle.om_grammar.specs.declared.expr_tree.ExprTree.TheVariants as v
use Rattle.om_grammar.specs.declared.expr_tree.ExprTree.TheVariants.{rolls-Numeral, rolls-Text, rolls-Null, rolls-Column, rolls-Sum, rolls-Product, rolls-Sign, rolls-Signed, rolls-Bits, rolls-Memory, rolls-CountRows, rolls-Aggregate}
use Rattle.om_grammar.specs.declared.expr_tree.ExprTree.TheViews as e
use Rattle.om_grammar.specs.declared.expr_tree.Addend.{Addend}
use Rattle.om_grammar.specs.declared.expr_tree.Factor.{Factor}
use Rattle.om_grammar.specs.declared.expr_tree.Numeral.{Numeral}
use Rattle.om_grammar.specs.declared.expr_tree.Sign.{Sign}
use Rattle.om_grammar.specs.declared.expr_tree.Width.{Width}
use Rattle.om_grammar.specs.declared.expr_tree.Function.{Function}
use Rattle.om_grammar.specs.declared.cond_tree.CondTree.{CondTree}
use Rattle.om_grammar.specs.declared.cond_tree.CondTree.TheFolds.{fold-CondTree, fold-roll-CondTree}
use Rattle.om_grammar.specs.declared.cond_tree.CondTree.TheOpen.{CondTree-F}
use Rattle.om_grammar.specs.declared.cond_tree.CondTree.TheVariants as b
use Rattle.om_grammar.specs.declared.cond_tree.CondTree.TheVariants.{rolls-Predicate, rolls-Not, rolls-All, rolls-Any}
use Rattle.om_grammar.specs.declared.cond_tree.CondTree.TheViews as c
use Rattle.om_grammar.specs.declared.cond_tree.Predicate.{Predicate}
use Rattle.om_grammar.specs.Words.{word, spaced, sign_word, width_word, function_word, in_quotes, in_brackets, qualifier_text, column_text, joined, ExprTexts, as_factor, as_term, as_sum, call_text, bounds_text, expr_step, factor_step, addend_step, expr_texts, addend_text, factor_text, predicate_text, CondTexts, between_words, cond_step, cond_texts}

-- ---- lists that are written one by one

-- what was written of so many members, and one member more
pub grown : {X A : Type 0} (f : X → List A) (start text : List A) (xs : List X) (n : ℕ) (x d : X) → n < length xs → x ≡ get_or xs n d
    → text ≡ start ++ flat_map f (take n xs) → text ++ f x ≡ start ++ flat_map f (take (n + 1) xs)
grown f start text xs n x d within is so_far =
    let more : take (n + 1) xs ≡ take n xs ++ x ∷ [] = take_more xs n d within ∙ ap (λ y. take n xs ++ y ∷ []) (sym is) in
    let flat : flat_map f (take n xs ++ x ∷ []) ≡ flat_map f (take n xs) ++ f x = flat_map-append f (take n xs) (x ∷ []) ∙ ap (λ l. flat_map f (take n xs) ++ l) (append-nil (f x)) in
    ap (λ l. l ++ f x) so_far ∙ append_assoc start (flat_map f (take n xs)) (f x) ∙ ap (λ l. start ++ l) (sym flat) ∙ ap (λ l. start ++ flat_map f l) (sym more)

-- all members were written
pub grown_all : {X A : Type 0} (f : X → List A) (start text : List A) (xs : List X) (n : ℕ) → length xs ≤ n
    → text ≡ start ++ flat_map f (take n xs) → text ≡ start ++ flat_map f xs
grown_all f start text xs n whole so_far = so_far ∙ ap (λ l. start ++ flat_map f l) (take_all n xs whole)

-- ---- expressions

abbrev fold : ExprTree → ExprTexts
fold = fold-ExprTree ExprTexts (List ℕ) (List ℕ) expr_step addend_step factor_step

addend_is : (addend : Addend) → fold-Addend ExprTexts (List ℕ) (List ℕ) expr_step addend_step factor_step addend ≡ addend_text addend
unfolding expr_texts
addend_is addend = fold_out-Addend ExprTexts (List ℕ) (List ℕ) expr_step addend_step factor_step addend

factor_is : (factor : Factor) → fold-Factor ExprTexts (List ℕ) (List ℕ) expr_step addend_step factor_step factor ≡ factor_text factor
unfolding expr_texts
factor_is factor = fold_out-Factor ExprTexts (List ℕ) (List ℕ) expr_step addend_step factor_step factor

joined_is : {X : Type 0} (f g : X → List ℕ) → ((x : X) → f x ≡ g x) → (xs : List X) → joined (map f xs) ≡ flat_map g xs
joined_is f g same [] = refl
joined_is f g same (x ∷ xs) = ap (λ l. l ++ joined (map f xs)) (same x) ∙ ap (λ l. g x ++ l) (joined_is f g same xs)

pub texts-Numeral : (numeral : Numeral) → expr_texts (v.Numeral numeral) ≡ as_factor (decimal numeral.value)
unfolding expr_texts
texts-Numeral numeral = ap fold (sym (rolls-Numeral numeral)) ∙ fold-roll-ExprTree ExprTexts (List ℕ) (List ℕ) expr_step addend_step factor_step (ExprTree-F.Numeral numeral)

pub texts-Text : (at : ℕ) (said : List ℕ) → expr_texts (v.Text at said) ≡ as_factor (in_quotes 39 said)
unfolding expr_texts
texts-Text at said = ap fold (sym (rolls-Text at said)) ∙ fold-roll-ExprTree ExprTexts (List ℕ) (List ℕ) expr_step addend_step factor_step (ExprTree-F.Text at said)

pub texts-Null : (at : ℕ) → expr_texts (v.Null at) ≡ as_factor (codes "NULL")
unfolding expr_texts
texts-Null at = ap fold (sym (rolls-Null at)) ∙ fold-roll-ExprTree ExprTexts (List ℕ) (List ℕ) expr_step addend_step factor_step (ExprTree-F.Null at)

pub texts-Column : (column : ColumnName) → expr_texts (v.Column column) ≡ as_factor (column_text column)
unfolding expr_texts
texts-Column column = ap fold (sym (rolls-Column column)) ∙ fold-roll-ExprTree ExprTexts (List ℕ) (List ℕ) expr_step addend_step factor_step (ExprTree-F.Column column)

pub texts-Sum : (first : ExprTree) (rest : List Addend) → expr_texts (e.Sum first rest) ≡ as_sum ((expr_texts first).term ++ flat_map addend_text rest)
unfolding expr_texts
texts-Sum first rest =
    ap fold (sym (rolls-Sum first rest)) ∙ fold-roll-ExprTree ExprTexts (List ℕ) (List ℕ) expr_step addend_step factor_step (ExprTree-F.Sum first rest)
    ∙ ap (λ l. as_sum ((fold first).term ++ l)) (joined_is (fold-Addend ExprTexts (List ℕ) (List ℕ) expr_step addend_step factor_step) addend_text addend_is rest)

pub texts-Product : (first : ExprTree) (rest : List Factor) → expr_texts (e.Product first rest) ≡ as_term ((expr_texts first).factor ++ flat_map factor_text rest)
unfolding expr_texts
texts-Product first rest =
    ap fold (sym (rolls-Product first rest)) ∙ fold-roll-ExprTree ExprTexts (List ℕ) (List ℕ) expr_step addend_step factor_step (ExprTree-F.Product first rest)
    ∙ ap (λ l. as_term ((fold first).factor ++ l)) (joined_is (fold-Factor ExprTexts (List ℕ) (List ℕ) expr_step addend_step factor_step) factor_text factor_is rest)

pub texts-Sign : (at : ℕ) (sign : Sign) (expr : ExprTree) → expr_texts (e.Sign at sign expr) ≡ as_factor (word (sign_word sign) ++ (32 ∷ (expr_texts expr).factor))
unfolding expr_texts
texts-Sign at sign expr = ap fold (sym (rolls-Sign at sign expr)) ∙ fold-roll-ExprTree ExprTexts (List ℕ) (List ℕ) expr_step addend_step factor_step (ExprTree-F.Sign at sign expr)

pub texts-Signed : (at : ℕ) (expr : ExprTree) → expr_texts (e.Signed at expr) ≡ as_factor (call_text t.Signed (expr_texts expr).whole)
unfolding expr_texts
texts-Signed at expr = ap fold (sym (rolls-Signed at expr)) ∙ fold-roll-ExprTree ExprTexts (List ℕ) (List ℕ) expr_step addend_step factor_step (ExprTree-F.Signed at expr)

pub texts-Bits : (at : ℕ) (expr : ExprTree) (high low : Numeral) → expr_texts (e.Bits at expr high low) ≡ as_factor (call_text t.Bits ((expr_texts expr).whole ++ bounds_text high.value low.value))
unfolding expr_texts
texts-Bits at expr high low = ap fold (sym (rolls-Bits at expr high low)) ∙ fold-roll-ExprTree ExprTexts (List ℕ) (List ℕ) expr_step addend_step factor_step (ExprTree-F.Bits at expr high low)

pub texts-Memory : (qualifier : Option Label) (at : ℕ) (width : Width) (address : ExprTree)
    → expr_texts (e.Memory qualifier at width address) ≡ as_factor (qualifier_text qualifier ++ call_text (width_word width) (expr_texts address).whole)
unfolding expr_texts
texts-Memory qualifier at width address =
    ap fold (sym (rolls-Memory qualifier at width address)) ∙ fold-roll-ExprTree ExprTexts (List ℕ) (List ℕ) expr_step addend_step factor_step (ExprTree-F.Memory qualifier at width address)

pub texts-CountRows : (at : ℕ) → expr_texts (v.CountRows at) ≡ as_factor (codes "COUNT(*)")
unfolding expr_texts
texts-CountRows at = ap fold (sym (rolls-CountRows at)) ∙ fold-roll-ExprTree ExprTexts (List ℕ) (List ℕ) expr_step addend_step factor_step (ExprTree-F.CountRows at)

pub texts-Aggregate : (at : ℕ) (function : Function) (expr : ExprTree) → expr_texts (e.Aggregate at function expr) ≡ as_factor (call_text (function_word function) (expr_texts expr).whole)
unfolding expr_texts
texts-Aggregate at function expr = ap fold (sym (rolls-Aggregate at function expr)) ∙ fold-roll-ExprTree ExprTexts (List ℕ) (List ℕ) expr_step addend_step factor_step (ExprTree-F.Aggregate at function expr)

-- ---- conditions

abbrev fold_cond : CondTree → CondTexts
fold_cond = fold-CondTree CondTexts cond_step

pub texts-Predicate : (predicate : Predicate)
    → cond_texts (b.Predicate predicate) ≡ record { whole = predicate_text predicate; conj = predicate_text predicate; neg = predicate_text predicate }
unfolding cond_texts
texts-Predicate predicate = ap fold_cond (sym (rolls-Predicate predicate)) ∙ fold-roll-CondTree CondTexts cond_step (CondTree-F.Predicate predicate)

-- the text of a negation
abbrev pub not_text : CondTree → List ℕ
not_text cond = word t.Not ++ (32 ∷ (cond_texts cond).neg)

pub texts-Not : (at : ℕ) (cond : CondTree) → cond_texts (c.Not at cond) ≡ record { whole = not_text cond; conj = not_text cond; neg = not_text cond }
unfolding cond_texts
texts-Not at cond = ap fold_cond (sym (rolls-Not at cond)) ∙ fold-roll-CondTree CondTexts cond_step (CondTree-F.Not at cond)

-- the text of members joined by AND, or by OR
abbrev pub all_text : List CondTree → List ℕ
all_text conds = between_words t.And (map (λ cond. (cond_texts cond).neg) conds)

abbrev pub any_text : List CondTree → List ℕ
any_text conds = between_words t.Or (map (λ cond. (cond_texts cond).conj) conds)

-- a member behind AND, or behind OR
abbrev pub and_text : CondTree → List ℕ
and_text cond = spaced t.And ++ (cond_texts cond).neg

abbrev pub or_text : CondTree → List ℕ
or_text cond = spaced t.Or ++ (cond_texts cond).conj

pub all_text_is : (first : CondTree) (rest : List CondTree) → all_text (first ∷ rest) ≡ (cond_texts first).neg ++ flat_map and_text rest
all_text_is first rest = ap (λ l. (cond_texts first).neg ++ l) (flat_map-map (λ member. spaced t.And ++ member) (λ cond. (cond_texts cond).neg) rest)

pub any_text_is : (first : CondTree) (rest : List CondTree) → any_text (first ∷ rest) ≡ (cond_texts first).conj ++ flat_map or_text rest
any_text_is first rest = ap (λ l. (cond_texts first).conj ++ l) (flat_map-map (λ member. spaced t.Or ++ member) (λ cond. (cond_texts cond).conj) rest)

map_map : {A B C : Type 0} (f : A → B) (g : B → C) (xs : List A) → map g (map f xs) ≡ map (λ x. g (f x)) xs
map_map f g [] = refl
map_map f g (x ∷ xs) = ap (λ l. g (f x) ∷ l) (map_map f g xs)

abbrev all_texts : List (List ℕ) → CondTexts
all_texts members = record { whole = between_words t.And members; conj = between_words t.And members; neg = in_brackets (between_words t.And members) }

abbrev any_texts : List (List ℕ) → CondTexts
any_texts members = record { whole = between_words t.Or members; conj = in_brackets (between_words t.Or members); neg = in_brackets (between_words t.Or members) }

pub texts-All : (conds : List CondTree) → cond_texts (c.All conds) ≡ record { whole = all_text conds; conj = all_text conds; neg = in_brackets (all_text conds) }
unfolding cond_texts
texts-All conds =
    ap fold_cond (sym (rolls-All conds)) ∙ fold-roll-CondTree CondTexts cond_step (CondTree-F.All conds)
    ∙ ap all_texts (map_map fold_cond (λ cond. cond.neg) conds)

pub texts-Any : (conds : List CondTree) → cond_texts (c.Any conds) ≡ record { whole = any_text conds; conj = in_brackets (any_text conds); neg = in_brackets (any_text conds) }
unfolding cond_texts
texts-Any conds =
    ap fold_cond (sym (rolls-Any conds)) ∙ fold-roll-CondTree CondTexts cond_step (CondTree-F.Any conds)
    ∙ ap any_texts (map_map fold_cond (λ cond. cond.conj) conds)

-- ---- what calls put behind a text

pub puts_as : {A E : Type 0} (result : Result A E) (old new a b : List ℕ) → a ≡ b → PutsBehind result old b new → PutsBehind result old a new
puts_as (Ok x) old new a b is h = h ∙ ap (λ l. old ++ l) (sym is)
puts_as (Err x) old new a b is h = tt

pub puts_then : {A E : Type 0} (result : Result A E) (old mid new a b : List ℕ) → mid ≡ old ++ a → PutsBehind result mid b new → PutsBehind result old (a ++ b) new
puts_then (Ok x) old mid new a b is h = h ∙ ap (λ l. l ++ b) is ∙ append_assoc old a b
puts_then (Err x) old mid new a b is h = tt

-- one text behind the other
pub then_is : (old mid new a b : List ℕ) → new ≡ mid ++ b → mid ≡ old ++ a → new ≡ old ++ (a ++ b)
then_is old mid new a b last first = last ∙ ap (λ l. l ++ b) first ∙ append_assoc old a b

-- a word, with the parenthesis that opens, and the rest of a call
pub call_is : (start opening inside : List ℕ) → opening ≡ start ++ codes "(" → start ++ in_brackets inside ≡ opening ++ (inside ++ codes ")")
call_is start opening inside is = sym (ap (λ o. o ++ (inside ++ codes ")")) is ∙ append_assoc start (codes "(") (inside ++ codes ")"))

-- ---- where no parentheses are needed

-- what an expression is, as far as parentheses go
data Shape : ExprTree → Type 0 where
  sum : (first : ExprTree) (rest : List Addend) → Shape (e.Sum first rest)
  product : (first : ExprTree) (rest : List Factor) → Shape (e.Product first rest)
  other : {tree : ExprTree} (text : List ℕ) → expr_texts tree ≡ as_factor text → Shape tree

shape_of_layer : (layer : ExprTree-F ExprTree Addend Factor) → Shape (e.roll-ExprTree layer)
shape_of_layer (ExprTree-F.Numeral numeral) = rw rolls-Numeral (other _ (texts-Numeral numeral))
shape_of_layer (ExprTree-F.Text at said) = rw rolls-Text (other _ (texts-Text at said))
shape_of_layer (ExprTree-F.Null at) = rw rolls-Null (other _ (texts-Null at))
shape_of_layer (ExprTree-F.Column column) = rw rolls-Column (other _ (texts-Column column))
shape_of_layer (ExprTree-F.Sum first rest) = rw rolls-Sum (sum first rest)
shape_of_layer (ExprTree-F.Product first rest) = rw rolls-Product (product first rest)
shape_of_layer (ExprTree-F.Sign at sign expr) = rw rolls-Sign (other _ (texts-Sign at sign expr))
shape_of_layer (ExprTree-F.Signed at expr) = rw rolls-Signed (other _ (texts-Signed at expr))
shape_of_layer (ExprTree-F.Bits at expr high low) = rw rolls-Bits (other _ (texts-Bits at expr high low))
shape_of_layer (ExprTree-F.Memory qualifier at width address) = rw rolls-Memory (other _ (texts-Memory qualifier at width address))
shape_of_layer (ExprTree-F.CountRows at) = rw rolls-CountRows (other _ (texts-CountRows at))
shape_of_layer (ExprTree-F.Aggregate at function expr) = rw rolls-Aggregate (other _ (texts-Aggregate at function expr))

shape : (tree : ExprTree) → Shape tree
shape tree = subst Shape (e.roll-out-ExprTree tree) (shape_of_layer (e.out-ExprTree tree))

term_by_shape : {tree : ExprTree} → Shape tree → ((first : ExprTree) (rest : List Addend) → tree ≡ e.Sum first rest → ⊥) → (expr_texts tree).term ≡ (expr_texts tree).whole
term_by_shape (sum first rest) not_sum = absurd (not_sum first rest refl)
term_by_shape (product first rest) not_sum = ap (λ s. s.term) (texts-Product first rest) ∙ sym (ap (λ s. s.whole) (texts-Product first rest))
term_by_shape (other text is) not_sum = ap (λ s. s.term) is ∙ sym (ap (λ s. s.whole) is)

pub term_is_whole : (tree : ExprTree) → ((first : ExprTree) (rest : List Addend) → tree ≡ e.Sum first rest → ⊥) → (expr_texts tree).term ≡ (expr_texts tree).whole
term_is_whole tree not_sum = term_by_shape (shape tree) not_sum

factor_by_shape : {tree : ExprTree} → Shape tree → ((first : ExprTree) (rest : List Addend) → tree ≡ e.Sum first rest → ⊥)
    → ((first : ExprTree) (rest : List Factor) → tree ≡ e.Product first rest → ⊥) → (expr_texts tree).factor ≡ (expr_texts tree).whole
factor_by_shape (sum first rest) not_sum not_product = absurd (not_sum first rest refl)
factor_by_shape (product first rest) not_sum not_product = absurd (not_product first rest refl)
factor_by_shape (other text is) not_sum not_product = ap (λ s. s.factor) is ∙ sym (ap (λ s. s.whole) is)

pub factor_is_whole : (tree : ExprTree) → ((first : ExprTree) (rest : List Addend) → tree ≡ e.Sum first rest → ⊥)
    → ((first : ExprTree) (rest : List Factor) → tree ≡ e.Product first rest → ⊥) → (expr_texts tree).factor ≡ (expr_texts tree).whole
factor_is_whole tree not_sum not_product = factor_by_shape (shape tree) not_sum not_product

-- ---- where they are

pub sum_in_brackets : (tree first : ExprTree) (rest : List Addend) → tree ≡ e.Sum first rest → (expr_texts tree).term ≡ in_brackets (expr_texts tree).whole
sum_in_brackets tree first rest is = let texts : expr_texts tree ≡ as_sum ((expr_texts first).term ++ flat_map addend_text rest) = ap expr_texts is ∙ texts-Sum first rest in
    ap (λ s. s.term) texts ∙ sym (ap (λ s. in_brackets s.whole) texts)

pub factor_in_brackets : (tree : ExprTree) → ((first : ExprTree) × (rest : List Addend) × tree ≡ e.Sum first rest) ⊎ ((first : ExprTree) × (rest : List Factor) × tree ≡ e.Product first rest)
    → (expr_texts tree).factor ≡ in_brackets (expr_texts tree).whole
factor_in_brackets tree (inl (first, rest, is)) = let texts : expr_texts tree ≡ as_sum ((expr_texts first).term ++ flat_map addend_text rest) = ap expr_texts is ∙ texts-Sum first rest in
    ap (λ s. s.factor) texts ∙ sym (ap (λ s. in_brackets s.whole) texts)
factor_in_brackets tree (inr (first, rest, is)) = let texts : expr_texts tree ≡ as_term ((expr_texts first).factor ++ flat_map factor_text rest) = ap expr_texts is ∙ texts-Product first rest in
    ap (λ s. s.factor) texts ∙ sym (ap (λ s. in_brackets s.whole) texts)

-- what a condition is, as far as parentheses go
data CondShape : CondTree → Type 0 where
  all : (conds : List CondTree) → CondShape (c.All conds)
  any : (conds : List CondTree) → CondShape (c.Any conds)
  other : {tree : CondTree} (text : List ℕ) → cond_texts tree ≡ record { whole = text; conj = text; neg = text } → CondShape tree

cond_shape_of_layer : (layer : CondTree-F CondTree) → CondShape (c.roll-CondTree layer)
cond_shape_of_layer (CondTree-F.Predicate predicate) = rw rolls-Predicate (other _ (texts-Predicate predicate))
cond_shape_of_layer (CondTree-F.Not at cond) = rw rolls-Not (other _ (texts-Not at cond))
cond_shape_of_layer (CondTree-F.All conds) = rw rolls-All (all conds)
cond_shape_of_layer (CondTree-F.Any conds) = rw rolls-Any (any conds)

cond_shape : (tree : CondTree) → CondShape tree
cond_shape tree = subst CondShape (c.roll-out-CondTree tree) (cond_shape_of_layer (c.out-CondTree tree))

conj_by_shape : {tree : CondTree} → CondShape tree → ((conds : List CondTree) → tree ≡ c.Any conds → ⊥) → (cond_texts tree).conj ≡ (cond_texts tree).whole
conj_by_shape (all conds) not_any = ap (λ s. s.conj) (texts-All conds) ∙ sym (ap (λ s. s.whole) (texts-All conds))
conj_by_shape (any conds) not_any = absurd (not_any conds refl)
conj_by_shape (other text is) not_any = ap (λ s. s.conj) is ∙ sym (ap (λ s. s.whole) is)

pub conj_is_whole : (tree : CondTree) → ((conds : List CondTree) → tree ≡ c.Any conds → ⊥) → (cond_texts tree).conj ≡ (cond_texts tree).whole
conj_is_whole tree not_any = conj_by_shape (cond_shape tree) not_any

neg_by_shape : {tree : CondTree} → CondShape tree → ((conds : List CondTree) → tree ≡ c.Any conds → ⊥) → ((conds : List CondTree) → tree ≡ c.All conds → ⊥)
    → (cond_texts tree).neg ≡ (cond_texts tree).whole
neg_by_shape (all conds) not_any not_all = absurd (not_all conds refl)
neg_by_shape (any conds) not_any not_all = absurd (not_any conds refl)
neg_by_shape (other text is) not_any not_all = ap (λ s. s.neg) is ∙ sym (ap (λ s. s.whole) is)

pub neg_is_whole : (tree : CondTree) → ((conds : List CondTree) → tree ≡ c.Any conds → ⊥) → ((conds : List CondTree) → tree ≡ c.All conds → ⊥)
    → (cond_texts tree).neg ≡ (cond_texts tree).whole
neg_is_whole tree not_any not_all = neg_by_shape (cond_shape tree) not_any not_all

pub any_in_brackets : (tree : CondTree) (conds : List CondTree) → tree ≡ c.Any conds → (cond_texts tree).conj ≡ in_brackets (cond_texts tree).whole
any_in_brackets tree conds is = let texts : cond_texts tree ≡ any_texts (map (λ cond. (cond_texts cond).conj) conds) = ap cond_texts is ∙ texts-Any conds in
    ap (λ s. s.conj) texts ∙ sym (ap (λ s. in_brackets s.whole) texts)

pub neg_in_brackets : (tree : CondTree) → ((conds : List CondTree) × tree ≡ c.Any conds) ⊎ ((conds : List CondTree) × tree ≡ c.All conds) → (cond_texts tree).neg ≡ in_brackets (cond_texts tree).whole
neg_in_brackets tree (inl (conds, is)) = let texts : cond_texts tree ≡ any_texts (map (λ cond. (cond_texts cond).conj) conds) = ap cond_texts is ∙ texts-Any conds in
    ap (λ s. s.neg) texts ∙ sym (ap (λ s. in_brackets s.whole) texts)
neg_in_brackets tree (inr (conds, is)) = let texts : cond_texts tree ≡ all_texts (map (λ cond. (cond_texts cond).neg) conds) = ap cond_texts is ∙ texts-All conds in
    ap (λ s. s.neg) texts ∙ sym (ap (λ s. in_brackets s.whole) texts)

-- where there are no members
pub no_all : (tree : CondTree) (conds : List CondTree) (text : List ℕ) → tree ≡ c.All conds → length conds < 1 → text ≡ text ++ (cond_texts tree).whole
no_all tree [] text is none = sym (ap (λ l. text ++ l) (ap (λ e. (cond_texts e).whole) is ∙ ap (λ s. s.whole) (texts-All [])) ∙ append-nil text)
no_all tree (x ∷ xs) text is none = absurd (omega arith)

pub no_any : (tree : CondTree) (conds : List CondTree) (text : List ℕ) → tree ≡ c.Any conds → length conds < 1 → text ≡ text ++ (cond_texts tree).whole
no_any tree [] text is none = sym (ap (λ l. text ++ l) (ap (λ e. (cond_texts e).whole) is ∙ ap (λ s. s.whole) (texts-Any [])) ∙ append-nil text)
no_any tree (x ∷ xs) text is none = absurd (omega arith)

-- the members after the first, as the code has them
abbrev pub after_first : List CondTree → List CondTree
after_first conds = take (length conds - 1) (drop 1 conds)

first_and_rest : (conds : List CondTree) (first : CondTree) → 1 ≤ length conds → first ≡ get_or conds 0 first → conds ≡ first ∷ after_first conds
first_and_rest [] first some is = absurd (omega arith)
first_and_rest (x ∷ xs) first some is =
    let rest : take (length (x ∷ xs) - 1) xs ≡ xs = take_all (length (x ∷ xs) - 1) xs (omega arith) in
    ap (λ y. y ∷ xs) (sym is) ∙ ap (λ l. first ∷ l) (sym rest)

-- all members were written
pub all_written : (tree : CondTree) (conds : List CondTree) (first : CondTree) (old mid new : List ℕ) (n : ℕ) → tree ≡ c.All conds → 1 ≤ length conds → first ≡ get_or conds 0 first
    → mid ≡ old ++ (cond_texts first).neg → new ≡ mid ++ flat_map and_text (take n (after_first conds)) → length (after_first conds) ≤ n
    → new ≡ old ++ (cond_texts tree).whole
all_written tree conds first old mid new n tree_is some first_is mid_is so_far whole =
    then_is old mid new _ _ (grown_all and_text mid new (after_first conds) n whole so_far) mid_is
    ∙ ap (λ l. old ++ l) (sym (ap (λ e. (cond_texts e).whole) (tree_is ∙ ap (λ l. c.All l) (first_and_rest conds first some first_is))
    ∙ ap (λ s. s.whole) (texts-All (first ∷ after_first conds)) ∙ all_text_is first (after_first conds)))

pub any_written : (tree : CondTree) (conds : List CondTree) (first : CondTree) (old mid new : List ℕ) (n : ℕ) → tree ≡ c.Any conds → 1 ≤ length conds → first ≡ get_or conds 0 first
    → mid ≡ old ++ (cond_texts first).conj → new ≡ mid ++ flat_map or_text (take n (after_first conds)) → length (after_first conds) ≤ n
    → new ≡ old ++ (cond_texts tree).whole
any_written tree conds first old mid new n tree_is some first_is mid_is so_far whole =
    then_is old mid new _ _ (grown_all or_text mid new (after_first conds) n whole so_far) mid_is
    ∙ ap (λ l. old ++ l) (sym (ap (λ e. (cond_texts e).whole) (tree_is ∙ ap (λ l. c.Any l) (first_and_rest conds first some first_is))
    ∙ ap (λ s. s.whole) (texts-Any (first ∷ after_first conds)) ∙ any_text_is first (after_first conds)))
