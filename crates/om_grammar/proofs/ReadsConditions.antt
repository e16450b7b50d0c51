-- Where the parsers of predicates and conditions stop.
use Rattle.std.proofs.Common.{◌≡◌, ℕ, zero, suc, List, [], ◌∷◌, ◌++◌, Some, sym, subst, append_assoc, arith}
use Rattle.std.proofs.lemmas.List.{append-nil}
use Rattle.om_token.specs.declared.token.Token.{Token}
use Rattle.om_token.specs.declared.terminal.Terminal.TheVariants as t
use Rattle.om_grammar.specs.declared.expr_tree.ExprTree.{ExprTree}
use Rattle.om_grammar.specs.declared.expr_tree.ExprTree.TheVariants as trees
use Rattle.om_grammar.specs.declared.cond_tree.CondTree.{CondTree}
use Rattle.om_grammar.specs.declared.cond_tree.CondTree.TheVariants as b
use Rattle.om_grammar.specs.declared.cond_tree.CondTree.TheViews as c
use Rattle.om_grammar.specs.declared.cond_tree.Predicate.{Predicate}
use Rattle.om_grammar.specs.declared.cond_tree.Predicate.TheVariants as p
use Rattle.om_grammar.specs.declared.cond_tree.Polarity.{Polarity}
use Rattle.om_grammar.specs.declared.cond_tree.Polarity.TheVariants as polarities
use Rattle.om_grammar.specs.declared.cond_tree.CompareOp.{CompareOp}
use Rattle.om_grammar.specs.declared.cond_tree.CompareOp.TheVariants as o
use Rattle.om_grammar.specs.declared.aggregates.Aggregates.TheVariants as aggregates
use Rattle.om_grammar.specs.declared.found.Found.{Found}
use Rattle.om_grammar.specs.declared.found.Found.TheVariants as f
use Rattle.om_grammar.specs.declared.lead.Word.{Word}
use Rattle.om_grammar.specs.declared.lead.Word.TheVariants as words
use Rattle.om_grammar.specs.declared.lead.Negatable.{Negatable}
use Rattle.om_grammar.specs.declared.lead.Negatable.TheVariants as negatables
use Rattle.om_grammar.specs.Grammar.{Tokens, Lang, terminal, in_parens, AreMore, AreListed, IsExpr, AreAddends, IsTerm, AreFactors, IsFactor, IsPrimary, IsOperator, IsPolarity, IsValue, IsPredicate, all_of, any_of, IsCond, AreConjs, IsConj, AreNegs, IsNeg, IsTest}
use Rattle.om_grammar.specs.Parsers.{Parser, ◌>>=◌, pure, one, tails}
use Rattle.om_grammar.specs.Reading as r
use Rattle.om_grammar.specs.Reading.{offset_of, word_of, negatable_of, expect, polarity_parser, only_truth}
use Rattle.om_grammar.proofs.Runs.{Runs, pure_run, wrong_run, deep_run, bind_run, then_run, seen_run, map_run, wider_run, tails_runs, Then, Seen, Goes}
use Rattle.om_grammar.proofs.Marks.{IsMark, mark, mark_seen, expect_runs, IsWord, word_seen, IsNegatable, negatable_runs}
use Rattle.om_grammar.proofs.ReadsExpressions.{some_expr, expr_over_runs, Resumes, resumed_runs}
use Rattle.om_grammar.proofs.ReadsFactors.{factor_runs}

-- ---- frames

pub data IsClosed {A : Type 0} (L : Lang A) : Tokens → A → Type 0 where
  closed : {u : Tokens} {x : A} (at : ℕ) → L u x → IsClosed L (u ++ terminal at t.RightParen ∷ []) x

pub data IsEnclosed {A : Type 0} (L : Lang A) : Tokens → A → Type 0 where
  enclosed : {u : Tokens} {x : A} (open_at close_at : ℕ) → L u x → IsEnclosed L (in_parens open_at close_at u) x

close_end : {A : Type 0} (L : Lang A) (x : A) (w : Tokens) (at : ℕ) → IsMark t.RightParen w at → (u : Tokens) → L u x → IsClosed L (u ++ w) x
close_end L x w at (mark _) u h = closed at h

pub closed_runs : {A : Type 0} (depth : ℕ) (inner : Parser A) (L : Lang A) → Runs depth inner L → Runs depth (r.closed inner) (IsClosed L)
unfolding r.closed
closed_runs depth inner L runs =
    then_run depth inner (λ x. expect t.RightParen >>= λ _. pure x) L (IsClosed L) (λ x. (terminal 0 t.RightParen ∷ [], x, λ u h. closed 0 h)) runs
    (λ x. map_run depth (expect t.RightParen) (λ _. x) (IsMark t.RightParen) (Then L (IsClosed L) x) (λ w at m u h. close_end L x w at m u h) (expect_runs depth t.RightParen))

enclose : {A : Type 0} (L : Lang A) (w u : Tokens) (open_at : ℕ) (x : A) → IsMark t.LeftParen u open_at → IsClosed L w x → IsEnclosed L (u ++ w) x
enclose L w u open_at x (mark _) (closed close_at h) = enclosed open_at close_at h

-- something of the language is there
pub enclosed_runs : {A : Type 0} (depth : ℕ) (inner : Parser A) (L : Lang A) → Goes L → Runs depth inner L → Runs depth (r.enclosed inner) (IsEnclosed L)
unfolding r.enclosed
enclosed_runs depth inner L some runs =
    bind_run depth (expect t.LeftParen) (λ _. r.closed inner) (IsMark t.LeftParen) (λ _. IsClosed L) (IsEnclosed L) (λ u w open_at x m h. enclose L w u open_at x m h)
    (λ _. (some.0 ++ terminal 0 t.RightParen ∷ [], some.1, closed 0 some.2)) (expect_runs depth t.LeftParen) (λ _. closed_runs depth inner L runs)

module _ {A : Type 0} (depth : ℕ) (member : Parser A) (M : Lang A) (runs : Runs depth member M) where
  more_members : (next : Token) (at : ℕ) (u w : Tokens) (x : A) (xs : List A) → offset_of t.Comma next ≡ Some at → M u x → AreMore t.Comma M w xs → AreMore t.Comma M (next ∷ (u ++ w)) (x ∷ xs)
  more_members next at u w x xs e h g = go next at (mark_seen t.Comma next at e)
    where
      go : (next : Token) (at : ℕ) → IsMark t.Comma (next ∷ []) at → AreMore t.Comma M (next ∷ (u ++ w)) (x ∷ xs)
      go next at (mark _) = AreMore.more at h g

  data Listed (x : A) : Tokens → List A → Type 0 where
    listed : {w : Tokens} {xs : List A} → AreMore t.Comma M w xs → Listed x w (x ∷ xs)

  list_join : (u w : Tokens) (x : A) (y : List A) → M u x → Listed x w y → AreListed t.Comma M (u ++ w) y
  list_join u w x y h (listed g) = AreListed.list h g

  pub listed_runs : Runs depth (r.listed member) (AreListed t.Comma M)
  unfolding r.listed
  listed_runs =
      bind_run depth member (λ x. tails (offset_of t.Comma) (λ _. member) >>= λ xs. pure (x ∷ xs)) M Listed (AreListed t.Comma M) list_join (λ x. ([], x ∷ [], listed AreMore.none)) runs
      (λ x. map_run depth (tails (offset_of t.Comma) (λ _. member)) (λ xs. x ∷ xs) (AreMore t.Comma M) (Listed x) (λ u xs h. listed h)
      (tails_runs depth (offset_of t.Comma) (λ _. member) (λ _. M) (AreMore t.Comma M) (λ _. runs) AreMore.none more_members))

-- ---- predicates

some_value : IsValue (terminal 0 t.Null ∷ []) (trees.Null 0)
some_value = some_expr aggregates.Refused

-- what stands behind BETWEEN and behind IN
data IsBetween (at : ℕ) (polarity : Polarity) (what : ExprTree) : Tokens → Predicate → Type 0 where
  bounds : {u w : Tokens} {low high : ExprTree} (and_at : ℕ) → IsValue u low → IsValue w high → IsBetween at polarity what (u ++ terminal and_at t.And ∷ w) (p.Between at polarity what low high)

data IsWithin (at : ℕ) (polarity : Polarity) (what : ExprTree) : Tokens → Predicate → Type 0 where
  members : {u : Tokens} {list : List ExprTree} (open_at close_at : ℕ) → AreListed t.Comma IsValue u list → IsWithin at polarity what (in_parens open_at close_at u) (p.In at polarity what list)

module _ (depth : ℕ) (value : Parser ExprTree) (runs : Runs depth value IsValue) (what : ExprTree) where
  high_end : (at : ℕ) (polarity : Polarity) (low high : ExprTree) (w : Tokens) → IsValue w high
      → (v : Tokens) (and_at : ℕ) → IsMark t.And v and_at → (u : Tokens) → IsValue u low → IsBetween at polarity what (u ++ (v ++ w)) (p.Between at polarity what low high)
  high_end at polarity low high w h v and_at (mark _) u g = bounds and_at g h

  between_runs : (at : ℕ) (polarity : Polarity) → Runs depth (r.between at polarity what value) (IsBetween at polarity what)
  unfolding r.between
  between_runs at polarity =
      then_run depth value (λ low. expect t.And >>= λ _. value >>= λ high. pure (p.Between at polarity what low high)) IsValue (IsBetween at polarity what)
      (λ low. (terminal 0 t.And ∷ terminal 0 t.Null ∷ [], p.Between at polarity what low (trees.Null 0), λ u g. bounds 0 g some_value)) runs
      (λ low. then_run depth (expect t.And) (λ _. value >>= λ high. pure (p.Between at polarity what low high)) (IsMark t.And) (Then IsValue (IsBetween at polarity what) low)
      (λ and_at. (terminal 0 t.Null ∷ [], p.Between at polarity what low (trees.Null 0), λ v m u g. high_end at polarity low (trees.Null 0) (terminal 0 t.Null ∷ []) some_value v and_at m u g))
      (expect_runs depth t.And)
      (λ and_at. map_run depth value (λ high. p.Between at polarity what low high) IsValue (Then (IsMark t.And) (Then IsValue (IsBetween at polarity what) low) and_at)
      (λ w high h v m u g. high_end at polarity low high w h v and_at m u g) runs))

  some_list : AreListed t.Comma IsValue (terminal 0 t.Null ∷ []) (trees.Null 0 ∷ [])
  some_list = AreListed.list some_value AreMore.none

  list_end : (at : ℕ) (polarity : Polarity) (u : Tokens) (list : List ExprTree) → IsEnclosed (AreListed t.Comma IsValue) u list → IsWithin at polarity what u (p.In at polarity what list)
  list_end at polarity u list (enclosed open_at close_at h) = members open_at close_at h

  within_runs : (at : ℕ) (polarity : Polarity) → Runs depth (r.within at polarity what value) (IsWithin at polarity what)
  unfolding r.within
  within_runs at polarity =
      map_run depth (r.enclosed (r.listed value)) (λ list. p.In at polarity what list) (IsEnclosed (AreListed t.Comma IsValue)) (IsWithin at polarity what) (list_end at polarity)
      (enclosed_runs depth (r.listed value) (AreListed t.Comma IsValue) (terminal 0 t.Null ∷ [], trees.Null 0 ∷ [], some_list) (listed_runs depth value IsValue runs))

  between_goes : (at : ℕ) (polarity : Polarity) → Goes (IsBetween at polarity what)
  between_goes at polarity = (terminal 0 t.Null ∷ terminal 0 t.And ∷ terminal 0 t.Null ∷ [], p.Between at polarity what (trees.Null 0) (trees.Null 0), bounds 0 some_value some_value)

  within_goes : (at : ℕ) (polarity : Polarity) → Goes (IsWithin at polarity what)
  within_goes at polarity = (in_parens 0 0 (terminal 0 t.Null ∷ []), p.In at polarity what (trees.Null 0 ∷ []), members 0 0 some_list)

-- behind NOT that stands behind an expression
data IsNegated (what : ExprTree) : Tokens → Predicate → Type 0 where
  not_between : {u : Tokens} {x : Predicate} (at : ℕ) → IsBetween at polarities.Negated what u x → IsNegated what (terminal at t.Between ∷ u) x
  not_within : {u : Tokens} {x : Predicate} (at : ℕ) → IsWithin at polarities.Negated what u x → IsNegated what (terminal at t.In ∷ u) x

-- behind a negatable word
IsNegatedRest : ExprTree → Negatable → Lang Predicate
IsNegatedRest what (negatables.Between at) = IsBetween at polarities.Negated what
IsNegatedRest what (negatables.In at) = IsWithin at polarities.Negated what

negated_join : (what : ExprTree) (u w : Tokens) (x : Negatable) (y : Predicate) → IsNegatable u x → IsNegatedRest what x w y → IsNegated what (u ++ w) y
unfolding IsNegatedRest
negated_join what u w x y (IsNegatable.between at) h = not_between at h
negated_join what u w x y (IsNegatable.within at) h = not_within at h

-- what stands behind IS
data IsNullTest (at : ℕ) (what : ExprTree) : Tokens → Predicate → Type 0 where
  null_test : {n : Tokens} {polarity : Polarity} (null_at : ℕ) → IsPolarity n polarity → IsNullTest at what (n ++ terminal null_at t.Null ∷ []) (p.IsNull at polarity what)

negated_at : (next : Token) (at : ℕ) → IsMark t.Not (next ∷ []) at → IsPolarity (next ∷ []) polarities.Negated
negated_at next at (mark _) = IsPolarity.negated at

polarity_runs : (depth : ℕ) → Runs depth polarity_parser IsPolarity
polarity_runs depth =
    seen_run depth depth (offset_of t.Not) (λ _. pure polarities.Negated) (pure polarities.Plain) IsPolarity (omega arith)
    (λ at. pure_run depth polarities.Negated (Seen (offset_of t.Not) IsPolarity at) (λ next e. negated_at next at (mark_seen t.Not next at e)))
    (pure_run depth polarities.Plain IsPolarity IsPolarity.plain)

null_end : (at : ℕ) (what : ExprTree) (polarity : Polarity) (w : Tokens) (null_at : ℕ) → IsMark t.Null w null_at → (n : Tokens) → IsPolarity n polarity → IsNullTest at what (n ++ w) (p.IsNull at polarity what)
null_end at what polarity w null_at (mark _) n h = null_test null_at h

is_null_runs : (depth at : ℕ) (what : ExprTree) → Runs depth (r.is_null at what) (IsNullTest at what)
unfolding r.is_null
is_null_runs depth at what =
    then_run depth polarity_parser (λ polarity. expect t.Null >>= λ _. pure (p.IsNull at polarity what)) IsPolarity (IsNullTest at what)
    (λ polarity. (terminal 0 t.Null ∷ [], p.IsNull at polarity what, λ n h. null_test 0 h)) (polarity_runs depth)
    (λ polarity. map_run depth (expect t.Null) (λ _. p.IsNull at polarity what) (IsMark t.Null) (Then IsPolarity (IsNullTest at what) polarity) (λ w null_at m n h. null_end at what polarity w null_at m n h) (expect_runs depth t.Null))

-- what stands behind the word behind an expression
data IsCompared (at : ℕ) (op : CompareOp) (what : ExprTree) : Tokens → Predicate → Type 0 where
  right : {u : Tokens} {x : ExprTree} → IsValue u x → IsCompared at op what u (p.Compare at op what x)

IsWordRest : ExprTree → Word → Lang Predicate
IsWordRest what (words.Compare at op) = IsCompared at op what
IsWordRest what words.Not = IsNegated what
IsWordRest what (words.Between at) = IsBetween at polarities.Plain what
IsWordRest what (words.In at) = IsWithin at polarities.Plain what
IsWordRest what (words.Is at) = IsNullTest at what

-- an expression, the word behind it and what stands behind that are a predicate
word_join : (what : ExprTree) (next : Token) (x : Word) (w : Tokens) (y : Predicate) → IsWord (next ∷ []) x → IsWordRest what x w y → (u : Tokens) → IsValue u what → IsPredicate (u ++ next ∷ w) y
unfolding IsWordRest
word_join what next x w y (IsWord.compare at op) (right h) u g = IsPredicate.comparison at g op h
word_join what next x w y (IsWord.«not» not_at) (not_between at (bounds and_at h f)) u g = IsPredicate.between at and_at g (IsPolarity.negated not_at) h f
word_join what next x w y (IsWord.«not» not_at) (not_within at (members open_at close_at h)) u g = IsPredicate.within at open_at close_at g (IsPolarity.negated not_at) h
word_join what next x w y (IsWord.between at) (bounds and_at h f) u g = IsPredicate.between at and_at g IsPolarity.plain h f
word_join what next x w y (IsWord.within at) (members open_at close_at h) u g = IsPredicate.within at open_at close_at g IsPolarity.plain h
word_join what next x w y (IsWord.is_word at) (null_test null_at h) u g = IsPredicate.is_null at null_at g h

module _ (depth : ℕ) (value : Parser ExprTree) (runs : Runs depth value IsValue) (what : ExprTree) where
  after_not_runs : (x : Negatable) → Runs depth (r.after_not what value x) (IsNegatedRest what x)
  unfolding r.after_not IsNegatedRest
  after_not_runs (negatables.Between at) = between_runs depth value runs what at polarities.Negated
  after_not_runs (negatables.In at) = within_runs depth value runs what at polarities.Negated

  after_not_goes : (x : Negatable) → Goes (IsNegatedRest what x)
  unfolding IsNegatedRest
  after_not_goes (negatables.Between at) = between_goes depth value runs what at polarities.Negated
  after_not_goes (negatables.In at) = within_goes depth value runs what at polarities.Negated

  after_word_runs : (x : Word) → Runs depth (r.after_word what value x) (IsWordRest what x)
  unfolding r.after_word IsWordRest
  after_word_runs (words.Compare at op) = map_run depth value (λ x. p.Compare at op what x) IsValue (IsCompared at op what) (λ u x h. right h) runs
  after_word_runs words.Not =
      bind_run depth (one negatable_of) (r.after_not what value) IsNegatable (IsNegatedRest what) (IsNegated what) (negated_join what) after_not_goes (negatable_runs depth) after_not_runs
  after_word_runs (words.Between at) = between_runs depth value runs what at polarities.Plain
  after_word_runs (words.In at) = within_runs depth value runs what at polarities.Plain
  after_word_runs (words.Is at) = is_null_runs depth at what

-- ---- an expression or a condition

pub data IsFound (C : Lang CondTree) : Tokens → Found → Type 0 where
  value : {u : Tokens} {x : ExprTree} → IsValue u x → IsFound C u (f.Value x)
  truth : {u : Tokens} {x : CondTree} → C u x → IsFound C u (f.Truth x)

same_end : {A : Type 0} (L : Lang A) (u : Tokens) (x : A) → L u x → L (u ++ []) x
same_end L u x h = subst (λ (l : Tokens). L l x) (sym (append-nil u)) h

module _ (depth : ℕ) (value_parser : Parser ExprTree) (runs : Runs depth value_parser IsValue) where
  -- what stands behind an expression
  abbrev pub Compares : ExprTree → Lang Found
  Compares = Then IsValue (IsFound IsTest)

  compare_end : (what : ExprTree) (s : Word) (w : Tokens) (x : Predicate) → IsWordRest what s w x → (next : Token) → word_of next ≡ Some s → Compares what (next ∷ w) (f.Truth (b.Predicate x))
  compare_end what s w x h next e u g = truth (IsTest.predicate (word_join what next s w x (word_seen next s e) h u g))

  pub compared_runs : (what : ExprTree) → Runs depth (r.compared value_parser what) (Compares what)
  unfolding r.compared
  compared_runs what =
      seen_run depth depth word_of (λ w. r.after_word what value_parser w >>= λ x. pure (f.Truth (b.Predicate x))) (pure (f.Value what)) (Compares what) (omega arith)
      (λ s. map_run depth (r.after_word what value_parser s) (λ x. f.Truth (b.Predicate x)) (IsWordRest what s) (Seen word_of (Compares what) s) (λ w x h. compare_end what s w x h) (after_word_runs depth value_parser runs what s))
      (pure_run depth (f.Value what) (Compares what) (λ u h. same_end (IsFound IsTest) u (f.Value what) (value h)))

  compared_goes : (what : ExprTree) → Goes (Compares what)
  compared_goes what = ([], f.Value what, λ u h. same_end (IsFound IsTest) u (f.Value what) (value h))

-- ---- tests

primary_value : (u : Tokens) (x : ExprTree) → IsPrimary aggregates.Refused u x → IsValue u x
primary_value u x h = subst (λ (l : Tokens). IsValue l x) (append-nil u) (IsExpr.sum term AreAddends.no_addend)
  where
    term : IsTerm aggregates.Refused u x
    term = subst (λ (l : Tokens). IsTerm aggregates.Refused l x) (append-nil u) (IsTerm.product (IsFactor.primary h) AreFactors.no_factor)

-- what follows a first primary makes a test or an expression with it
abbrev Primes : ExprTree → Lang Found
Primes = Then (IsPrimary aggregates.Refused) (IsFound IsTest)

prime_join : (depth : ℕ) (one_factor : Parser ExprTree) (runs : Runs depth one_factor (IsFactor aggregates.Refused)) (x : ExprTree) (u w : Tokens) (y : ExprTree) (z : Found)
    → Resumes depth aggregates.Refused one_factor runs x u y → Then IsValue (IsFound IsTest) y w z → Primes x (u ++ w) z
prime_join depth one_factor runs x u w y z h g = λ q f. subst (λ (l : Tokens). IsFound IsTest l z) (append_assoc q u w) (g (q ++ u) (h q f))

in_parens_value : (x : ExprTree) (u : Tokens) → IsClosed (IsFound IsCond) u (f.Value x) → (next : Token) (at : ℕ) → IsMark t.LeftParen (next ∷ []) at → IsPrimary aggregates.Refused (next ∷ u) x
in_parens_value x u (closed close_at (value h)) next at (mark _) = IsPrimary.parens at close_at h

in_parens_truth : (x : CondTree) (u : Tokens) → IsClosed (IsFound IsCond) u (f.Truth x) → (next : Token) (at : ℕ) → IsMark t.LeftParen (next ∷ []) at → IsTest (next ∷ u) x
in_parens_truth x u (closed close_at (truth h)) next at (mark _) = IsTest.nested at close_at h

module _ (depth : ℕ) (inner : Parser Found) (inner_runs : Runs depth inner (IsFound IsCond)) (one_factor : Parser ExprTree)
    (runs : Runs (suc depth) one_factor (IsFactor aggregates.Refused)) where
  value_runs : Runs (suc depth) (r.expr_over one_factor) IsValue
  value_runs = expr_over_runs (suc depth) aggregates.Refused one_factor runs

  abbrev Parens : ℕ → Lang Found
  Parens = Seen (offset_of t.LeftParen) (IsFound IsTest)

  abbrev AfterParens : ℕ → Found → Lang Found
  AfterParens at = Then (IsClosed (IsFound IsCond)) (Parens at)

  truth_end : (at : ℕ) (x : CondTree) → AfterParens at (f.Truth x) [] (f.Truth x)
  truth_end at x u h next e = truth (same_end IsTest (next ∷ u) x (in_parens_truth x u h next at (mark_seen t.LeftParen next at e)))

  value_end : (at : ℕ) (x : ExprTree) (w : Tokens) (z : Found) → Primes x w z → AfterParens at (f.Value x) w z
  value_end at x w z g u h next e = g (next ∷ u) (in_parens_value x u h next at (mark_seen t.LeftParen next at e))

  resumed_compared : (x : ExprTree) → Runs (suc depth) (r.resumed one_factor x >>= r.compared (r.expr_over one_factor)) (Primes x)
  resumed_compared x =
      bind_run (suc depth) (r.resumed one_factor x) (r.compared (r.expr_over one_factor)) (Resumes (suc depth) aggregates.Refused one_factor runs x) (Then IsValue (IsFound IsTest)) (Primes x)
      (λ u w y z h g. prime_join (suc depth) one_factor runs x u w y z h g) (compared_goes (suc depth) (r.expr_over one_factor) value_runs)
      (resumed_runs (suc depth) aggregates.Refused one_factor runs x) (compared_runs (suc depth) (r.expr_over one_factor) value_runs)

  after_parens_runs : (at : ℕ) (x : Found) → Runs depth (r.after_parens one_factor x) (AfterParens at x)
  unfolding r.after_parens
  after_parens_runs at (f.Truth x) = pure_run depth (f.Truth x) (AfterParens at (f.Truth x)) (truth_end at x)
  after_parens_runs at (f.Value x) =
      wider_run depth (suc depth) (r.resumed one_factor x >>= r.compared (r.expr_over one_factor)) (Primes x) (AfterParens at (f.Value x)) (omega arith) (λ w z g. value_end at x w z g) (resumed_compared x)

  primes_goes : (x : ExprTree) → Primes x [] (f.Value x)
  primes_goes x u h = same_end (IsFound IsTest) u (f.Value x) (value (primary_value u x h))

  after_parens_goes : (at : ℕ) (x : Found) → Goes (AfterParens at x)
  after_parens_goes at (f.Truth x) = ([], f.Truth x, truth_end at x)
  after_parens_goes at (f.Value x) = ([], f.Value x, value_end at x [] (f.Value x) (primes_goes x))

  pub test_runs : Runs (suc depth) (r.one_test inner one_factor) (IsFound IsTest)
  unfolding r.one_test
  test_runs =
      seen_run (suc depth) depth (offset_of t.LeftParen) (λ _. r.closed inner >>= r.after_parens one_factor) (r.expr_over one_factor >>= r.compared (r.expr_over one_factor)) (IsFound IsTest) (omega arith)
      (λ at. then_run depth (r.closed inner) (r.after_parens one_factor) (IsClosed (IsFound IsCond)) (Parens at) (after_parens_goes at) (closed_runs depth inner (IsFound IsCond) inner_runs) (after_parens_runs at))
      (then_run (suc depth) (r.expr_over one_factor) (r.compared (r.expr_over one_factor)) IsValue (IsFound IsTest) (compared_goes (suc depth) (r.expr_over one_factor) value_runs) value_runs
      (compared_runs (suc depth) (r.expr_over one_factor) value_runs))

-- ---- conditions

module _ (depth : ℕ) (C : Lang CondTree) (both : Parser Found) (runs : Runs depth both (IsFound C)) (lift : (u : Tokens) (x : CondTree) → IsTest u x → C u x) where
  found_truth : (u : Tokens) (x : CondTree) → IsFound C u (f.Truth x) → C u x
  found_truth u x (truth h) = h

  -- an expression goes on to a comparison with NULL
  found_value : (u : Tokens) (x : ExprTree) → IsFound C u (f.Value x) → C (u ++ terminal 0 t.Equal ∷ terminal 0 t.Null ∷ []) (b.Predicate (p.Compare 0 o.Equal x (trees.Null 0)))
  found_value u x (value h) =
      lift (u ++ terminal 0 t.Equal ∷ terminal 0 t.Null ∷ []) (b.Predicate (p.Compare 0 o.Equal x (trees.Null 0))) (IsTest.predicate (IsPredicate.comparison 0 h IsOperator.equal some_value))

  only_goes : (x : Found) → Goes (Then (IsFound C) C x)
  only_goes (f.Truth x) = ([], x, λ u h. same_end C u x (found_truth u x h))
  only_goes (f.Value x) = (terminal 0 t.Equal ∷ terminal 0 t.Null ∷ [], b.Predicate (p.Compare 0 o.Equal x (trees.Null 0)), λ u h. found_value u x h)

  only_runs : (x : Found) → Runs depth (only_truth x) (Then (IsFound C) C x)
  only_runs (f.Truth x) = pure_run depth x (Then (IsFound C) C (f.Truth x)) (λ u h. same_end C u x (found_truth u x h))
  only_runs (f.Value x) =
      wrong_run depth (Then (IsFound C) C (f.Value x)) (terminal 0 t.Equal ∷ terminal 0 t.Null ∷ [], b.Predicate (p.Compare 0 o.Equal x (trees.Null 0)), λ u h. found_value u x h)

  pub truth_runs : Runs depth (r.truth both) C
  unfolding r.truth
  truth_runs = then_run depth both only_truth (IsFound C) C only_goes runs only_runs

module _ (depth : ℕ) (neg : Parser Found) (runs : Runs depth neg (IsFound IsNeg)) where
  pub neg_truth_runs : Runs depth (r.truth neg) IsNeg
  neg_truth_runs = truth_runs depth IsNeg neg runs (λ u x h. IsNeg.test h)

  more_negs : (next : Token) (at : ℕ) (u w : Tokens) (x : CondTree) (xs : List CondTree) → offset_of t.And next ≡ Some at → IsNeg u x → AreNegs w xs → AreNegs (next ∷ (u ++ w)) (x ∷ xs)
  more_negs next at u w x xs e h g = go next at (mark_seen t.And next at e)
    where
      go : (next : Token) (at : ℕ) → IsMark t.And (next ∷ []) at → AreNegs (next ∷ (u ++ w)) (x ∷ xs)
      go next at (mark _) = AreNegs.negs at h g

  -- the rest of a conjunction
  pub data IsAll (first : CondTree) : Tokens → CondTree → Type 0 where
    all_rest : {w : Tokens} {xs : List CondTree} → AreNegs w xs → IsAll first w (all_of first xs)

  pub conjunction_runs : (first : CondTree) → Runs depth (r.conjunction neg first) (IsAll first)
  unfolding r.conjunction
  conjunction_runs first =
      map_run depth (tails (offset_of t.And) (λ _. r.truth neg)) (all_of first) AreNegs (IsAll first) (λ u x h. all_rest h)
      (tails_runs depth (offset_of t.And) (λ _. r.truth neg) (λ _. IsNeg) AreNegs (λ _. neg_truth_runs) AreNegs.no_neg more_negs)

  conj_join : (u w : Tokens) (x y : CondTree) → IsNeg u x → IsAll x w y → IsConj (u ++ w) y
  conj_join u w x y h (all_rest g) = IsConj.all h g

  pub conj_runs : Runs depth (r.conj neg) IsConj
  unfolding r.conj
  conj_runs = bind_run depth (r.truth neg) (r.conjunction neg) IsNeg IsAll IsConj conj_join (λ x. ([], x, all_rest AreNegs.no_neg)) neg_truth_runs conjunction_runs

  more_conjs : (next : Token) (at : ℕ) (u w : Tokens) (x : CondTree) (xs : List CondTree) → offset_of t.Or next ≡ Some at → IsConj u x → AreConjs w xs → AreConjs (next ∷ (u ++ w)) (x ∷ xs)
  more_conjs next at u w x xs e h g = go next at (mark_seen t.Or next at e)
    where
      go : (next : Token) (at : ℕ) → IsMark t.Or (next ∷ []) at → AreConjs (next ∷ (u ++ w)) (x ∷ xs)
      go next at (mark _) = AreConjs.conjs at h g

  -- the rest of a disjunction
  pub data IsAny (first : CondTree) : Tokens → CondTree → Type 0 where
    any_rest : {w : Tokens} {xs : List CondTree} → AreConjs w xs → IsAny first w (any_of first xs)

  pub disjunction_runs : (first : CondTree) → Runs depth (r.disjunction neg first) (IsAny first)
  unfolding r.disjunction
  disjunction_runs first =
      map_run depth (tails (offset_of t.Or) (λ _. r.conj neg)) (any_of first) AreConjs (IsAny first) (λ u x h. any_rest h)
      (tails_runs depth (offset_of t.Or) (λ _. r.conj neg) (λ _. IsConj) AreConjs (λ _. conj_runs) AreConjs.no_conj more_conjs)

  abbrev AfterNeg : Found → Lang Found
  AfterNeg = Then (IsFound IsNeg) (IsFound IsCond)

  cond_end : (x y z : CondTree) (u v w : Tokens) → IsFound IsNeg u (f.Truth x) → IsAll x v y → IsAny y w z → IsFound IsCond (u ++ (v ++ w)) (f.Truth z)
  cond_end x y z u v w (truth h) (all_rest {xs = xs} g) (any_rest {xs = ys} k) =
      subst (λ (l : Tokens). IsFound IsCond l (f.Truth (any_of (all_of x xs) ys))) (append_assoc u v w) (truth (IsCond.any (IsConj.all h g) k))

  value_same : (x : ExprTree) (u : Tokens) → IsFound IsNeg u (f.Value x) → IsFound IsCond (u ++ []) (f.Value x)
  value_same x u (value h) = same_end (IsFound IsCond) u (f.Value x) (value h)

  after_neg_runs : (x : Found) → Runs depth (r.after_neg neg x) (AfterNeg x)
  unfolding r.after_neg
  after_neg_runs (f.Truth x) =
      then_run depth (r.conjunction neg x) (λ y. r.disjunction neg y >>= λ z. pure (f.Truth z)) (IsAll x) (AfterNeg (f.Truth x))
      (λ y. ([], f.Truth y, λ v g u h. cond_end x y y u v [] h g (any_rest AreConjs.no_conj))) (conjunction_runs x)
      (λ y. map_run depth (r.disjunction neg y) (λ z. f.Truth z) (IsAny y) (Then (IsAll x) (AfterNeg (f.Truth x)) y) (λ w z k v g u h. cond_end x y z u v w h g k) (disjunction_runs y))
  after_neg_runs (f.Value x) = pure_run depth (f.Value x) (AfterNeg (f.Value x)) (value_same x)

  after_neg_goes : (x : Found) → Goes (AfterNeg x)
  after_neg_goes (f.Truth x) = ([], f.Truth x, λ u h. cond_end x x x u [] [] h (all_rest AreNegs.no_neg) (any_rest AreConjs.no_conj))
  after_neg_goes (f.Value x) = ([], f.Value x, value_same x)

  pub cond_over_runs : Runs depth (r.cond_over neg) (IsFound IsCond)
  unfolding r.cond_over
  cond_over_runs = then_run depth neg (r.after_neg neg) (IsFound IsNeg) (IsFound IsCond) after_neg_goes runs after_neg_runs

not_before : (at : ℕ) (u : Tokens) (x : CondTree) → IsNeg u x → (next : Token) → IsMark t.Not (next ∷ []) at → IsFound IsNeg (next ∷ u) (f.Truth (c.Not at x))
not_before at u x h next (mark _) = truth (IsNeg.negation at h)

test_is_neg : (u : Tokens) (x : Found) → IsFound IsTest u x → IsFound IsNeg u x
test_is_neg u x (value h) = value h
test_is_neg u x (truth h) = truth (IsNeg.test h)

pub neg_runs : (depth : ℕ) → Runs depth (r.neg_at depth) (IsFound IsNeg)
unfolding r.neg_at
neg_runs zero = deep_run (IsFound IsNeg)
neg_runs (suc depth) =
    seen_run (suc depth) depth (offset_of t.Not) (λ at. r.truth (r.neg_at depth) >>= λ x. pure (f.Truth (c.Not at x))) (r.one_test (r.cond_over (r.neg_at depth)) (r.factor_at (suc depth) aggregates.Refused))
    (IsFound IsNeg) (omega arith)
    (λ at. map_run depth (r.truth (r.neg_at depth)) (λ x. f.Truth (c.Not at x)) IsNeg (Seen (offset_of t.Not) (IsFound IsNeg) at)
    (λ u x h next e. not_before at u x h next (mark_seen t.Not next at e)) (neg_truth_runs depth (r.neg_at depth) (neg_runs depth)))
    (wider_run (suc depth) (suc depth) (r.one_test (r.cond_over (r.neg_at depth)) (r.factor_at (suc depth) aggregates.Refused)) (IsFound IsTest) (IsFound IsNeg) (omega arith) test_is_neg
    (test_runs depth (r.cond_over (r.neg_at depth)) (cond_over_runs depth (r.neg_at depth) (neg_runs depth)) (r.factor_at (suc depth) aggregates.Refused) (factor_runs (suc depth) aggregates.Refused)))

test_is_cond : (u : Tokens) (x : CondTree) → IsTest u x → IsCond u x
test_is_cond u x h = subst (λ (l : Tokens). IsCond l x) (append-nil u) (IsCond.any conj AreConjs.no_conj)
  where
    conj : IsConj u x
    conj = subst (λ (l : Tokens). IsConj l x) (append-nil u) (IsConj.all (IsNeg.test h) AreNegs.no_neg)

pub cond_runs : (depth : ℕ) → Runs depth (r.cond depth) IsCond
unfolding r.cond
cond_runs depth = truth_runs depth IsCond (r.cond_over (r.neg_at depth)) (cond_over_runs depth (r.neg_at depth) (neg_runs depth)) test_is_cond
