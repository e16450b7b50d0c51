-- What the text of a condition spells: as a whole, as a member of OR, and as a member of AND or behind NOT.
use Rattle.std.proofs.Common.{◌≡◌, ℕ, ◌+◌, List, [], ◌∷◌, ◌++◌, length, codes, refl, sym, subst, append_assoc}
use Rattle.std.specs.List.{flat_map}
use Rattle.std.proofs.lemmas.List.{append-nil}
use Rattle.om_token.specs.declared.terminal.Terminal.{Terminal}
use Rattle.om_token.specs.declared.terminal.Terminal.TheVariants as t
use Rattle.om_grammar.specs.declared.expr_tree.ExprTree.{ExprTree}
use Rattle.om_grammar.specs.declared.cond_tree.CondTree.{CondTree}
use Rattle.om_grammar.specs.declared.cond_tree.CondTree.TheVariants as b
use Rattle.om_grammar.specs.declared.cond_tree.CondTree.TheViews as c
use Rattle.om_grammar.specs.declared.cond_tree.Predicate.{Predicate}
use Rattle.om_grammar.specs.declared.cond_tree.Predicate.TheVariants as p
use Rattle.om_grammar.specs.declared.cond_tree.Polarity.{Polarity}
use Rattle.om_grammar.specs.declared.cond_tree.Polarity.TheVariants as polarity
use Rattle.om_grammar.specs.declared.cond_tree.CompareOp.{CompareOp}
use Rattle.om_grammar.specs.declared.cond_tree.CompareOp.TheVariants as o
use Rattle.om_grammar.specs.Grammar.{Tokens, terminal, in_parens, AreListed, IsOperator, IsPolarity, IsValue, IsPredicate, all_of, any_of, IsCond, AreConjs, IsConj, AreNegs, IsNeg, IsTest}
use Rattle.om_grammar.specs.Words.{word, spaced, operator_word, in_brackets, list_text, expr_text, negatable_text, range_text, predicate_text, CondTexts, cond_texts}
use Rattle.om_grammar.specs.Sameness.{SameList, SameExpr, SamePredicate, SameCond, SameConds}
use Rattle.om_grammar.proofs.WordLemmas.{texts-Predicate, texts-Not, and_text, or_text, all_text_is, any_text_is, texts-All, texts-Any}
use Rattle.om_grammar.proofs.Cuts.{Cuts, both, nothing, word_cut, word_space, space_cut, spaced_cut, brackets_cut, Ends, space, close, ends_word}
use Rattle.om_grammar.proofs.Written.{AllWritten, written_front, written_back}
use Rattle.om_grammar.proofs.Spelled.{SpelledAnywhere, wider, list_spelled}
use Rattle.om_grammar.proofs.SpelledExpressions.{expr_spelled, written_inside}

-- ---- predicates

the_operator : (op : CompareOp) → IsOperator (operator_word op) op
the_operator o.Equal = IsOperator.equal
the_operator o.NotEqual = IsOperator.not_equal
the_operator o.Less = IsOperator.less
the_operator o.LessOrEqual = IsOperator.less_or_equal
the_operator o.Greater = IsOperator.greater
the_operator o.GreaterOrEqual = IsOperator.greater_or_equal

abbrev SpelledValue : ExprTree → Type 0
SpelledValue x = SpelledAnywhere IsValue SameExpr (expr_text x) x

value_spelled : (u : Tokens) (x : ExprTree) → IsValue u x → AllWritten u → SpelledValue x
value_spelled u x h w = (expr_spelled h w).whole

abbrev pub SpelledPredicate : Predicate → Type 0
SpelledPredicate x = SpelledAnywhere IsPredicate SamePredicate (predicate_text x) x

comparison_spelled : (old_at : ℕ) (op : CompareOp) (left right : ExprTree) → SpelledValue left → SpelledValue right → SpelledPredicate (p.Compare old_at op left right)
unfolding predicate_text
comparison_spelled old_at op left right h g at following ends =
    let s = h at (spaced (operator_word op) ++ expr_text right ++ following) space in
    let here : ℕ = at + length (expr_text left) in
    let r = g (here + length (spaced (operator_word op))) following ends in
    record {
      tokens = s.tokens ++ terminal (here + 1) (operator_word op) ∷ r.tokens;
      tree = p.Compare (here + 1) op s.tree r.tree;
      cut = both s.cut (both (spaced_cut (operator_word op) here _) r.cut);
      is_tree = IsPredicate.comparison (here + 1) s.is_tree (the_operator op) r.is_tree;
      same = SamePredicate.comparison old_at (here + 1) s.same r.same;
    }

-- the tokens of a word behind an expression, with NOT before it where the predicate is negated
record SpelledWord (polarity : Polarity) (which : Terminal) (at : ℕ) (following : List ℕ) : Type 0 where
  nots : Tokens
  place : ℕ
  cut : Cuts at (negatable_text polarity which) (nots ++ terminal place which ∷ []) following
  is : IsPolarity nots polarity

word_spelled : (polarity : Polarity) (which : Terminal) (at : ℕ) (following : List ℕ) → SpelledWord polarity which at following
word_spelled polarity.Plain which at following = record { nots = []; place = at + 1; cut = spaced_cut which at following; is = IsPolarity.plain }
word_spelled polarity.Negated which at following =
    record {
      nots = terminal (at + 1) t.Not ∷ [];
      place = at + 1 + 3 + 1;
      cut = both (space_cut at (word t.Not ++ spaced which ++ following)) (both (word_cut t.Not (at + 1) (spaced which ++ following) refl) (spaced_cut which (at + 1 + 3) following));
      is = IsPolarity.negated (at + 1);
    }

word_ends : (polarity : Polarity) (which : Terminal) (rest following : List ℕ) → Ends (negatable_text polarity which ++ rest ++ following)
word_ends polarity.Plain which rest following = space
word_ends polarity.Negated which rest following = space

behind_word : {polarity : Polarity} {which : Terminal} {at : ℕ} {rest : List ℕ} {tokens : Tokens} {following : List ℕ} (s : SpelledWord polarity which at (rest ++ following))
    → Cuts (at + length (negatable_text polarity which)) rest tokens following → Cuts at (negatable_text polarity which ++ rest) (s.nots ++ terminal s.place which ∷ tokens) following
behind_word {polarity} {which} {at} {rest} {tokens} {following} s h =
    subst (λ (l : Tokens). Cuts at (negatable_text polarity which ++ rest) l following) (append_assoc s.nots (terminal s.place which ∷ []) tokens) (both s.cut h)

between_spelled : (old_at : ℕ) (polarity : Polarity) (what low high : ExprTree) → SpelledValue what → SpelledValue low → SpelledValue high
    → SpelledPredicate (p.Between old_at polarity what low high)
unfolding predicate_text
between_spelled old_at polarity what low high h f g at following ends =
    let s = h at (negatable_text polarity t.Between ++ range_text low high ++ following) (word_ends polarity t.Between (range_text low high) following) in
    let here : ℕ = at + length (expr_text what) in
    let w = word_spelled polarity t.Between here (range_text low high ++ following) in
    let start : ℕ = here + length (negatable_text polarity t.Between) in
    let l = f start (spaced t.And ++ expr_text high ++ following) space in
    let mid : ℕ = start + length (expr_text low) in
    let r = g (mid + length (spaced t.And)) following ends in
    record {
      tokens = s.tokens ++ (w.nots ++ terminal w.place t.Between ∷ (l.tokens ++ terminal (mid + 1) t.And ∷ r.tokens));
      tree = p.Between w.place polarity s.tree l.tree r.tree;
      cut = both s.cut (behind_word w (both l.cut (both (spaced_cut t.And mid (expr_text high ++ following)) r.cut)));
      is_tree = IsPredicate.between w.place (mid + 1) s.is_tree w.is l.is_tree r.is_tree;
      same = SamePredicate.between old_at w.place s.same l.same r.same;
    }

-- members between parentheses
abbrev SpelledList : List ExprTree → Type 0
SpelledList list = SpelledAnywhere (AreListed t.Comma IsValue) (SameList SameExpr) (list_text expr_text list) list

within_spelled : (old_at : ℕ) (polarity : Polarity) (what : ExprTree) (list : List ExprTree) → SpelledValue what → SpelledList list
    → SpelledPredicate (p.In old_at polarity what list)
unfolding predicate_text
within_spelled old_at polarity what list h f at following ends =
    let inside : List ℕ = list_text expr_text list in
    let s = h at (negatable_text polarity t.In ++ in_brackets inside ++ following) (word_ends polarity t.In (in_brackets inside) following) in
    let here : ℕ = at + length (expr_text what) in
    let w = word_spelled polarity t.In here (in_brackets inside ++ following) in
    let start : ℕ = here + length (negatable_text polarity t.In) in
    let l = f (start + 1) (41 ∷ following) close in
    record {
      tokens = s.tokens ++ (w.nots ++ terminal w.place t.In ∷ in_parens start (start + 1 + length inside) l.tokens);
      tree = p.In w.place polarity s.tree l.tree;
      cut = both s.cut (behind_word w (brackets_cut start following l.cut));
      is_tree = IsPredicate.within w.place start (start + 1 + length inside) s.is_tree w.is l.is_tree;
      same = SamePredicate.within old_at w.place s.same l.same;
    }

is_null_cut : (at : ℕ) (following : List ℕ) → Ends following → Cuts at (codes " IS NULL") (terminal (at + 1) t.Is ∷ terminal (at + 4) t.Null ∷ []) following
is_null_cut at following ends = both (spaced_cut t.Is at (codes "NULL" ++ following)) (word_cut t.Null (at + 4) following (ends_word ends))

is_not_null_cut : (at : ℕ) (following : List ℕ) → Ends following
    → Cuts at (codes " IS NOT NULL") (terminal (at + 1) t.Is ∷ terminal (at + 4) t.Not ∷ terminal (at + 4 + 4) t.Null ∷ []) following
is_not_null_cut at following ends =
    both (spaced_cut t.Is at (codes "NOT NULL" ++ following)) (both (word_space t.Not (at + 4) (codes "NULL" ++ following)) (word_cut t.Null (at + 4 + 4) following (ends_word ends)))

is_null_spelled : (old_at : ℕ) (polarity : Polarity) (what : ExprTree) → SpelledValue what → SpelledPredicate (p.IsNull old_at polarity what)
unfolding predicate_text
is_null_spelled old_at polarity.Plain what h at following ends =
    let s = h at (codes " IS NULL" ++ following) space in
    let here : ℕ = at + length (expr_text what) in
    record {
      tokens = s.tokens ++ terminal (here + 1) t.Is ∷ terminal (here + 4) t.Null ∷ [];
      tree = p.IsNull (here + 1) polarity.Plain s.tree;
      cut = both s.cut (is_null_cut here following ends);
      is_tree = IsPredicate.is_null (here + 1) (here + 4) s.is_tree IsPolarity.plain;
      same = SamePredicate.is_null old_at (here + 1) s.same;
    }
is_null_spelled old_at polarity.Negated what h at following ends =
    let s = h at (codes " IS NOT NULL" ++ following) space in
    let here : ℕ = at + length (expr_text what) in
    record {
      tokens = s.tokens ++ terminal (here + 1) t.Is ∷ terminal (here + 4) t.Not ∷ terminal (here + 4 + 4) t.Null ∷ [];
      tree = p.IsNull (here + 1) polarity.Negated s.tree;
      cut = both s.cut (is_not_null_cut here following ends);
      is_tree = IsPredicate.is_null (here + 1) (here + 4 + 4) s.is_tree (IsPolarity.negated (here + 4));
      same = SamePredicate.is_null old_at (here + 1) s.same;
    }

predicate_spelled : {u : Tokens} {x : Predicate} → IsPredicate u x → AllWritten u → SpelledPredicate x
predicate_spelled (IsPredicate.comparison {u = u} {op = op} {left = left} {right = right} at h s g) w =
    comparison_spelled at op left right (value_spelled _ left h (written_front u _ w)) (value_spelled _ right g (written_back u _ w).1)
predicate_spelled (IsPredicate.between {u = u} {n = n} {v = v} {polarity = polarity} {what = what} {low = low} {high = high} at and_at h s f g) w =
    let range = (written_back n _ (written_back u _ w)).1 in
    between_spelled at polarity what low high (value_spelled _ what h (written_front u _ w)) (value_spelled _ low f (written_front v _ range)) (value_spelled _ high g (written_back v _ range).1)
predicate_spelled (IsPredicate.within {u = u} {n = n} {w = v} {polarity = polarity} {what = what} {list = list} at open_at close_at h s f) w =
    let members = (written_back n _ (written_back u _ w)).1 in
    within_spelled at polarity what list (value_spelled _ what h (written_front u _ w))
    (list_spelled IsValue SameExpr expr_text value_spelled f (written_inside open_at close_at v members))
predicate_spelled (IsPredicate.is_null {u = u} {polarity = polarity} {what = what} at null_at h s) w = is_null_spelled at polarity what (value_spelled _ what h (written_front u _ w))

-- ---- from one level of the grammar to a wider one

test_as_neg : (u : Tokens) (x : CondTree) → IsTest u x → IsNeg u x
test_as_neg u x h = IsNeg.test h

neg_as_conj : (u : Tokens) (x : CondTree) → IsNeg u x → IsConj u x
neg_as_conj u x h = subst (λ (l : Tokens). IsConj l x) (append-nil u) (IsConj.all h AreNegs.no_neg)

conj_as_cond : (u : Tokens) (x : CondTree) → IsConj u x → IsCond u x
conj_as_cond u x h = subst (λ (l : Tokens). IsCond l x) (append-nil u) (IsCond.any h AreConjs.no_conj)

-- ---- a condition as a whole, as a member of OR, and as a member of AND

-- what the three texts of a condition spell
pub record SpelledTexts (texts : CondTexts) (x : CondTree) : Type 0 where
  pub whole : SpelledAnywhere IsCond SameCond texts.whole x
  pub conj : SpelledAnywhere IsConj SameCond texts.conj x
  pub neg : SpelledAnywhere IsNeg SameCond texts.neg x

abbrev pub SpelledCond : CondTree → Type 0
SpelledCond x = SpelledTexts (cond_texts x) x

bracketed : {text : List ℕ} {x : CondTree} → SpelledAnywhere IsCond SameCond text x → SpelledAnywhere IsNeg SameCond (in_brackets text) x
bracketed {text} h at following ends =
    let s = h (at + 1) (41 ∷ following) close in
    record {
      tokens = in_parens at (at + 1 + length text) s.tokens;
      tree = s.tree;
      cut = brackets_cut at following s.cut;
      is_tree = IsNeg.test (IsTest.nested at (at + 1 + length text) s.is_tree);
      same = s.same;
    }

neg_spelled : {text : List ℕ} {x : CondTree} → cond_texts x ≡ record { whole = text; conj = text; neg = text } → SpelledAnywhere IsNeg SameCond text x → SpelledCond x
neg_spelled {text} {x} is h =
    let conj : SpelledAnywhere IsConj SameCond text x = wider neg_as_conj h in
    subst (λ (texts : CondTexts). SpelledTexts texts x) (sym is) (record { whole = wider conj_as_cond conj; conj = conj; neg = h })

conj_spelled : {text : List ℕ} {x : CondTree} → cond_texts x ≡ record { whole = text; conj = text; neg = in_brackets text } → SpelledAnywhere IsConj SameCond text x → SpelledCond x
conj_spelled {text} {x} is h =
    let whole : SpelledAnywhere IsCond SameCond text x = wider conj_as_cond h in
    subst (λ (texts : CondTexts). SpelledTexts texts x) (sym is) (record { whole = whole; conj = h; neg = bracketed whole })

whole_spelled : {text : List ℕ} {x : CondTree} → cond_texts x ≡ record { whole = text; conj = in_brackets text; neg = in_brackets text } → SpelledAnywhere IsCond SameCond text x → SpelledCond x
whole_spelled {text} {x} is h =
    let neg : SpelledAnywhere IsNeg SameCond (in_brackets text) x = bracketed h in
    subst (λ (texts : CondTexts). SpelledTexts texts x) (sym is) (record { whole = h; conj = wider neg_as_conj neg; neg = neg })

-- ---- members of AND and OR

abbrev SpelledNegs : List CondTree → Type 0
SpelledNegs xs = SpelledAnywhere AreNegs SameConds (flat_map and_text xs) xs

abbrev SpelledConjs : List CondTree → Type 0
SpelledConjs xs = SpelledAnywhere AreConjs SameConds (flat_map or_text xs) xs

negs_end : (xs : List CondTree) (following : List ℕ) → Ends following → Ends (flat_map and_text xs ++ following)
negs_end [] following ends = ends
negs_end (x ∷ xs) following ends = space

conjs_end : (xs : List CondTree) (following : List ℕ) → Ends following → Ends (flat_map or_text xs ++ following)
conjs_end [] following ends = ends
conjs_end (x ∷ xs) following ends = space

no_neg_spelled : SpelledNegs []
no_neg_spelled at following ends = record { tokens = []; tree = []; cut = nothing; is_tree = AreNegs.no_neg; same = SameConds.no_cond }

no_conj_spelled : SpelledConjs []
no_conj_spelled at following ends = record { tokens = []; tree = []; cut = nothing; is_tree = AreConjs.no_conj; same = SameConds.no_cond }

negs_spelled : (x : CondTree) (xs : List CondTree) → SpelledCond x → SpelledNegs xs → SpelledNegs (x ∷ xs)
negs_spelled x xs h f at following ends =
    let text : List ℕ = (cond_texts x).neg in
    let more : List ℕ = flat_map and_text xs in
    let first = h.neg (at + length (spaced t.And)) (more ++ following) (negs_end xs following ends) in
    let rest = f (at + length (spaced t.And ++ text)) following ends in
    record {
      tokens = terminal (at + 1) t.And ∷ (first.tokens ++ rest.tokens);
      tree = first.tree ∷ rest.tree;
      cut = both (both (spaced_cut t.And at (text ++ (more ++ following))) first.cut) rest.cut;
      is_tree = AreNegs.negs (at + 1) first.is_tree rest.is_tree;
      same = SameConds.conds first.same rest.same;
    }

conjs_spelled : (x : CondTree) (xs : List CondTree) → SpelledCond x → SpelledConjs xs → SpelledConjs (x ∷ xs)
conjs_spelled x xs h f at following ends =
    let text : List ℕ = (cond_texts x).conj in
    let more : List ℕ = flat_map or_text xs in
    let first = h.conj (at + length (spaced t.Or)) (more ++ following) (conjs_end xs following ends) in
    let rest = f (at + length (spaced t.Or ++ text)) following ends in
    record {
      tokens = terminal (at + 1) t.Or ∷ (first.tokens ++ rest.tokens);
      tree = first.tree ∷ rest.tree;
      cut = both (both (spaced_cut t.Or at (text ++ (more ++ following))) first.cut) rest.cut;
      is_tree = AreConjs.conjs (at + 1) first.is_tree rest.is_tree;
      same = SameConds.conds first.same rest.same;
    }

same_all : {x y : CondTree} {xs ys : List CondTree} → SameCond x y → SameConds xs ys → SameCond (all_of x xs) (all_of y ys)
same_all h SameConds.no_cond = h
same_all h (SameConds.conds f g) = SameCond.all (SameConds.conds h (SameConds.conds f g))

same_any : {x y : CondTree} {xs ys : List CondTree} → SameCond x y → SameConds xs ys → SameCond (any_of x xs) (any_of y ys)
same_any h SameConds.no_cond = h
same_any h (SameConds.conds f g) = SameCond.any (SameConds.conds h (SameConds.conds f g))

all_spelled : (x : CondTree) (xs : List CondTree) → SpelledCond x → SpelledNegs xs → SpelledCond (all_of x xs)
all_spelled x [] h f = h
all_spelled x (y ∷ ys) h f =
    conj_spelled (texts-All (x ∷ y ∷ ys)) (subst (λ (text : List ℕ). SpelledAnywhere IsConj SameCond text (c.All (x ∷ y ∷ ys))) (sym (all_text_is x (y ∷ ys))) whole)
  where
    whole : SpelledAnywhere IsConj SameCond ((cond_texts x).neg ++ flat_map and_text (y ∷ ys)) (c.All (x ∷ y ∷ ys))
    whole at following ends =
        let first = h.neg at (flat_map and_text (y ∷ ys) ++ following) (negs_end (y ∷ ys) following ends) in
        let rest = f (at + length (cond_texts x).neg) following ends in
        record {
          tokens = first.tokens ++ rest.tokens;
          tree = all_of first.tree rest.tree;
          cut = both first.cut rest.cut;
          is_tree = IsConj.all first.is_tree rest.is_tree;
          same = same_all first.same rest.same;
        }

any_spelled : (x : CondTree) (xs : List CondTree) → SpelledCond x → SpelledConjs xs → SpelledCond (any_of x xs)
any_spelled x [] h f = h
any_spelled x (y ∷ ys) h f =
    whole_spelled (texts-Any (x ∷ y ∷ ys)) (subst (λ (text : List ℕ). SpelledAnywhere IsCond SameCond text (c.Any (x ∷ y ∷ ys))) (sym (any_text_is x (y ∷ ys))) whole)
  where
    whole : SpelledAnywhere IsCond SameCond ((cond_texts x).conj ++ flat_map or_text (y ∷ ys)) (c.Any (x ∷ y ∷ ys))
    whole at following ends =
        let first = h.conj at (flat_map or_text (y ∷ ys) ++ following) (conjs_end (y ∷ ys) following ends) in
        let rest = f (at + length (cond_texts x).conj) following ends in
        record {
          tokens = first.tokens ++ rest.tokens;
          tree = any_of first.tree rest.tree;
          cut = both first.cut rest.cut;
          is_tree = IsCond.any first.is_tree rest.is_tree;
          same = same_any first.same rest.same;
        }

-- ---- conditions

not_spelled : (old_at : ℕ) (x : CondTree) → SpelledCond x → SpelledCond (c.Not old_at x)
not_spelled old_at x h = neg_spelled (texts-Not old_at x) (λ at following ends.
    let s = h.neg (at + length (word t.Not) + 1) following ends in
    record {
      tokens = terminal at t.Not ∷ s.tokens;
      tree = c.Not at s.tree;
      cut = both (word_cut t.Not at (32 ∷ ((cond_texts x).neg ++ following)) refl) (both (space_cut (at + length (word t.Not)) ((cond_texts x).neg ++ following)) s.cut);
      is_tree = IsNeg.negation at s.is_tree;
      same = SameCond.negation old_at at s.same;
    })

asked_spelled : (x : Predicate) → SpelledPredicate x → SpelledCond (b.Predicate x)
asked_spelled x h = neg_spelled (texts-Predicate x) (λ at following ends.
    let s = h at following ends in
    record { tokens = s.tokens; tree = b.Predicate s.tree; cut = s.cut; is_tree = IsNeg.test (IsTest.predicate s.is_tree); same = SameCond.predicate s.same })

mutual
  pub cond_spelled : {u : Tokens} {x : CondTree} → IsCond u x → AllWritten u → SpelledCond x
  cond_spelled (IsCond.any {u = u} {w = v} {x = x} {xs = xs} h f) w = any_spelled x xs (conj_spells h (written_front u v w)) (conjs_spell f (written_back u v w))

  conjs_spell : {u : Tokens} {xs : List CondTree} → AreConjs u xs → AllWritten u → SpelledConjs xs
  conjs_spell AreConjs.no_conj w = no_conj_spelled
  conjs_spell (AreConjs.conjs {u = u} {w = v} {x = x} {xs = xs} at h f) w = conjs_spelled x xs (conj_spells h (written_front u v w.1)) (conjs_spell f (written_back u v w.1))

  conj_spells : {u : Tokens} {x : CondTree} → IsConj u x → AllWritten u → SpelledCond x
  conj_spells (IsConj.all {u = u} {w = v} {x = x} {xs = xs} h f) w = all_spelled x xs (neg_spells h (written_front u v w)) (negs_spell f (written_back u v w))

  negs_spell : {u : Tokens} {xs : List CondTree} → AreNegs u xs → AllWritten u → SpelledNegs xs
  negs_spell AreNegs.no_neg w = no_neg_spelled
  negs_spell (AreNegs.negs {u = u} {w = v} {x = x} {xs = xs} at h f) w = negs_spelled x xs (neg_spells h (written_front u v w.1)) (negs_spell f (written_back u v w.1))

  neg_spells : {u : Tokens} {x : CondTree} → IsNeg u x → AllWritten u → SpelledCond x
  neg_spells (IsNeg.test h) w = test_spells h w
  neg_spells (IsNeg.negation {x = x} at h) w = not_spelled at x (neg_spells h w.1)

  test_spells : {u : Tokens} {x : CondTree} → IsTest u x → AllWritten u → SpelledCond x
  test_spells (IsTest.nested {u = u} open_at close_at h) w = cond_spelled h (written_inside open_at close_at u w)
  test_spells (IsTest.predicate {x = x} h) w = asked_spelled x (predicate_spelled h w)
