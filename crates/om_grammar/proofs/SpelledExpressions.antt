-- What the text of an expression spells: as a whole, as a term of a sum, and as a factor of a product.
use Rattle.std.proofs.Common.{◌≡◌, ℕ, ◌+◌, List, [], ◌∷◌, ◌++◌, length, Option, codes, refl, sym, subst}
use Rattle.std.specs.List.{flat_map}
use Rattle.std.specs.Fmt.{decimal}
use Rattle.std.proofs.lemmas.List.{append-nil}
use Rattle.om_token.specs.declared.token.Kind.TheVariants as k
use Rattle.om_token.specs.declared.terminal.Terminal.TheVariants as t
use Rattle.om_token.specs.Terminals.{double_symbol}
use Rattle.om_token.specs.Quotes.{unquoted}
use Rattle.om_grammar.specs.declared.tree.Label.{Label}
use Rattle.om_grammar.specs.declared.tree.ColumnName.{ColumnName}
use Rattle.om_grammar.specs.declared.expr_tree.ExprTree.{ExprTree}
use Rattle.om_grammar.specs.declared.expr_tree.ExprTree.TheVariants as v
use Rattle.om_grammar.specs.declared.expr_tree.ExprTree.TheViews as e
use Rattle.om_grammar.specs.declared.expr_tree.Addend.{Addend}
use Rattle.om_grammar.specs.declared.expr_tree.Factor.{Factor}
use Rattle.om_grammar.specs.declared.expr_tree.Sign.{Sign}
use Rattle.om_grammar.specs.declared.expr_tree.Sign.TheVariants as sign
use Rattle.om_grammar.specs.declared.expr_tree.Scale.{Scale}
use Rattle.om_grammar.specs.declared.expr_tree.Scale.TheVariants as scale
use Rattle.om_grammar.specs.declared.expr_tree.Width.{Width}
use Rattle.om_grammar.specs.declared.expr_tree.Width.TheVariants as width
use Rattle.om_grammar.specs.declared.expr_tree.Function.{Function}
use Rattle.om_grammar.specs.declared.expr_tree.Function.TheVariants as function
use Rattle.om_grammar.specs.declared.aggregates.Aggregates.{Aggregates}
use Rattle.om_grammar.specs.declared.aggregates.Aggregates.TheVariants as aggregates
use Rattle.om_grammar.specs.Grammar.{Tokens, token, terminal, in_parens, IsColumn, IsQualifier, IsSign, IsScale, IsWidth, IsFunction, addend, factor, sum_of, product_of, IsExpr, AreAddends, IsTerm, AreFactors, IsFactor, IsPrimary}
use Rattle.om_grammar.specs.Words.{word, spaced, sign_word, scale_word, width_word, function_word, in_brackets, qualifier_text, ExprTexts, as_factor, as_term, as_sum, call_text, bounds_text, expr_texts, addend_text, factor_text}
use Rattle.om_grammar.specs.Sameness.{SameExpr, SameAddends, SameFactors}
use Rattle.om_grammar.proofs.WordLemmas.{texts-Numeral, texts-Text, texts-Null, texts-Column, texts-Sum, texts-Product, texts-Sign, texts-Signed, texts-Bits, texts-Memory, texts-CountRows, texts-Aggregate}
use Rattle.om_grammar.proofs.Cuts.{Cuts, both, nothing, MayFollow, word_cut, space_cut, spaced_cut, space_follows, brackets_cut, comma_cut, Ends, comma, space, close, ends_word}
use Rattle.om_grammar.proofs.Written.{IsWritten, AllWritten, written_front, written_back, numeral_cut, text_cut}
use Rattle.om_grammar.proofs.Spelled.{SpelledAnywhere, wider, qualifier_spelled, column_spelled, call_cut}

-- ---- from one level of the grammar to a wider one

pub primary_as_factor : (g : Aggregates) (u : Tokens) (x : ExprTree) → IsPrimary g u x → IsFactor g u x
primary_as_factor g u x h = IsFactor.primary h

pub factor_as_term : (g : Aggregates) (u : Tokens) (x : ExprTree) → IsFactor g u x → IsTerm g u x
factor_as_term g u x h = subst (λ (l : Tokens). IsTerm g l x) (append-nil u) (IsTerm.product h AreFactors.no_factor)

pub term_as_expr : (g : Aggregates) (u : Tokens) (x : ExprTree) → IsTerm g u x → IsExpr g u x
term_as_expr g u x h = subst (λ (l : Tokens). IsExpr g l x) (append-nil u) (IsExpr.sum h AreAddends.no_addend)

-- ---- an expression as a whole, as a term and as a factor

-- what the three texts of an expression spell
pub record SpelledTexts (g : Aggregates) (texts : ExprTexts) (x : ExprTree) : Type 0 where
  pub whole : SpelledAnywhere (IsExpr g) SameExpr texts.whole x
  pub term : SpelledAnywhere (IsTerm g) SameExpr texts.term x
  pub factor : SpelledAnywhere (IsFactor g) SameExpr texts.factor x

abbrev pub SpelledExpr : Aggregates → ExprTree → Type 0
SpelledExpr g x = SpelledTexts g (expr_texts x) x

bracketed : (g : Aggregates) {text : List ℕ} {x : ExprTree} → SpelledAnywhere (IsExpr g) SameExpr text x → SpelledAnywhere (IsFactor g) SameExpr (in_brackets text) x
bracketed g {text} h at following ends =
    let s = h (at + 1) (41 ∷ following) close in
    record {
      tokens = in_parens at (at + 1 + length text) s.tokens;
      tree = s.tree;
      cut = brackets_cut at following s.cut;
      is_tree = IsFactor.primary (IsPrimary.parens at (at + 1 + length text) s.is_tree);
      same = s.same;
    }

factor_spelled : (g : Aggregates) {text : List ℕ} {x : ExprTree} → expr_texts x ≡ as_factor text → SpelledAnywhere (IsFactor g) SameExpr text x → SpelledExpr g x
factor_spelled g {text} {x} is h =
    let term : SpelledAnywhere (IsTerm g) SameExpr text x = wider (factor_as_term g) h in
    subst (λ (texts : ExprTexts). SpelledTexts g texts x) (sym is) (record { whole = wider (term_as_expr g) term; term = term; factor = h })

primary_spelled : (g : Aggregates) {text : List ℕ} {x : ExprTree} → expr_texts x ≡ as_factor text → SpelledAnywhere (IsPrimary g) SameExpr text x → SpelledExpr g x
primary_spelled g is h = factor_spelled g is (wider (primary_as_factor g) h)

term_spelled : (g : Aggregates) {text : List ℕ} {x : ExprTree} → expr_texts x ≡ as_term text → SpelledAnywhere (IsTerm g) SameExpr text x → SpelledExpr g x
term_spelled g {text} {x} is h =
    let whole : SpelledAnywhere (IsExpr g) SameExpr text x = wider (term_as_expr g) h in
    subst (λ (texts : ExprTexts). SpelledTexts g texts x) (sym is) (record { whole = whole; term = h; factor = bracketed g whole })

sum_spelled : (g : Aggregates) {text : List ℕ} {x : ExprTree} → expr_texts x ≡ as_sum text → SpelledAnywhere (IsExpr g) SameExpr text x → SpelledExpr g x
sum_spelled g {text} {x} is h =
    let factor : SpelledAnywhere (IsFactor g) SameExpr (in_brackets text) x = bracketed g h in
    subst (λ (texts : ExprTexts). SpelledTexts g texts x) (sym is) (record { whole = h; term = wider (factor_as_term g) factor; factor = factor })

-- ---- sums and products

the_sign : (sign : Sign) → IsSign (sign_word sign) sign
the_sign sign.Plus = IsSign.plus
the_sign sign.Minus = IsSign.minus

the_scale : (scale : Scale) → IsScale (scale_word scale) scale
the_scale scale.Times = IsScale.times
the_scale scale.Divide = IsScale.divide

abbrev SpelledAddends : Aggregates → List Addend → Type 0
SpelledAddends g xs = SpelledAnywhere (AreAddends g) SameAddends (flat_map addend_text xs) xs

abbrev SpelledFactors : Aggregates → List Factor → Type 0
SpelledFactors g xs = SpelledAnywhere (AreFactors g) SameFactors (flat_map factor_text xs) xs

addends_end : (xs : List Addend) (following : List ℕ) → Ends following → Ends (flat_map addend_text xs ++ following)
addends_end [] following ends = ends
addends_end (x ∷ xs) following ends = space

factors_end : (xs : List Factor) (following : List ℕ) → Ends following → Ends (flat_map factor_text xs ++ following)
factors_end [] following ends = ends
factors_end (x ∷ xs) following ends = space

no_addend_spelled : (g : Aggregates) → SpelledAddends g []
no_addend_spelled g at following ends = record { tokens = []; tree = []; cut = nothing; is_tree = AreAddends.no_addend; same = SameAddends.no_addend }

no_factor_spelled : (g : Aggregates) → SpelledFactors g []
no_factor_spelled g at following ends = record { tokens = []; tree = []; cut = nothing; is_tree = AreFactors.no_factor; same = SameFactors.no_factor }

addends_spelled : (g : Aggregates) (old_at : ℕ) (sign : Sign) (x : ExprTree) (xs : List Addend) → SpelledExpr g x → SpelledAddends g xs → SpelledAddends g (addend old_at sign x ∷ xs)
addends_spelled g old_at sign x xs h f at following ends =
    let text : List ℕ = (expr_texts x).term in
    let more : List ℕ = flat_map addend_text xs in
    let first = h.term (at + length (spaced (sign_word sign))) (more ++ following) (addends_end xs following ends) in
    let rest = f (at + length (spaced (sign_word sign) ++ text)) following ends in
    record {
      tokens = terminal (at + 1) (sign_word sign) ∷ (first.tokens ++ rest.tokens);
      tree = addend (at + 1) sign first.tree ∷ rest.tree;
      cut = both (both (spaced_cut (sign_word sign) at (text ++ (more ++ following))) first.cut) rest.cut;
      is_tree = AreAddends.addends (at + 1) (the_sign sign) first.is_tree rest.is_tree;
      same = SameAddends.addends old_at (at + 1) first.same rest.same;
    }

factors_spelled : (g : Aggregates) (old_at : ℕ) (scale : Scale) (x : ExprTree) (xs : List Factor) → SpelledExpr g x → SpelledFactors g xs → SpelledFactors g (factor old_at scale x ∷ xs)
factors_spelled g old_at scale x xs h f at following ends =
    let text : List ℕ = (expr_texts x).factor in
    let more : List ℕ = flat_map factor_text xs in
    let first = h.factor (at + length (spaced (scale_word scale))) (more ++ following) (factors_end xs following ends) in
    let rest = f (at + length (spaced (scale_word scale) ++ text)) following ends in
    record {
      tokens = terminal (at + 1) (scale_word scale) ∷ (first.tokens ++ rest.tokens);
      tree = factor (at + 1) scale first.tree ∷ rest.tree;
      cut = both (both (spaced_cut (scale_word scale) at (text ++ (more ++ following))) first.cut) rest.cut;
      is_tree = AreFactors.factors (at + 1) (the_scale scale) first.is_tree rest.is_tree;
      same = SameFactors.factors old_at (at + 1) first.same rest.same;
    }

same_sum : {x y : ExprTree} {xs ys : List Addend} → SameExpr x y → SameAddends xs ys → SameExpr (sum_of x xs) (sum_of y ys)
same_sum h SameAddends.no_addend = h
same_sum h (SameAddends.addends m n f g) = SameExpr.sum h (SameAddends.addends m n f g)

same_product : {x y : ExprTree} {xs ys : List Factor} → SameExpr x y → SameFactors xs ys → SameExpr (product_of x xs) (product_of y ys)
same_product h SameFactors.no_factor = h
same_product h (SameFactors.factors m n f g) = SameExpr.product h (SameFactors.factors m n f g)

sums_spelled : (g : Aggregates) (x : ExprTree) (xs : List Addend) → SpelledExpr g x → SpelledAddends g xs → SpelledExpr g (sum_of x xs)
sums_spelled g x [] h f = h
sums_spelled g x (y ∷ ys) h f = sum_spelled g (texts-Sum x (y ∷ ys)) whole
  where
    whole : SpelledAnywhere (IsExpr g) SameExpr ((expr_texts x).term ++ flat_map addend_text (y ∷ ys)) (e.Sum x (y ∷ ys))
    whole at following ends =
        let first = h.term at (flat_map addend_text (y ∷ ys) ++ following) (addends_end (y ∷ ys) following ends) in
        let rest = f (at + length (expr_texts x).term) following ends in
        record {
          tokens = first.tokens ++ rest.tokens;
          tree = sum_of first.tree rest.tree;
          cut = both first.cut rest.cut;
          is_tree = IsExpr.sum first.is_tree rest.is_tree;
          same = same_sum first.same rest.same;
        }

products_spelled : (g : Aggregates) (x : ExprTree) (xs : List Factor) → SpelledExpr g x → SpelledFactors g xs → SpelledExpr g (product_of x xs)
products_spelled g x [] h f = h
products_spelled g x (y ∷ ys) h f = term_spelled g (texts-Product x (y ∷ ys)) whole
  where
    whole : SpelledAnywhere (IsTerm g) SameExpr ((expr_texts x).factor ++ flat_map factor_text (y ∷ ys)) (e.Product x (y ∷ ys))
    whole at following ends =
        let first = h.factor at (flat_map factor_text (y ∷ ys) ++ following) (factors_end (y ∷ ys) following ends) in
        let rest = f (at + length (expr_texts x).factor) following ends in
        record {
          tokens = first.tokens ++ rest.tokens;
          tree = product_of first.tree rest.tree;
          cut = both first.cut rest.cut;
          is_tree = IsTerm.product first.is_tree rest.is_tree;
          same = same_product first.same rest.same;
        }

-- ---- factors

sign_text : Sign → ExprTree → List ℕ
sign_text sign x = word (sign_word sign) ++ (32 ∷ (expr_texts x).factor)

signs_spelled : (g : Aggregates) (old_at : ℕ) (sign : Sign) (x : ExprTree) → SpelledExpr g x → SpelledExpr g (e.Sign old_at sign x)
signs_spelled g old_at sign x h = factor_spelled g (texts-Sign old_at sign x) signed
  where
    signed : SpelledAnywhere (IsFactor g) SameExpr (word (sign_word sign) ++ (32 ∷ (expr_texts x).factor)) (e.Sign old_at sign x)
    signed at following ends =
        let s = h.factor (at + length (word (sign_word sign)) + 1) following ends in
        record {
          tokens = terminal at (sign_word sign) ∷ s.tokens;
          tree = e.Sign at sign s.tree;
          cut = both (word_cut (sign_word sign) at _ (space_follows (sign_word sign) _)) (both (space_cut (at + length (word (sign_word sign))) _) s.cut);
          is_tree = IsFactor.with_sign at (the_sign sign) s.is_tree;
          same = SameExpr.sign old_at at s.same;
        }

-- ---- primaries of one token, and columns

numerals_spelled : (g : Aggregates) (old_at value : ℕ) → IsWritten (k.Numeral value) → SpelledExpr g (v.Numeral (record { at = old_at; value = value }))
numerals_spelled g old_at value w = primary_spelled g (texts-Numeral (record { at = old_at; value = value })) (λ at following ends.
    record {
      tokens = token at (k.Numeral value) ∷ [];
      tree = v.Numeral (record { at = at; value = value });
      cut = numeral_cut value at following w ends;
      is_tree = IsPrimary.numeral at;
      same = SameExpr.numeral refl;
    })

texts_spelled : (g : Aggregates) (old_at : ℕ) (inside : List ℕ) → IsWritten (k.Text inside) → SpelledExpr g (v.Text old_at (unquoted 39 inside))
texts_spelled g old_at inside w = primary_spelled g (texts-Text old_at (unquoted 39 inside)) (λ at following ends.
    record {
      tokens = token at (k.Text inside) ∷ [];
      tree = v.Text at (unquoted 39 inside);
      cut = text_cut inside at following w ends;
      is_tree = IsPrimary.text at;
      same = SameExpr.text old_at at;
    })

nulls_spelled : (g : Aggregates) (old_at : ℕ) → SpelledExpr g (v.Null old_at)
nulls_spelled g old_at = primary_spelled g (texts-Null old_at) (λ at following ends.
    record {
      tokens = terminal at t.Null ∷ [];
      tree = v.Null at;
      cut = word_cut t.Null at following (ends_word ends);
      is_tree = IsPrimary.null at;
      same = SameExpr.null old_at at;
    })

columns_spelled : (g : Aggregates) {u : Tokens} {column : ColumnName} → IsColumn u column → AllWritten u → SpelledExpr g (v.Column column)
columns_spelled g {u} {column} h w = primary_spelled g (texts-Column column) (λ at following ends.
    let s = column_spelled h w at following ends in
    record { tokens = s.tokens; tree = v.Column s.tree; cut = s.cut; is_tree = IsPrimary.column s.is_tree; same = SameExpr.column s.same })

-- ---- calls

signed_spelled : (g : Aggregates) (old_at : ℕ) (x : ExprTree) → SpelledExpr g x → SpelledExpr g (e.Signed old_at x)
signed_spelled g old_at x h = primary_spelled g (texts-Signed old_at x) (λ at following ends.
    let s = h.whole (at + length (word t.Signed) + 1) (41 ∷ following) close in
    record {
      tokens = terminal at t.Signed ∷ in_parens (at + length (word t.Signed)) (at + length (word t.Signed) + 1 + length (expr_texts x).whole) s.tokens;
      tree = e.Signed at s.tree;
      cut = call_cut t.Signed at following refl s.cut;
      is_tree = IsPrimary.signed at (at + length (word t.Signed)) (at + length (word t.Signed) + 1 + length (expr_texts x).whole) s.is_tree;
      same = SameExpr.signed old_at at s.same;
    })

-- the bounds of BITS, each behind a comma
bounds_cut : (high low at : ℕ) (following : List ℕ) → IsWritten (k.Numeral high) → IsWritten (k.Numeral low) → Ends following
    → Cuts at (bounds_text high low)
    (terminal at t.Comma ∷ token (at + 2) (k.Numeral high) ∷ terminal (at + 2 + length (decimal high)) t.Comma ∷ token (at + 2 + length (decimal high) + 2) (k.Numeral low) ∷ []) following
bounds_cut high low at following f g ends =
    both (comma_cut at _) (both (numeral_cut high (at + 2) _ f comma) (both (comma_cut (at + 2 + length (decimal high)) _) (numeral_cut low (at + 2 + length (decimal high) + 2) following g ends)))

bits_spelled : (g : Aggregates) (old_at high_at high low_at low : ℕ) (x : ExprTree) → IsWritten (k.Numeral high) → IsWritten (k.Numeral low) → SpelledExpr g x
    → SpelledExpr g (e.Bits old_at x (record { at = high_at; value = high }) (record { at = low_at; value = low }))
bits_spelled g old_at high_at high low_at low x f l h =
    primary_spelled g (texts-Bits old_at x (record { at = high_at; value = high }) (record { at = low_at; value = low })) (λ at following ends.
    let inside : ℕ = at + length (word t.Bits) + 1 in
    let s = h.whole inside (bounds_text high low ++ 41 ∷ following) comma in
    let behind : ℕ = inside + length (expr_texts x).whole in
    let low_place : ℕ = behind + 2 + length (decimal high) + 2 in
    let end : ℕ = inside + length ((expr_texts x).whole ++ bounds_text high low) in
    record {
      tokens = terminal at t.Bits ∷ in_parens (at + length (word t.Bits)) end
          (s.tokens ++ terminal behind t.Comma ∷ token (behind + 2) (k.Numeral high) ∷ terminal (behind + 2 + length (decimal high)) t.Comma ∷ token low_place (k.Numeral low) ∷ []);
      tree = e.Bits at s.tree (record { at = behind + 2; value = high }) (record { at = low_place; value = low });
      cut = call_cut t.Bits at following refl (both s.cut (bounds_cut high low behind (41 ∷ following) f l close));
      is_tree = IsPrimary.bits at (at + length (word t.Bits)) behind (behind + 2) (behind + 2 + length (decimal high)) low_place end s.is_tree;
      same = SameExpr.bits old_at at s.same refl refl;
    })

the_width : (width : Width) → IsWidth (width_word width) width
the_width width.Byte = IsWidth.byte
the_width width.Half = IsWidth.half
the_width width.Word = IsWidth.word

opens_width : (width : Width) (bytes : List ℕ) → MayFollow (width_word width) (40 ∷ bytes)
opens_width width.Byte bytes = refl
opens_width width.Half bytes = refl
opens_width width.Word bytes = refl

memory_spelled : (g : Aggregates) (old_at : ℕ) {u : Tokens} {qualifier : Option Label} (width : Width) (x : ExprTree) → IsQualifier u qualifier → AllWritten u → SpelledExpr g x
    → SpelledExpr g (e.Memory qualifier old_at width x)
memory_spelled g old_at {u} {qualifier} width x q w h = primary_spelled g (texts-Memory qualifier old_at width x) (λ at following ends.
    let text : List ℕ = call_text (width_word width) (expr_texts x).whole in
    let front = qualifier_spelled q w at (text ++ following) in
    let here : ℕ = at + length (qualifier_text qualifier) in
    let open_here : ℕ = here + length (word (width_word width)) in
    let s = h.whole (open_here + 1) (41 ∷ following) close in
    let end : ℕ = open_here + 1 + length (expr_texts x).whole in
    record {
      tokens = front.tokens ++ terminal here (width_word width) ∷ in_parens open_here end s.tokens;
      tree = e.Memory front.tree here width s.tree;
      cut = both front.cut (call_cut (width_word width) here following (opens_width width _) s.cut);
      is_tree = IsPrimary.memory here open_here end front.is_tree (the_width width) s.is_tree;
      same = SameExpr.memory old_at here front.same s.same;
    })

star_may_close : (bytes : List ℕ) → MayFollow t.Star (41 ∷ bytes)
unfolding double_symbol
star_may_close bytes = refl

rows_spelled : (old_at : ℕ) → SpelledExpr aggregates.Allowed (v.CountRows old_at)
rows_spelled old_at = primary_spelled aggregates.Allowed (texts-CountRows old_at) (λ at following ends.
    record {
      tokens = terminal at t.Count ∷ in_parens (at + 5) (at + 5 + 1 + 1) (terminal (at + 5 + 1) t.Star ∷ []);
      tree = v.CountRows at;
      cut = call_cut t.Count {text = codes "*"} at following refl (word_cut t.Star (at + 5 + 1) (41 ∷ following) (star_may_close following));
      is_tree = IsPrimary.rows at (at + 5) (at + 5 + 1) (at + 5 + 1 + 1);
      same = SameExpr.rows old_at at;
    })

the_function : (function : Function) → IsFunction (function_word function) function
the_function function.Count = IsFunction.count
the_function function.Min = IsFunction.least
the_function function.Max = IsFunction.greatest

opens_function : (function : Function) (bytes : List ℕ) → MayFollow (function_word function) (40 ∷ bytes)
opens_function function.Count bytes = refl
opens_function function.Min bytes = refl
opens_function function.Max bytes = refl

aggregate_spelled : (old_at : ℕ) (function : Function) (x : ExprTree) → SpelledExpr aggregates.Refused x → SpelledExpr aggregates.Allowed (e.Aggregate old_at function x)
aggregate_spelled old_at function x h = primary_spelled aggregates.Allowed (texts-Aggregate old_at function x) (λ at following ends.
    let open_here : ℕ = at + length (word (function_word function)) in
    let s = h.whole (open_here + 1) (41 ∷ following) close in
    let end : ℕ = open_here + 1 + length (expr_texts x).whole in
    record {
      tokens = terminal at (function_word function) ∷ in_parens open_here end s.tokens;
      tree = e.Aggregate at function s.tree;
      cut = call_cut (function_word function) at following (opens_function function _) s.cut;
      is_tree = IsPrimary.aggregate at open_here end (the_function function) s.is_tree;
      same = SameExpr.aggregate old_at at s.same;
    })

-- ---- expressions

-- what is written between parentheses
pub written_inside : (open_at close_at : ℕ) (u : Tokens) → AllWritten (in_parens open_at close_at u) → AllWritten u
written_inside open_at close_at u w = written_front u (terminal close_at t.RightParen ∷ []) w.1

mutual
  pub expr_spelled : {g : Aggregates} {u : Tokens} {x : ExprTree} → IsExpr g u x → AllWritten u → SpelledExpr g x
  expr_spelled (IsExpr.sum {g = g} {u = u} {w = v} {x = x} {xs = xs} h f) w =
      sums_spelled g x xs (term_spells h (written_front u v w)) (addends_spell f (written_back u v w))

  addends_spell : {g : Aggregates} {u : Tokens} {xs : List Addend} → AreAddends g u xs → AllWritten u → SpelledAddends g xs
  addends_spell (AreAddends.no_addend {g = g}) w = no_addend_spelled g
  addends_spell (AreAddends.addends {g = g} {u = u} {w = v} {sign = sign} {x = x} {xs = xs} at s h f) w =
      addends_spelled g at sign x xs (term_spells h (written_front u v w.1)) (addends_spell f (written_back u v w.1))

  term_spells : {g : Aggregates} {u : Tokens} {x : ExprTree} → IsTerm g u x → AllWritten u → SpelledExpr g x
  term_spells (IsTerm.product {g = g} {u = u} {w = v} {x = x} {xs = xs} h f) w =
      products_spelled g x xs (factor_spells h (written_front u v w)) (factors_spell f (written_back u v w))

  factors_spell : {g : Aggregates} {u : Tokens} {xs : List Factor} → AreFactors g u xs → AllWritten u → SpelledFactors g xs
  factors_spell (AreFactors.no_factor {g = g}) w = no_factor_spelled g
  factors_spell (AreFactors.factors {g = g} {u = u} {w = v} {scale = scale} {x = x} {xs = xs} at s h f) w =
      factors_spelled g at scale x xs (factor_spells h (written_front u v w.1)) (factors_spell f (written_back u v w.1))

  factor_spells : {g : Aggregates} {u : Tokens} {x : ExprTree} → IsFactor g u x → AllWritten u → SpelledExpr g x
  factor_spells (IsFactor.primary h) w = primary_spells h w
  factor_spells (IsFactor.with_sign {g = g} {sign = sign} {x = x} at s h) w = signs_spelled g at sign x (factor_spells h w.1)

  primary_spells : {g : Aggregates} {u : Tokens} {x : ExprTree} → IsPrimary g u x → AllWritten u → SpelledExpr g x
  primary_spells (IsPrimary.numeral {g = g} {value = value} at) w = numerals_spelled g at value w.0
  primary_spells (IsPrimary.text {g = g} {inside = inside} at) w = texts_spelled g at inside w.0
  primary_spells (IsPrimary.null {g = g} at) w = nulls_spelled g at
  primary_spells (IsPrimary.column {g = g} h) w = columns_spelled g h w
  primary_spells (IsPrimary.parens {g = g} {u = u} {x = x} open_at close_at h) w = expr_spelled h (written_inside open_at close_at u w)
  primary_spells (IsPrimary.signed {g = g} {u = u} {x = x} at open_at close_at h) w = signed_spelled g at x (expr_spelled h (written_inside open_at close_at u w.1))
  primary_spells (IsPrimary.bits {g = g} {u = u} {x = x} {high = high} {low = low} at open_at comma_at high_at other_at low_at close_at h) w =
      let inside = written_inside open_at close_at _ w.1 in
      let bounds = written_back u _ inside in
      bits_spelled g at high_at high low_at low x bounds.1.0 bounds.1.1.1.0 (expr_spelled h (written_front u _ inside))
  primary_spells (IsPrimary.memory {g = g} {q = q} {u = u} {width = width} {x = x} at open_at close_at f s h) w =
      let call = written_back q _ w in
      memory_spelled g at width x f (written_front q _ w) (expr_spelled h (written_inside open_at close_at u call.1))
  primary_spells (IsPrimary.rows at open_at star_at close_at) w = rows_spelled at
  primary_spells (IsPrimary.aggregate {u = u} {function = function} {x = x} at open_at close_at s h) w =
      aggregate_spelled at function x (expr_spelled h (written_inside open_at close_at u w.1))
