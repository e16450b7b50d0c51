-- What readers of one token see.
use Rattle.std.proofs.Common.{◌≡◌, ℕ, Bool, true, false, cond, List, [], ◌∷◌, Some, None, refl, sym, ap, subst, rules}
use denote.Enum.Bare.{same_true}
use Rattle.om_token.specs.contracts.terminal.Terminal.{the_type}
use Rattle.om_token.specs.declared.token.Kind.{Kind}
use Rattle.om_token.specs.declared.token.Kind.TheVariants as k
use Rattle.om_token.specs.declared.token.Token.{Token}
use Rattle.om_token.specs.declared.terminal.Terminal.{Terminal}
use Rattle.om_token.specs.declared.terminal.Terminal.TheVariants as t
use Rattle.om_token.specs.Terminals.{same}
use Rattle.om_token.specs.Quotes.{unquoted}
use Rattle.om_grammar.specs.declared.tree.Alias.{Alias}
use Rattle.om_grammar.specs.declared.tree.Label.{Label}
use Rattle.om_grammar.specs.declared.tree.Identifier.TheVariants as i
use Rattle.om_grammar.specs.declared.tree.Key.{Key}
use Rattle.om_grammar.specs.declared.tree.Key.TheVariants as keys
use Rattle.om_grammar.specs.declared.tree.Direction.{Direction}
use Rattle.om_grammar.specs.declared.tree.Direction.TheVariants as direction
use Rattle.om_grammar.specs.declared.expr_tree.Numeral.{Numeral}
use Rattle.om_grammar.specs.declared.expr_tree.Sign.{Sign}
use Rattle.om_grammar.specs.declared.expr_tree.Sign.TheVariants as signs
use Rattle.om_grammar.specs.declared.expr_tree.Scale.{Scale}
use Rattle.om_grammar.specs.declared.expr_tree.Scale.TheVariants as scales
use Rattle.om_grammar.specs.declared.cond_tree.CompareOp.{CompareOp}
use Rattle.om_grammar.specs.declared.cond_tree.CompareOp.TheVariants as o
use Rattle.om_grammar.specs.declared.lead.Word.{Word}
use Rattle.om_grammar.specs.declared.lead.Word.TheVariants as words
use Rattle.om_grammar.specs.declared.lead.Negatable.{Negatable}
use Rattle.om_grammar.specs.declared.lead.Negatable.TheVariants as negatables
use Rattle.om_grammar.specs.Grammar.{Tokens, token, terminal, IsIdentifier, IsSign, IsScale, IsOperator, IsKey}
use Rattle.om_grammar.specs.Parsers.{one}
use Rattle.om_grammar.specs.Reading.{is, offset_of, sign_in, sign_of, scale_in, scale_of, numeral_in, numeral_of, label_in, label_of, alias_in, alias_of, word_in, word_of, negatable_in, negatable_of, key_in, key_at, key_of, direction_in, direction_of, expect}
use Rattle.om_grammar.proofs.Runs.{Runs, one_run}

-- ---- reserved words and symbols

pub is_same : (which other : Terminal) → same which other ≡ true → which ≡ other
unfolding same
is_same which other h = same_true the_type (search rules) which other h

pub same_itself : (which : Terminal) → same which which ≡ true
unfolding same
same_itself which = denote.Enum.Bare.true_same the_type which which refl

is_terminal : (which : Terminal) (kind : Kind) → is which kind ≡ true → kind ≡ k.Terminal which
is_terminal which (k.Terminal other) h = ap k.Terminal (sym (is_same which other h))
is_terminal which _ h = absurd cc

-- a reserved word or a symbol, with its offset
pub data IsMark (which : Terminal) : Tokens → ℕ → Type 0 where
  mark : (at : ℕ) → IsMark which (terminal at which ∷ []) at

mark_in : (which : Terminal) (at : ℕ) (kind : Kind) (x : ℕ) (b : Bool) → is which kind ≡ b → cond b (Some at) None ≡ Some x → IsMark which (token at kind ∷ []) x
mark_in which at kind x true h f =
    let n : at ≡ x = cc in
    rw (is_terminal which kind h, ← n) (mark at)
mark_in which at kind x false h f = absurd cc

pub mark_seen : (which : Terminal) (next : Token) (x : ℕ) → offset_of which next ≡ Some x → IsMark which (next ∷ []) x
mark_seen which next x h = mark_in which next.at next.kind x (is which next.kind) refl h

pub offset_seen : (which : Terminal) (at : ℕ) → offset_of which (terminal at which) ≡ Some at
offset_seen which at = ap (λ (b : Bool). cond b (Some at) None) (same_itself which)

pub expect_runs : (depth : ℕ) (which : Terminal) → Runs depth (expect which) (IsMark which)
expect_runs depth which = one_run depth (offset_of which) (IsMark which) (λ next x h. mark_seen which next x h) (terminal 0 which, 0, offset_seen which 0)

-- ---- signs and operators

pub data IsSignMark : Tokens → ℕ × Sign → Type 0 where
  sign_mark : {which : Terminal} {sign : Sign} (at : ℕ) → IsSign which sign → IsSignMark (terminal at which ∷ []) (at, sign)

sign_mark_in : (at : ℕ) (kind : Kind) (x : ℕ × Sign) → sign_in at kind ≡ Some x → IsSignMark (token at kind ∷ []) x
sign_mark_in at (k.Terminal t.Plus) x h = let n : (at, signs.Plus) ≡ x = cc in subst (IsSignMark (terminal at t.Plus ∷ [])) n (sign_mark at IsSign.plus)
sign_mark_in at (k.Terminal t.Minus) x h = let n : (at, signs.Minus) ≡ x = cc in subst (IsSignMark (terminal at t.Minus ∷ [])) n (sign_mark at IsSign.minus)
sign_mark_in at _ x h = absurd cc

pub sign_seen : (next : Token) (x : ℕ × Sign) → sign_of next ≡ Some x → IsSignMark (next ∷ []) x
sign_seen next x h = sign_mark_in next.at next.kind x h

pub data IsScaleMark : Tokens → ℕ × Scale → Type 0 where
  scale_mark : {which : Terminal} {scale : Scale} (at : ℕ) → IsScale which scale → IsScaleMark (terminal at which ∷ []) (at, scale)

scale_mark_in : (at : ℕ) (kind : Kind) (x : ℕ × Scale) → scale_in at kind ≡ Some x → IsScaleMark (token at kind ∷ []) x
scale_mark_in at (k.Terminal t.Star) x h = let n : (at, scales.Times) ≡ x = cc in subst (IsScaleMark (terminal at t.Star ∷ [])) n (scale_mark at IsScale.times)
scale_mark_in at (k.Terminal t.Slash) x h = let n : (at, scales.Divide) ≡ x = cc in subst (IsScaleMark (terminal at t.Slash ∷ [])) n (scale_mark at IsScale.divide)
scale_mark_in at _ x h = absurd cc

pub scale_seen : (next : Token) (x : ℕ × Scale) → scale_of next ≡ Some x → IsScaleMark (next ∷ []) x
scale_seen next x h = scale_mark_in next.at next.kind x h

-- ---- numerals and names

pub data IsNumeral : Tokens → Numeral → Type 0 where
  is_numeral : (at value : ℕ) → IsNumeral (token at (k.Numeral value) ∷ []) (record { at = at; value = value })

numeral_fits : (at : ℕ) (kind : Kind) (x : Numeral) → numeral_in at kind ≡ Some x → IsNumeral (token at kind ∷ []) x
numeral_fits at (k.Numeral value) x h =
    let n : record { at = at; value = value } ≡ x = cc in
    subst (IsNumeral (token at (k.Numeral value) ∷ [])) n (is_numeral at value)
numeral_fits at _ x h = absurd cc

pub numeral_runs : (depth : ℕ) → Runs depth (one numeral_of) IsNumeral
numeral_runs depth = one_run depth numeral_of IsNumeral (λ next x h. numeral_fits next.at next.kind x h) (token 0 (k.Numeral 0), record { at = 0; value = 0 }, refl)

pub data IsRegular : Tokens → Label → Type 0 where
  is_regular : (at : ℕ) (name : List ℕ) → IsRegular (token at (k.Regular name) ∷ []) (record { at = at; name = name })

regular_fits : (at : ℕ) (kind : Kind) (x : Label) → label_in at kind ≡ Some x → IsRegular (token at kind ∷ []) x
regular_fits at (k.Regular name) x h =
    let n : record { at = at; name = name } ≡ x = cc in
    subst (IsRegular (token at (k.Regular name) ∷ [])) n (is_regular at name)
regular_fits at _ x h = absurd cc

pub regular_seen : (next : Token) (x : Label) → label_of next ≡ Some x → IsRegular (next ∷ []) x
regular_seen next x h = regular_fits next.at next.kind x h

pub label_runs : (depth : ℕ) → Runs depth (one label_of) IsRegular
label_runs depth = one_run depth label_of IsRegular regular_seen (token 0 (k.Regular []), record { at = 0; name = [] }, refl)

pub data IsNamed : Tokens → Alias → Type 0 where
  is_named : {kind : Kind} {name : Rattle.om_grammar.specs.declared.tree.Identifier.Identifier} (at : ℕ) → IsIdentifier kind name → IsNamed (token at kind ∷ []) (record { at = at; name = name })

named_fits : (at : ℕ) (kind : Kind) (x : Alias) → alias_in at kind ≡ Some x → IsNamed (token at kind ∷ []) x
named_fits at (k.Regular name) x h =
    let n : record { at = at; name = i.Regular name } ≡ x = cc in
    subst (IsNamed (token at (k.Regular name) ∷ [])) n (is_named at IsIdentifier.regular)
named_fits at (k.Delimited inside) x h =
    let n : record { at = at; name = i.Delimited (unquoted 34 inside) } ≡ x = cc in
    subst (IsNamed (token at (k.Delimited inside) ∷ [])) n (is_named at IsIdentifier.delimited)
named_fits at _ x h = absurd cc

pub named_seen : (next : Token) (x : Alias) → alias_of next ≡ Some x → IsNamed (next ∷ []) x
named_seen next x h = named_fits next.at next.kind x h

pub alias_runs : (depth : ℕ) → Runs depth (one alias_of) IsNamed
alias_runs depth = one_run depth alias_of IsNamed named_seen (token 0 (k.Regular []), record { at = 0; name = i.Regular [] }, refl)

-- ---- what follows an expression

pub data IsWord : Tokens → Word → Type 0 where
  compare : {which : Terminal} {op : CompareOp} (at : ℕ) → IsOperator which op → IsWord (terminal at which ∷ []) (words.Compare at op)
  «not» : (at : ℕ) → IsWord (terminal at t.Not ∷ []) words.Not
  between : (at : ℕ) → IsWord (terminal at t.Between ∷ []) (words.Between at)
  within : (at : ℕ) → IsWord (terminal at t.In ∷ []) (words.In at)
  is_word : (at : ℕ) → IsWord (terminal at t.Is ∷ []) (words.Is at)

word_fits : (at : ℕ) (kind : Kind) (x : Word) → word_in at kind ≡ Some x → IsWord (token at kind ∷ []) x
word_fits at (k.Terminal t.Equal) x h = let n : words.Compare at o.Equal ≡ x = cc in subst (IsWord (terminal at t.Equal ∷ [])) n (compare at IsOperator.equal)
word_fits at (k.Terminal t.NotEqual) x h = let n : words.Compare at o.NotEqual ≡ x = cc in subst (IsWord (terminal at t.NotEqual ∷ [])) n (compare at IsOperator.not_equal)
word_fits at (k.Terminal t.Less) x h = let n : words.Compare at o.Less ≡ x = cc in subst (IsWord (terminal at t.Less ∷ [])) n (compare at IsOperator.less)
word_fits at (k.Terminal t.LessOrEqual) x h = let n : words.Compare at o.LessOrEqual ≡ x = cc in subst (IsWord (terminal at t.LessOrEqual ∷ [])) n (compare at IsOperator.less_or_equal)
word_fits at (k.Terminal t.Greater) x h = let n : words.Compare at o.Greater ≡ x = cc in subst (IsWord (terminal at t.Greater ∷ [])) n (compare at IsOperator.greater)
word_fits at (k.Terminal t.GreaterOrEqual) x h = let n : words.Compare at o.GreaterOrEqual ≡ x = cc in subst (IsWord (terminal at t.GreaterOrEqual ∷ [])) n (compare at IsOperator.greater_or_equal)
word_fits at (k.Terminal t.Not) x h = let n : words.Not ≡ x = cc in subst (IsWord (terminal at t.Not ∷ [])) n («not» at)
word_fits at (k.Terminal t.Between) x h = let n : words.Between at ≡ x = cc in subst (IsWord (terminal at t.Between ∷ [])) n (between at)
word_fits at (k.Terminal t.In) x h = let n : words.In at ≡ x = cc in subst (IsWord (terminal at t.In ∷ [])) n (within at)
word_fits at (k.Terminal t.Is) x h = let n : words.Is at ≡ x = cc in subst (IsWord (terminal at t.Is ∷ [])) n (is_word at)
word_fits at _ x h = absurd cc

pub word_seen : (next : Token) (x : Word) → word_of next ≡ Some x → IsWord (next ∷ []) x
word_seen next x h = word_fits next.at next.kind x h

pub data IsNegatable : Tokens → Negatable → Type 0 where
  between : (at : ℕ) → IsNegatable (terminal at t.Between ∷ []) (negatables.Between at)
  within : (at : ℕ) → IsNegatable (terminal at t.In ∷ []) (negatables.In at)

negatable_fits : (at : ℕ) (kind : Kind) (x : Negatable) → negatable_in at kind ≡ Some x → IsNegatable (token at kind ∷ []) x
negatable_fits at (k.Terminal t.Between) x h = let n : negatables.Between at ≡ x = cc in subst (IsNegatable (terminal at t.Between ∷ [])) n (IsNegatable.between at)
negatable_fits at (k.Terminal t.In) x h = let n : negatables.In at ≡ x = cc in subst (IsNegatable (terminal at t.In ∷ [])) n (IsNegatable.within at)
negatable_fits at _ x h = absurd cc

pub negatable_runs : (depth : ℕ) → Runs depth (one negatable_of) IsNegatable
negatable_runs depth =
    one_run depth negatable_of IsNegatable (λ next x h. negatable_fits next.at next.kind x h) (terminal 0 t.In, negatables.In 0, refl)

-- ---- what rows are sorted by

pub data IsKeyMark : Tokens → ℕ × Key → Type 0 where
  key_mark : {kind : Kind} {key : Key} (at : ℕ) → IsKey kind key → IsKeyMark (token at kind ∷ []) (at, key)

key_fits : (at : ℕ) (kind : Kind) (x : ℕ × Key) → key_at at (key_in kind) ≡ Some x → IsKeyMark (token at kind ∷ []) x
key_fits at (k.Numeral value) x h = let n : (at, keys.Position value) ≡ x = cc in subst (IsKeyMark (token at (k.Numeral value) ∷ [])) n (key_mark at IsKey.position)
key_fits at (k.Regular name) x h = let n : (at, keys.Named (i.Regular name)) ≡ x = cc in subst (IsKeyMark (token at (k.Regular name) ∷ [])) n (key_mark at (IsKey.named IsIdentifier.regular))
key_fits at (k.Delimited inside) x h =
    let n : (at, keys.Named (i.Delimited (unquoted 34 inside))) ≡ x = cc in
    subst (IsKeyMark (token at (k.Delimited inside) ∷ [])) n (key_mark at (IsKey.named IsIdentifier.delimited))
key_fits at _ x h = absurd cc

pub key_runs : (depth : ℕ) → Runs depth (one key_of) IsKeyMark
key_runs depth = one_run depth key_of IsKeyMark (λ next x h. key_fits next.at next.kind x h) (token 0 (k.Numeral 0), (0, keys.Position 0), refl)

pub data IsDirectionMark : Tokens → Direction → Type 0 where
  ascending : (at : ℕ) → IsDirectionMark (terminal at t.Asc ∷ []) direction.Ascending
  descending : (at : ℕ) → IsDirectionMark (terminal at t.Desc ∷ []) direction.Descending

direction_fits : (at : ℕ) (kind : Kind) (x : Direction) → direction_in kind ≡ Some x → IsDirectionMark (token at kind ∷ []) x
direction_fits at (k.Terminal t.Asc) x h = let n : direction.Ascending ≡ x = cc in subst (IsDirectionMark (terminal at t.Asc ∷ [])) n (IsDirectionMark.ascending at)
direction_fits at (k.Terminal t.Desc) x h = let n : direction.Descending ≡ x = cc in subst (IsDirectionMark (terminal at t.Desc ∷ [])) n (IsDirectionMark.descending at)
direction_fits at _ x h = absurd cc

pub direction_seen : (next : Token) (x : Direction) → direction_of next ≡ Some x → IsDirectionMark (next ∷ []) x
direction_seen next x h = direction_fits next.at next.kind x h
