-- How deep tokens may nest. A sign or NOT nests what follows it, and the operator of a sum counts as a sign.
use Rattle.std.specs.Prelude.{◌≡◌, ℕ, zero, suc, ◌≤◌, Bool, true, ◌||◌, [], ◌∷◌, ◌++◌, length, if◌then◌else◌}
use Rattle.std.specs.List.{list_all}
use Rattle.om_token.specs.declared.token.Token.{Token}
use Rattle.om_token.specs.declared.terminal.Terminal.TheVariants as t
use Rattle.om_grammar.specs.Grammar.{Tokens}
use Rattle.om_grammar.specs.Reading.{is}

-- NOT, "+" and "-" make runs
abbrev pub runs_on : Token → Bool
runs_on token = is t.Not token.kind || is t.Plus token.kind || is t.Minus token.kind

-- one parenthesis less, where one is open
abbrev pub closed : ℕ → ℕ
closed zero = zero
closed (suc n) = n

-- how many parentheses are open behind tokens, where so many were open before them
abbrev pub opened : ℕ → Tokens → ℕ
opened n [] = n
opened n (token ∷ tokens) = opened (if is t.LeftParen token.kind then suc n else (if is t.RightParen token.kind then closed n else n)) tokens

-- these tokens end with a run of 64
pub record EndsInRun (tokens : Tokens) : Type 0 where
  pub front : Tokens
  pub run : Tokens
  pub split : tokens ≡ front ++ run
  pub all : list_all runs_on run ≡ true
  pub long : length run ≡ 64

-- behind these tokens this one nests too deep
pub data GoesTooDeep (used : Tokens) (token : Token) : Type 0 where
  parenthesis : is t.LeftParen token.kind ≡ true → 64 ≤ opened 0 used → GoesTooDeep used token
  run : runs_on token ≡ true → EndsInRun used → GoesTooDeep used token

-- no token nests too deep
abbrev pub IsShallow : Tokens → Type 0
IsShallow tokens = (used rest : Tokens) (token : Token) → tokens ≡ used ++ token ∷ rest → GoesTooDeep used token → ⊥

-- the first token that nests too deep begins at this offset
pub record IsTooDeep (tokens : Tokens) (at : ℕ) : Type 0 where
  pub used : Tokens
  pub token : Token
  pub rest : Tokens
  pub split : tokens ≡ used ++ token ∷ rest
  pub deep : GoesTooDeep used token
  pub before : IsShallow used
  pub place : at ≡ token.at
