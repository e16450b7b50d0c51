-- When a text has a tree, and where one that has none is refused.
use Rattle.std.specs.Prelude.{◌≡◌, ℕ, ◌<◌, ◌≤◌, ◌⊎◌, List, [], ◌∷◌, ◌++◌, length, Result, Err}
use Rattle.om_token.specs.Tokens.{AreTokens, BeginsNone}
use Rattle.om_grammar.specs.declared.tree.Query.{Query}
use Rattle.om_grammar.specs.declared.fault.ParseFault.{ParseFault}
use Rattle.om_grammar.specs.declared.fault.ParseFault.TheVariants as f
use Rattle.om_grammar.specs.Grammar.{Tokens, Lang, IsQuery}
use Rattle.om_grammar.specs.Depth.{IsShallow, IsTooDeep}

-- ---- one place in a list of tokens, whatever the language

-- something of a language begins with these tokens
abbrev pub Begins : {A : Type 0} → Lang A → Tokens → Type 0
Begins {A} L used = (more : Tokens) × (tree : A) × L (used ++ more) tree

-- the tokens stop too early, or nothing of the language begins with them and the next
abbrev pub Stops : {A : Type 0} → Lang A → Tokens → Tokens → Type 0
Stops {A} L used [] = (tree : A) → L used tree → ⊥
Stops {A} L used (next ∷ rest) = Begins L (used ++ next ∷ []) → ⊥

-- the tokens up to a rest may go on to something of the language, and with the first of the rest they may not
pub record IsRefused {A : Type 0} (L : Lang A) (tokens rest : Tokens) : Type 0 where
  pub used : Tokens
  pub split : tokens ≡ used ++ rest
  pub viable : Begins L used
  pub stops : Stops L used rest

-- ---- a text

-- the offset of the first token, or of the end where there is none
abbrev pub place_of : ℕ → Tokens → ℕ
place_of end [] = end
place_of end (token ∷ tokens) = token.at

-- a text has this tree
pub record HasTree (text : List ℕ) (query : Query) : Type 0 where
  pub tokens : Tokens
  pub short : length text ≤ 16384
  pub cut : AreTokens text tokens
  pub shallow : IsShallow tokens
  pub tree : IsQuery tokens query

-- a text of these tokens is refused at the first of the rest
pub record IsMisplaced (text : List ℕ) (at : ℕ) : Type 0 where
  pub tokens : Tokens
  pub rest : Tokens
  pub cut : AreTokens text tokens
  pub shallow : IsShallow tokens
  pub refused : IsRefused IsQuery tokens rest
  pub place : at ≡ place_of (length text) rest

-- a text is refused by this fault: by its length, at bytes that begin no token, by its depth, or at a token. Each is told only
-- where none of those before it is
pub data IsRefusal (text : List ℕ) : ParseFault → Type 0 where
  wide : 16384 < length text → IsRefusal text (f.TooWide (length text))
  bytes : {at : ℕ} → length text ≤ 16384 → BeginsNone text at → IsRefusal text (f.Syntax at)
  deep : {tokens : Tokens} {at : ℕ} → length text ≤ 16384 → AreTokens text tokens → IsTooDeep tokens at → IsRefusal text (f.TooDeep at)
  token : {at : ℕ} → length text ≤ 16384 → IsMisplaced text at → IsRefusal text (f.Syntax at)

-- a call answers this, unless memory ran out
abbrev pub Answers : Result Query ParseFault → Result Query ParseFault → Type 0
Answers result wanted = (result ≡ wanted) ⊎ (result ≡ Err f.NoMemory)

-- what a function that parses tokens ensures of a fault, where the text ends before this offset
abbrev pub IsTokenFault : Tokens → ℕ → ParseFault → Type 0
IsTokenFault tokens past f.NoMemory = Unit {0}
IsTokenFault tokens past (f.Syntax at) = (rest : Tokens) × IsRefused IsQuery tokens rest × (at ≡ place_of past rest)
IsTokenFault tokens past (f.TooWide n) = ⊥
IsTokenFault tokens past (f.TooDeep at) = ⊥
