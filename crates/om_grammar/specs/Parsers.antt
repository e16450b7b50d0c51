-- Parsers as functions on tokens. Each tells where it stopped, also where it fails.
use Rattle.std.specs.Prelude.{◌≡◌, ℕ, zero, suc, List, [], ◌∷◌, length, Option, Some, None, Result, Ok, Err}
use Rattle.om_token.specs.declared.token.Token.{Token}
use Rattle.om_grammar.specs.declared.stop.Stop.{Stop}
use Rattle.om_grammar.specs.declared.stop.Stop.TheVariants as stop
use Rattle.om_grammar.specs.Grammar.{Tokens}

-- what was read, and the tokens after it
abbrev pub Step : Type 0 → Type 0
Step A = Result A Stop × Tokens

abbrev pub Parser : Type 0 → Type 0
Parser A = Tokens → Step A

abbrev pub go_on : {A B : Type 0} → Result A Stop → Tokens → (A → Parser B) → Step B
go_on (Ok x) rest f = f x rest
go_on (Err e) rest f = (Err e, rest)

abbrev pub and_then : {A B : Type 0} → Step A → (A → Parser B) → Step B
and_then step f = go_on step.0 step.1 f

infixl 10 ◌>>=◌
abbrev pub ◌>>=◌ : {A B : Type 0} → Parser A → (A → Parser B) → Parser B
p >>= f = λ tokens. and_then (p tokens) f

abbrev pub pure : {A : Type 0} → A → Parser A
pure x = λ tokens. (Ok x, tokens)

-- no token fits here
abbrev pub wrong : {A : Type 0} → Parser A
wrong = λ tokens. (Err stop.Wrong, tokens)

-- more is open than was told to expect
abbrev pub deep : {A : Type 0} → Parser A
deep = λ tokens. (Err stop.Deep, tokens)

-- what a function that parses ensures: it reads what the parser reads, unless memory runs out
abbrev pub Reads : {A : Type 0} → Step A → Result A Stop → Tokens → Type 0
Reads step (Ok x) rest = step ≡ (Ok x, rest)
Reads step (Err stop.NoMemory) rest = Unit {0}
Reads step (Err stop.Wrong) rest = step ≡ (Err stop.Wrong, rest)
Reads step (Err stop.Deep) rest = step ≡ (Err stop.Deep, rest)

-- ---- by the next token

-- what a reader of one token sees in the next
abbrev pub found : {S : Type 0} → (Token → Option S) → Tokens → Option S
found read [] = None
found read (token ∷ tokens) = read token

-- the tokens after the next
abbrev pub passed : Tokens → Tokens
passed [] = []
passed (token ∷ tokens) = tokens

-- the tokens after the next where something was seen in it, and all of them otherwise
abbrev pub behind : {S : Type 0} → Option S → Tokens → Tokens
behind (Some s) tokens = passed tokens
behind None tokens = tokens

abbrev pub chosen : {A : Type 0} → Option A → Tokens → Step A
chosen (Some x) tokens = (Ok x, passed tokens)
chosen None tokens = (Err stop.Wrong, tokens)

-- what a reader sees in the next token
abbrev pub one : {A : Type 0} → (Token → Option A) → Parser A
one read tokens = chosen (found read tokens) tokens

abbrev pub branched : {S A : Type 0} → Option S → (S → Parser A) → Parser A → Parser A
branched (Some s) more other tokens = more s (passed tokens)
branched None more other tokens = other tokens

-- where a reader sees something in the next token, what goes on from there; otherwise something else
abbrev pub branch : {S A : Type 0} → (Token → Option S) → (S → Parser A) → Parser A → Parser A
branch read more other tokens = branched (found read tokens) more other tokens

-- ---- lists

-- more of a list, each member behind its separator, with at most so many of them
abbrev pub at_most : {S A : Type 0} → ℕ → (Token → Option S) → (S → Parser A) → Parser (List A)
at_most zero separator member = pure []
at_most (suc n) separator member = branch separator (λ s. member s >>= λ x. at_most n separator member >>= λ xs. pure (x ∷ xs)) (pure [])

-- more of a list, as far as separators go
unfoldable pub tails : {S A : Type 0} → (Token → Option S) → (S → Parser A) → Parser (List A)
tails separator member tokens = at_most (length tokens) separator member tokens
