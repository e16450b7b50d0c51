-- The tokens of a text, in the manner of SQL-92, section 5.2. A text is a list of bytes.
use Rattle.std.specs.Prelude.{◌≡◌, ℕ, ◌+◌, Bool, true, false, not, ◌&&◌, ◌||◌, is_some, List, [], ◌∷◌, ◌++◌, length, Option, Some, None, ◌==◌}
use Rattle.std.specs.Char.{is_ascii_digit, is_ascii_alphabetic, is_ascii_alphanumeric}
use Rattle.std.specs.List.{list_all}
use Rattle.om_token.specs.declared.token.Kind.{Kind}
use Rattle.om_token.specs.declared.token.Kind.TheVariants as k
use Rattle.om_token.specs.declared.token.Token.{Token}
use Rattle.om_token.specs.declared.token.Piece.{Piece}
use Rattle.om_token.specs.declared.token.Piece.TheVariants as p
use Rattle.om_token.specs.declared.terminal.Terminal.{Terminal}
use Rattle.om_token.specs.declared.fault.TokenFault.{TokenFault}
use Rattle.om_token.specs.declared.fault.TokenFault.TheVariants as f
use Rattle.om_token.specs.Terminals.{reserved_word, symbol, double_symbol}
use Rattle.om_token.specs.Numerals.{numeral_value}

-- ---- bytes

-- white space
abbrev pub is_space : ℕ → Bool
is_space byte = byte == 9 || byte == 10 || byte == 13 || byte == 32

-- a byte of a word: a letter, a digit or `_`
abbrev pub is_word_byte : ℕ → Bool
is_word_byte byte = is_ascii_alphanumeric byte || byte == 95

-- a byte that does not end a comment
abbrev pub is_line_byte : ℕ → Bool
is_line_byte byte = not (byte == 10)

-- these bytes are empty, or the first of them does not pass
abbrev pub ends_run : (ℕ → Bool) → List ℕ → Bool
ends_run passes [] = true
ends_run passes (byte ∷ bytes) = not (passes byte)

-- ---- pieces

-- what a word is: a reserved word in any case, or a regular identifier
abbrev pub word_kind : List ℕ → Option Terminal → Kind
word_kind word None = k.Regular word
word_kind word (Some terminal) = k.Terminal terminal

-- what may stand between quotes: any other byte, and the quote twice
pub data IsQuoted (quote : ℕ) : List ℕ → Type 0 where
  none : IsQuoted quote []
  other : {byte : ℕ} {bytes : List ℕ} → (byte == quote) ≡ false → IsQuoted quote bytes → IsQuoted quote (byte ∷ bytes)
  twice : {bytes : List ℕ} → IsQuoted quote bytes → IsQuoted quote (quote ∷ quote ∷ bytes)

-- a byte begins something longer with the first of those that follow: a symbol of two bytes, or a comment
abbrev pub goes_on : ℕ → List ℕ → Bool
goes_on byte [] = false
goes_on byte (next ∷ bytes) = is_some (double_symbol byte next) || (byte == 45 && next == 45)

-- these bytes, with those that follow, are the longest spelling of a piece of a text
pub data IsPiece : Piece → List ℕ → List ℕ → Type 0 where
  space : {byte : ℕ} {following : List ℕ} → is_space byte ≡ true → IsPiece p.Blank (byte ∷ []) following
  comment : {line following : List ℕ} → list_all is_line_byte line ≡ true → ends_run is_line_byte following ≡ true
      → IsPiece p.Blank (45 ∷ 45 ∷ line) following
  word : {first : ℕ} {rest following : List ℕ} → is_ascii_alphabetic first ≡ true
      → list_all is_word_byte rest ≡ true → ends_run is_word_byte following ≡ true
      → IsPiece (p.Token (word_kind (first ∷ rest) (reserved_word (first ∷ rest)))) (first ∷ rest) following
  numeral : {first : ℕ} {rest following : List ℕ} {value : ℕ} → is_ascii_digit first ≡ true
      → list_all is_word_byte rest ≡ true → ends_run is_word_byte following ≡ true → numeral_value (first ∷ rest) ≡ Some value
      → IsPiece (p.Token (k.Numeral value)) (first ∷ rest) following
  literal : {inside following : List ℕ} → IsQuoted 39 inside → ends_run (λ byte. byte == 39) following ≡ true
      → IsPiece (p.Token (k.Text inside)) (39 ∷ (inside ++ 39 ∷ [])) following
  delimited : {byte : ℕ} {bytes following : List ℕ} → IsQuoted 34 (byte ∷ bytes) → ends_run (λ byte. byte == 34) following ≡ true
      → IsPiece (p.Token (k.Delimited (byte ∷ bytes))) (34 ∷ byte ∷ (bytes ++ 34 ∷ [])) following
  symbol_of_one : {byte : ℕ} {following : List ℕ} {terminal : Terminal} → symbol byte ≡ Some terminal → goes_on byte following ≡ false
      → IsPiece (p.Token (k.Terminal terminal)) (byte ∷ []) following
  symbol_of_two : {first second : ℕ} {following : List ℕ} {terminal : Terminal} → double_symbol first second ≡ Some terminal
      → IsPiece (p.Token (k.Terminal terminal)) (first ∷ second ∷ []) following

-- ---- tokens

-- the tokens from a piece on: the piece is the first of them unless it is blank
abbrev pub with_piece : ℕ → Piece → List Token → List Token
with_piece at p.Blank tokens = tokens
with_piece at (p.Token kind) tokens = record { at = at; kind = kind } ∷ tokens

-- a text that begins at one offset is pieces with these tokens, and then the rest, which begins at the other offset
pub data Splits : ℕ → List ℕ → List Token → ℕ → List ℕ → Type 0 where
  end : {at : ℕ} {text : List ℕ} → Splits at text [] at text
  next : {at : ℕ} {piece : Piece} {spelling following : List ℕ} {tokens : List Token} {stop : ℕ} {rest : List ℕ}
      → IsPiece piece spelling following → Splits (at + length spelling) following tokens stop rest
      → Splits at (spelling ++ following) (with_piece at piece tokens) stop rest

-- these are the tokens of a text
abbrev pub AreTokens : List ℕ → List Token → Type 0
AreTokens text tokens = Splits 0 text tokens (length text) []

-- at this offset of a text, after whole pieces, bytes stand that begin no piece
pub record BeginsNone (text : List ℕ) (at : ℕ) : Type 0 where
  pub tokens : List Token
  pub byte : ℕ
  pub bytes : List ℕ
  pub before : Splits 0 text tokens at (byte ∷ bytes)
  pub none : (piece : Piece) (spelling following : List ℕ) → byte ∷ bytes ≡ spelling ++ following → IsPiece piece spelling following → ⊥

-- a text has no tokens by this fault: it tells where bytes begin no piece, and of want of memory nothing is said
abbrev pub IsUncut : List ℕ → TokenFault → Type 0
IsUncut text f.NoMemory = Unit {0}
IsUncut text (f.NoToken at) = BeginsNone text at
