-- The piece at the front of a text, as a function.
use Rattle.std.specs.Prelude.{ℕ, Bool, false, ◌&&◌, List, [], ◌∷◌, take, drop, Option, Some, None, if◌then◌else◌, ◌==◌}
use Rattle.std.specs.Option.{option_map, option_and_then}
use Rattle.std.specs.Char.{is_ascii_digit, is_ascii_alphabetic}
use Rattle.std.specs.List.{prefix_len}
use Rattle.om_token.specs.declared.token.Kind.TheVariants as k
use Rattle.om_token.specs.declared.token.Piece.{Piece}
use Rattle.om_token.specs.declared.token.Piece.TheVariants as p
use Rattle.om_token.specs.declared.terminal.Terminal.{Terminal}
use Rattle.om_token.specs.Terminals.{reserved_word, symbol, double_symbol}
use Rattle.om_token.specs.Numerals.{numeral_value}
use Rattle.om_token.specs.Tokens.{is_space, is_word_byte, is_line_byte, word_kind}

-- a piece and what follows it, if there is one
abbrev pub Cut : Type 0
Cut = Option (Piece × List ℕ)

-- the bytes at the front that pass, and those after them
abbrev pub front : (ℕ → Bool) → List ℕ → List ℕ
front passes bytes = take (prefix_len passes bytes) bytes

abbrev pub after : (ℕ → Bool) → List ℕ → List ℕ
after passes bytes = drop (prefix_len passes bytes) bytes

abbrev pub word_at : List ℕ → Cut
word_at text = Some (p.Token (word_kind (front is_word_byte text) (reserved_word (front is_word_byte text))), after is_word_byte text)

abbrev pub numeral_at : List ℕ → Cut
numeral_at text = option_map (λ value. (p.Token (k.Numeral value), after is_word_byte text)) (numeral_value (front is_word_byte text))

-- the first byte is this one
abbrev pub begins_with : ℕ → List ℕ → Bool
begins_with byte [] = false
begins_with byte (first ∷ rest) = first == byte

-- what stands before the quote that closes, and what stands after it
unfoldable pub within : ℕ → List ℕ → Option (List ℕ × List ℕ)
within quote [] = None
within quote (byte ∷ []) = if byte == quote then Some ([], []) else None
within quote (byte ∷ second ∷ rest) =
    if byte == quote
    then (if second == quote then option_map (λ x. (byte ∷ second ∷ x.0, x.1)) (within quote rest) else Some ([], second ∷ rest))
    else option_map (λ x. (byte ∷ x.0, x.1)) (within quote (second ∷ rest))

abbrev pub text_at : List ℕ → Cut
text_at rest = option_map (λ x. (p.Token (k.Text x.0), x.1)) (within 39 rest)

-- a delimited identifier, which is not empty
abbrev pub delimited : List ℕ → List ℕ → Cut
delimited [] rest = None
delimited (byte ∷ bytes) rest = Some (p.Token (k.Delimited (byte ∷ bytes)), rest)

abbrev pub delimited_at : List ℕ → Cut
delimited_at rest = option_and_then (λ x. delimited x.0 x.1) (within 34 rest)

abbrev pub symbol_at : ℕ → List ℕ → Cut
symbol_at byte rest = option_map (λ terminal. (p.Token (k.Terminal terminal), rest)) (symbol byte)

abbrev pub longest : Option Terminal → ℕ → ℕ → List ℕ → Cut
longest (Some terminal) first second rest = Some (p.Token (k.Terminal terminal), rest)
longest None first second rest = symbol_at first (second ∷ rest)

abbrev pub sign_at : ℕ → List ℕ → Cut
sign_at first [] = symbol_at first []
sign_at first (second ∷ rest) =
    if first == 45 && second == 45 then Some (p.Blank, after is_line_byte rest) else longest (double_symbol first second) first second rest

abbrev pub other_at : ℕ → List ℕ → Cut
other_at first rest = if first == 39 then text_at rest else (if first == 34 then delimited_at rest else sign_at first rest)

unfoldable pub cut : List ℕ → Cut
cut [] = None
cut (first ∷ rest) =
    if is_space first then Some (p.Blank, rest)
    else (if is_ascii_alphabetic first then word_at (first ∷ rest)
    else (if is_ascii_digit first then numeral_at (first ∷ rest)
    else other_at first rest))
