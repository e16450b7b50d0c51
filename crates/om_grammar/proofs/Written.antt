-- The tokens of any text, and that names, numbers and texts among them are spelled as their trees say.
use Rattle.std.proofs.Common.{◌≡◌, ℕ, ◌+◌, ◌*◌, ◌<◌, ◌^◌, Bool, true, false, List, [], ◌∷◌, ◌++◌, length, Option, Some, None, refl, sym, ap, subst, ◌∙◌, arith, ◌==◌}
use Rattle.std.specs.Prelude.{◌&&◌, ◌||◌, fold, nat_lt, if◌then◌else◌}
use Rattle.std.specs.Char.{is_ascii_digit, is_ascii_alphabetic, digit_value, is_digit}
use Rattle.std.specs.Fmt.{decimal}
use Rattle.std.specs.List.{list_all}
use Rattle.std.specs.Str.Parse.{AllDigits, digits_value_after, digits_value}
use Rattle.std.proofs.lemmas.Bool.Decides.{nat_tests}
use Rattle.std.proofs.lemmas.Fmt.{decimal_is_IsNumeral}
use Rattle.std.proofs.lemmas.Str.Parse.{digit_from_value}
use Rattle.om_token.specs.declared.token.Kind.{Kind}
use Rattle.om_token.specs.declared.token.Kind.TheVariants as k
use Rattle.om_token.specs.declared.token.Piece.{Piece}
use Rattle.om_token.specs.declared.token.Piece.TheVariants as p
use Rattle.om_token.specs.declared.terminal.Terminal.{Terminal}
use Rattle.om_token.specs.Terminals.{reserved_word}
use Rattle.om_token.specs.Numerals.{positional, is_number, number_in, numeral_value}
use Rattle.om_token.specs.Quotes.{unquoted}
use Rattle.om_token.specs.Tokens.{is_word_byte, ends_run, word_kind, IsQuoted, with_piece, IsPiece, Splits, end, next}
use Rattle.om_token.proofs.QuoteLemmas.{alone}
use Rattle.om_grammar.specs.Grammar.{Tokens, token}
use Rattle.om_grammar.specs.Words.{in_quotes}
use Rattle.om_grammar.proofs.Cuts.{Cuts, piece_cut, Ends, ends_word, ends_literal, ends_delimited}

-- ---- what tokens of a text are

-- some text has a token of this kind
pub data IsWritten : Kind → Type 0 where
  terminal : {which : Terminal} → IsWritten (k.Terminal which)
  regular : {first : ℕ} {rest : List ℕ} → is_ascii_alphabetic first ≡ true → list_all is_word_byte rest ≡ true → reserved_word (first ∷ rest) ≡ None → IsWritten (k.Regular (first ∷ rest))
  numeral : {value : ℕ} → value < 2 ^ 64 → IsWritten (k.Numeral value)
  text : {inside : List ℕ} → IsQuoted 39 inside → IsWritten (k.Text inside)
  delimited : {byte : ℕ} {bytes : List ℕ} → IsQuoted 34 (byte ∷ bytes) → IsWritten (k.Delimited (byte ∷ bytes))

abbrev pub AllWritten : Tokens → Type 0
AllWritten [] = Unit {0}
AllWritten (token ∷ tokens) = IsWritten token.kind × AllWritten tokens

pub written_front : (u w : Tokens) → AllWritten (u ++ w) → AllWritten u
written_front [] w h = tt
written_front (token ∷ u) w h = (h.0, written_front u w h.1)

pub written_back : (u w : Tokens) → AllWritten (u ++ w) → AllWritten w
written_back [] w h = h
written_back (token ∷ u) w h = written_back u w h.1

abbrev WrittenPiece : Piece → Type 0
WrittenPiece p.Blank = Unit {0}
WrittenPiece (p.Token kind) = IsWritten kind

written_word : (first : ℕ) (rest : List ℕ) (is : Option Terminal) → reserved_word (first ∷ rest) ≡ is → is_ascii_alphabetic first ≡ true → list_all is_word_byte rest ≡ true
    → IsWritten (word_kind (first ∷ rest) is)
written_word first rest None is first_is rest_is = regular first_is rest_is is
written_word first rest (Some which) is first_is rest_is = terminal

-- what a numeral writes is below 2 ^ 64
below_limit : (a : Bool) (number value : ℕ) → (if a && nat_lt number (2 ^ 64) then Some number else None) ≡ Some value → value < 2 ^ 64
below_limit true number value is = grind (arith, nat_tests)
below_limit false number value is = absurd cc

number_below : (base : ℕ) (digits : List ℕ) (value : ℕ) → number_in base digits ≡ Some value → value < 2 ^ 64
number_below base [] value is = absurd cc
number_below base (digit ∷ digits) value is = below_limit (list_all (λ byte. is_digit byte base) (digit ∷ digits)) (positional base (digit ∷ digits)) value is

either_below : (b : Bool) (base other : ℕ) (digits more : List ℕ) (value : ℕ) → (if b then number_in base digits else number_in other more) ≡ Some value → value < 2 ^ 64
either_below true base other digits more value is = number_below base digits value is
either_below false base other digits more value is = number_below other more value is

numeral_below : (text : List ℕ) (value : ℕ) → numeral_value text ≡ Some value → value < 2 ^ 64
unfolding numeral_value
numeral_below [] value is = absurd cc
numeral_below (first ∷ []) value is = number_below 10 (first ∷ []) value is
numeral_below (first ∷ second ∷ rest) value is = either_below (first == 48 && (second == 120 || second == 88)) 16 10 rest (first ∷ second ∷ rest) value is

written_piece : {piece : Piece} {text following : List ℕ} → IsPiece piece text following → WrittenPiece piece
written_piece (IsPiece.space h) = tt
written_piece (IsPiece.comment g h) = tt
written_piece (IsPiece.word {first = first} {rest = rest} f g h) = written_word first rest (reserved_word (first ∷ rest)) refl f g
written_piece (IsPiece.numeral {first = first} {rest = rest} {value = value} f g h is) = numeral (numeral_below (first ∷ rest) value is)
written_piece (IsPiece.literal g h) = text g
written_piece (IsPiece.delimited g h) = delimited g
written_piece (IsPiece.symbol_of_one g h) = terminal
written_piece (IsPiece.symbol_of_two g) = terminal

written_more : (at : ℕ) (piece : Piece) (tokens : Tokens) → WrittenPiece piece → AllWritten tokens → AllWritten (with_piece at piece tokens)
written_more at p.Blank tokens g h = h
written_more at (p.Token kind) tokens g h = (g, h)

pub all_written : {at : ℕ} {text : List ℕ} {tokens : Tokens} {stop : ℕ} {rest : List ℕ} → Splits at text tokens stop rest → AllWritten tokens
all_written end = tt
all_written (next {at = at} {piece = piece} {tokens = tokens} g more) = written_more at piece tokens (written_piece g) (all_written more)

-- ---- numbers

value_is : (n : ℕ) (digits : List ℕ) → digits_value_after 10 n digits ≡ fold (λ value digit. value * 10 + digit_value digit) n digits
value_is n [] = refl
value_is n (digit ∷ digits) = value_is (n * 10 + digit_value digit) digits

digit_is_digit : (c : ℕ) → digit_value c < 10 → is_digit c 10 ≡ true
digit_is_digit c h = grind (arith, nat_tests)

both_true : (a b : Bool) → a ≡ true → b ≡ true → (a && b) ≡ true
both_true a b e f = rw (e, f) refl

all_digits : (digits : List ℕ) → AllDigits 10 digits → list_all (λ byte. is_digit byte 10) digits ≡ true
all_digits [] h = refl
all_digits (digit ∷ digits) h = both_true _ _ (digit_is_digit digit h.0) (all_digits digits h.1)

word_digit : (c : ℕ) → digit_value c < 10 → is_word_byte c ≡ true
word_digit c h = let r = digit_from_value c h in grind (arith, nat_tests, r)

word_digits : (digits : List ℕ) → AllDigits 10 digits → list_all is_word_byte digits ≡ true
word_digits [] h = refl
word_digits (digit ∷ digits) h = both_true _ _ (word_digit digit h.0) (word_digits digits h.1)

ascii_digit : (c : ℕ) → digit_value c < 10 → is_ascii_digit c ≡ true
ascii_digit c h = let r = digit_from_value c h in grind (arith, nat_tests, r)

not_hex : (first second : ℕ) → digit_value second < 10 → (first == 48 && (second == 120 || second == 88)) ≡ false
not_hex first second h = let r = digit_from_value second h in grind (arith, nat_tests, r)

number_is : (digit : ℕ) (digits : List ℕ) (value : ℕ) → AllDigits 10 (digit ∷ digits) → digits_value 10 (digit ∷ digits) ≡ value → value < 2 ^ 64 → number_in 10 (digit ∷ digits) ≡ Some value
number_is digit digits value h is below =
    let same : positional 10 (digit ∷ digits) ≡ value = sym (value_is 0 (digit ∷ digits)) ∙ is in
    let small : nat_lt (positional 10 (digit ∷ digits)) (2 ^ 64) ≡ true = rw same (grind (arith, nat_tests)) in
    let passes : is_number 10 (digit ∷ digits) ≡ true = both_true _ _ (all_digits (digit ∷ digits) h) small in
    ap (λ b. if b then Some (positional 10 (digit ∷ digits)) else None) passes ∙ ap (λ n. Some n) same

numeral_is : (digit : ℕ) (digits : List ℕ) (value : ℕ) → AllDigits 10 (digit ∷ digits) → digits_value 10 (digit ∷ digits) ≡ value → value < 2 ^ 64 → numeral_value (digit ∷ digits) ≡ Some value
unfolding numeral_value
numeral_is first [] value h is below = number_is first [] value h is below
numeral_is first (second ∷ rest) value h is below =
    ap (λ b. if b then number_in 16 rest else number_in 10 (first ∷ second ∷ rest)) (not_hex first second h.1.0) ∙ number_is first (second ∷ rest) value h is below

numeral_piece : (digits : List ℕ) (value : ℕ) (following : List ℕ) → 0 < length digits → AllDigits 10 digits → digits_value 10 digits ≡ value → value < 2 ^ 64
    → ends_run is_word_byte following ≡ true → IsPiece (p.Token (k.Numeral value)) digits following
numeral_piece [] value following some h is below ends = absurd (omega arith)
numeral_piece (digit ∷ digits) value following some h is below ends =
    IsPiece.numeral (ascii_digit digit h.0) (word_digits digits h.1) ends (numeral_is digit digits value h is below)

pub numeral_cut : (value at : ℕ) (following : List ℕ) → IsWritten (k.Numeral value) → Ends following → Cuts at (decimal value) (token at (k.Numeral value) ∷ []) following
numeral_cut value at following (numeral below) ends =
    let is = decimal_is_IsNumeral value below in piece_cut at (numeral_piece (decimal value) value following is.0.0 is.0.1 is.1 below (ends_word ends))

-- ---- names and texts

pub regular_cut : (name : List ℕ) (at : ℕ) (following : List ℕ) → IsWritten (k.Regular name) → ends_run is_word_byte following ≡ true → Cuts at name (token at (k.Regular name) ∷ []) following
regular_cut _ at following (regular {first = first} {rest = rest} first_is rest_is is) ends =
    let piece : IsPiece (p.Token (k.Regular (first ∷ rest))) (first ∷ rest) following =
    subst (λ (o : Option Terminal). IsPiece (p.Token (word_kind (first ∷ rest) o)) (first ∷ rest) following) is (IsPiece.word first_is rest_is ends) in
    piece_cut at piece

pub text_cut : (inside : List ℕ) (at : ℕ) (following : List ℕ) → IsWritten (k.Text inside) → Ends following → Cuts at (in_quotes 39 (unquoted 39 inside)) (token at (k.Text inside) ∷ []) following
text_cut inside at following (text h) ends =
    subst (λ (l : List ℕ). Cuts at (39 ∷ (l ++ 39 ∷ [])) (token at (k.Text inside) ∷ []) following) (alone 39 inside h) (piece_cut at (IsPiece.literal h (ends_literal ends)))

pub delimited_cut : (inside : List ℕ) (at : ℕ) (following : List ℕ) → IsWritten (k.Delimited inside) → Ends following → Cuts at (in_quotes 34 (unquoted 34 inside)) (token at (k.Delimited inside) ∷ []) following
delimited_cut _ at following (delimited {byte = byte} {bytes = bytes} h) ends =
    subst (λ (l : List ℕ). Cuts at (34 ∷ (l ++ 34 ∷ [])) (token at (k.Delimited (byte ∷ bytes)) ∷ []) following) (alone 34 (byte ∷ bytes) h) (piece_cut at (IsPiece.delimited h (ends_delimited ends)))
