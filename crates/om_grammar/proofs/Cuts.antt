-- How the words of a text are cut into tokens, one behind the other.
use Rattle.std.proofs.Common.{◌≡◌, ℕ, ◌+◌, true, false, List, [], ◌∷◌, ◌++◌, length, Option, Some, codes, refl, sym, subst, append_assoc, arith, ◌==◌}
use Rattle.std.specs.Char.{is_ascii_alphabetic}
use Rattle.std.specs.List.{list_all}
use Rattle.std.proofs.lemmas.List.{length-append}
use Rattle.om_token.specs.declared.token.Kind.TheVariants as k
use Rattle.om_token.specs.declared.token.Piece.{Piece}
use Rattle.om_token.specs.declared.token.Piece.TheVariants as p
use Rattle.om_token.specs.declared.terminal.Terminal.{Terminal}
use Rattle.om_token.specs.declared.terminal.Terminal.TheVariants as t
use Rattle.om_token.specs.Terminals.{reserved_word, symbol, double_symbol}
use Rattle.om_token.specs.Tokens.{is_word_byte, ends_run, word_kind, goes_on, with_piece, IsPiece, Splits, end, next}
use Rattle.om_grammar.specs.Grammar.{Tokens, terminal, in_parens}
use Rattle.om_grammar.specs.Words.{word, spaced, in_brackets}

-- ---- cutting, one text behind the other

-- a text that begins at an offset is cut into these tokens, where this follows
pub record Cuts (at : ℕ) (text : List ℕ) (tokens : Tokens) (following : List ℕ) : Type 0 where
  pub splits : Splits at (text ++ following) tokens (at + length text) following

with_piece-append : (at : ℕ) (piece : Piece) (tokens more : Tokens) → with_piece at piece tokens ++ more ≡ with_piece at piece (tokens ++ more)
with_piece-append at p.Blank tokens more = refl
with_piece-append at (p.Token kind) tokens more = refl

splits_both : {at : ℕ} {text : List ℕ} {tokens : Tokens} {mid : ℕ} {between : List ℕ} {more : Tokens} {stop : ℕ} {rest : List ℕ}
    → Splits at text tokens mid between → Splits mid between more stop rest → Splits at text (tokens ++ more) stop rest
splits_both end h = h
splits_both {more = more} (next {at = at} {piece = piece} {tokens = tokens} g others) h = rw (with_piece-append at piece tokens more) (next g (splits_both others h))

pub both : {at : ℕ} {a b : List ℕ} {tokens more : Tokens} {following : List ℕ} → Cuts at a tokens (b ++ following) → Cuts (at + length a) b more following
    → Cuts at (a ++ b) (tokens ++ more) following
both {at = at} {a = a} {b = b} {tokens = tokens} {more = more} {following = following} first second =
    let stop : at + length a + length b ≡ at + length (a ++ b) = omega (arith, length-append a b) in
    let joined = splits_both first.splits second.splits in
    let fitted = subst (λ (n : ℕ). Splits at (a ++ (b ++ following)) (tokens ++ more) n following) stop joined in
    record { splits = subst (λ (l : List ℕ). Splits at l (tokens ++ more) (at + length (a ++ b)) following) (sym (append_assoc a b following)) fitted }

pub nothing : {at : ℕ} {following : List ℕ} → Cuts at [] [] following
nothing {at = at} {following = following} =
    let stop : at ≡ at + 0 = omega arith in record { splits = subst (λ (n : ℕ). Splits at following [] n following) stop end }

pub piece_cut : {piece : Piece} {text following : List ℕ} (at : ℕ) → IsPiece piece text following → Cuts at text (with_piece at piece []) following
piece_cut at h = record { splits = next h end }

-- ---- words and symbols

-- what may follow a word or a symbol, so that it is not the beginning of a longer one
abbrev pub MayFollow : Terminal → List ℕ → Type 0
MayFollow t.Select following = ends_run is_word_byte following ≡ true
MayFollow t.From following = ends_run is_word_byte following ≡ true
MayFollow t.Where following = ends_run is_word_byte following ≡ true
MayFollow t.Group following = ends_run is_word_byte following ≡ true
MayFollow t.By following = ends_run is_word_byte following ≡ true
MayFollow t.Order following = ends_run is_word_byte following ≡ true
MayFollow t.Asc following = ends_run is_word_byte following ≡ true
MayFollow t.Desc following = ends_run is_word_byte following ≡ true
MayFollow t.And following = ends_run is_word_byte following ≡ true
MayFollow t.Or following = ends_run is_word_byte following ≡ true
MayFollow t.Not following = ends_run is_word_byte following ≡ true
MayFollow t.Between following = ends_run is_word_byte following ≡ true
MayFollow t.In following = ends_run is_word_byte following ≡ true
MayFollow t.Is following = ends_run is_word_byte following ≡ true
MayFollow t.Null following = ends_run is_word_byte following ≡ true
MayFollow t.As following = ends_run is_word_byte following ≡ true
MayFollow t.Count following = ends_run is_word_byte following ≡ true
MayFollow t.Min following = ends_run is_word_byte following ≡ true
MayFollow t.Max following = ends_run is_word_byte following ≡ true
MayFollow t.Signed following = ends_run is_word_byte following ≡ true
MayFollow t.Bits following = ends_run is_word_byte following ≡ true
MayFollow t.Mem8 following = ends_run is_word_byte following ≡ true
MayFollow t.Mem16 following = ends_run is_word_byte following ≡ true
MayFollow t.Mem32 following = ends_run is_word_byte following ≡ true
MayFollow t.Distinct following = ends_run is_word_byte following ≡ true
MayFollow t.Having following = ends_run is_word_byte following ≡ true
MayFollow t.NotEqual following = Unit {0}
MayFollow t.LessOrEqual following = Unit {0}
MayFollow t.GreaterOrEqual following = Unit {0}
MayFollow t.Equal following = goes_on 61 following ≡ false
MayFollow t.Less following = goes_on 60 following ≡ false
MayFollow t.Greater following = goes_on 62 following ≡ false
MayFollow t.Plus following = goes_on 43 following ≡ false
MayFollow t.Minus following = goes_on 45 following ≡ false
MayFollow t.Star following = goes_on 42 following ≡ false
MayFollow t.Slash following = goes_on 47 following ≡ false
MayFollow t.LeftParen following = goes_on 40 following ≡ false
MayFollow t.RightParen following = goes_on 41 following ≡ false
MayFollow t.Comma following = goes_on 44 following ≡ false
MayFollow t.Dot following = goes_on 46 following ≡ false
MayFollow t.Semicolon following = goes_on 59 following ≡ false

reserved_piece : (first : ℕ) (rest : List ℕ) (which : Terminal) (following : List ℕ) → reserved_word (first ∷ rest) ≡ Some which → is_ascii_alphabetic first ≡ true
    → list_all is_word_byte rest ≡ true → ends_run is_word_byte following ≡ true → IsPiece (p.Token (k.Terminal which)) (first ∷ rest) following
reserved_piece first rest which following is first_is rest_is ends =
    subst (λ (o : Option Terminal). IsPiece (p.Token (word_kind (first ∷ rest) o)) (first ∷ rest) following) is (IsPiece.word first_is rest_is ends)

pub terminal_piece : (which : Terminal) (following : List ℕ) → MayFollow which following → IsPiece (p.Token (k.Terminal which)) (word which) following
unfolding reserved_word symbol double_symbol
terminal_piece t.Select following h = reserved_piece _ _ t.Select following refl refl refl h
terminal_piece t.From following h = reserved_piece _ _ t.From following refl refl refl h
terminal_piece t.Where following h = reserved_piece _ _ t.Where following refl refl refl h
terminal_piece t.Group following h = reserved_piece _ _ t.Group following refl refl refl h
terminal_piece t.By following h = reserved_piece _ _ t.By following refl refl refl h
terminal_piece t.Order following h = reserved_piece _ _ t.Order following refl refl refl h
terminal_piece t.Asc following h = reserved_piece _ _ t.Asc following refl refl refl h
terminal_piece t.Desc following h = reserved_piece _ _ t.Desc following refl refl refl h
terminal_piece t.And following h = reserved_piece _ _ t.And following refl refl refl h
terminal_piece t.Or following h = reserved_piece _ _ t.Or following refl refl refl h
terminal_piece t.Not following h = reserved_piece _ _ t.Not following refl refl refl h
terminal_piece t.Between following h = reserved_piece _ _ t.Between following refl refl refl h
terminal_piece t.In following h = reserved_piece _ _ t.In following refl refl refl h
terminal_piece t.Is following h = reserved_piece _ _ t.Is following refl refl refl h
terminal_piece t.Null following h = reserved_piece _ _ t.Null following refl refl refl h
terminal_piece t.As following h = reserved_piece _ _ t.As following refl refl refl h
terminal_piece t.Count following h = reserved_piece _ _ t.Count following refl refl refl h
terminal_piece t.Min following h = reserved_piece _ _ t.Min following refl refl refl h
terminal_piece t.Max following h = reserved_piece _ _ t.Max following refl refl refl h
terminal_piece t.Signed following h = reserved_piece _ _ t.Signed following refl refl refl h
terminal_piece t.Bits following h = reserved_piece _ _ t.Bits following refl refl refl h
terminal_piece t.Mem8 following h = reserved_piece _ _ t.Mem8 following refl refl refl h
terminal_piece t.Mem16 following h = reserved_piece _ _ t.Mem16 following refl refl refl h
terminal_piece t.Mem32 following h = reserved_piece _ _ t.Mem32 following refl refl refl h
terminal_piece t.Distinct following h = reserved_piece _ _ t.Distinct following refl refl refl h
terminal_piece t.Having following h = reserved_piece _ _ t.Having following refl refl refl h
terminal_piece t.NotEqual following h = IsPiece.symbol_of_two refl
terminal_piece t.LessOrEqual following h = IsPiece.symbol_of_two refl
terminal_piece t.GreaterOrEqual following h = IsPiece.symbol_of_two refl
terminal_piece t.Equal following h = IsPiece.symbol_of_one refl h
terminal_piece t.Less following h = IsPiece.symbol_of_one refl h
terminal_piece t.Greater following h = IsPiece.symbol_of_one refl h
terminal_piece t.Plus following h = IsPiece.symbol_of_one refl h
terminal_piece t.Minus following h = IsPiece.symbol_of_one refl h
terminal_piece t.Star following h = IsPiece.symbol_of_one refl h
terminal_piece t.Slash following h = IsPiece.symbol_of_one refl h
terminal_piece t.LeftParen following h = IsPiece.symbol_of_one refl h
terminal_piece t.RightParen following h = IsPiece.symbol_of_one refl h
terminal_piece t.Comma following h = IsPiece.symbol_of_one refl h
terminal_piece t.Dot following h = IsPiece.symbol_of_one refl h
terminal_piece t.Semicolon following h = IsPiece.symbol_of_one refl h

pub space_follows : (which : Terminal) (following : List ℕ) → MayFollow which (32 ∷ following)
unfolding double_symbol
space_follows t.Select following = refl
space_follows t.From following = refl
space_follows t.Where following = refl
space_follows t.Group following = refl
space_follows t.By following = refl
space_follows t.Order following = refl
space_follows t.Asc following = refl
space_follows t.Desc following = refl
space_follows t.And following = refl
space_follows t.Or following = refl
space_follows t.Not following = refl
space_follows t.Between following = refl
space_follows t.In following = refl
space_follows t.Is following = refl
space_follows t.Null following = refl
space_follows t.As following = refl
space_follows t.Count following = refl
space_follows t.Min following = refl
space_follows t.Max following = refl
space_follows t.Signed following = refl
space_follows t.Bits following = refl
space_follows t.Mem8 following = refl
space_follows t.Mem16 following = refl
space_follows t.Mem32 following = refl
space_follows t.Distinct following = refl
space_follows t.Having following = refl
space_follows t.NotEqual following = tt
space_follows t.LessOrEqual following = tt
space_follows t.GreaterOrEqual following = tt
space_follows t.Equal following = refl
space_follows t.Less following = refl
space_follows t.Greater following = refl
space_follows t.Plus following = refl
space_follows t.Minus following = refl
space_follows t.Star following = refl
space_follows t.Slash following = refl
space_follows t.LeftParen following = refl
space_follows t.RightParen following = refl
space_follows t.Comma following = refl
space_follows t.Dot following = refl
space_follows t.Semicolon following = refl

pub word_cut : (which : Terminal) (at : ℕ) (following : List ℕ) → MayFollow which following → Cuts at (word which) (terminal at which ∷ []) following
word_cut which at following h = piece_cut at (terminal_piece which following h)

pub space_cut : (at : ℕ) (following : List ℕ) → Cuts at (32 ∷ []) [] following
space_cut at following = piece_cut at (IsPiece.space refl)

-- a word with a space behind it
pub word_space : (which : Terminal) (at : ℕ) (following : List ℕ) → Cuts at (word which ++ 32 ∷ []) (terminal at which ∷ []) following
word_space which at following = both (word_cut which at (32 ∷ following) (space_follows which following)) (space_cut (at + length (word which)) following)

-- a word between two spaces
pub spaced_cut : (which : Terminal) (at : ℕ) (following : List ℕ) → Cuts at (spaced which) (terminal (at + 1) which ∷ []) following
spaced_cut which at following = both (space_cut at ((word which ++ 32 ∷ []) ++ following)) (word_space which (at + 1) following)

-- ---- parentheses, points and commas

pub open_follows : (following : List ℕ) → MayFollow t.LeftParen following
unfolding double_symbol
open_follows [] = refl
open_follows (byte ∷ bytes) = refl

pub close_follows : (following : List ℕ) → MayFollow t.RightParen following
unfolding double_symbol
close_follows [] = refl
close_follows (byte ∷ bytes) = refl

pub dot_follows : (following : List ℕ) → MayFollow t.Dot following
unfolding double_symbol
dot_follows [] = refl
dot_follows (byte ∷ bytes) = refl

pub brackets_cut : {text : List ℕ} {tokens : Tokens} (at : ℕ) (following : List ℕ) → Cuts (at + 1) text tokens (41 ∷ following)
    → Cuts at (in_brackets text) (in_parens at (at + 1 + length text) tokens) following
brackets_cut {text = text} at following inside =
    both (word_cut t.LeftParen at ((text ++ 41 ∷ []) ++ following) (open_follows _))
    (both inside (word_cut t.RightParen (at + 1 + length text) following (close_follows following)))

-- a comma and a space
pub comma_cut : (at : ℕ) (following : List ℕ) → Cuts at (codes ", ") (terminal at t.Comma ∷ []) following
comma_cut at following = word_space t.Comma at following

-- ---- what follows a part of a query

-- nothing follows, or a space, a parenthesis that closes, or a comma
pub data Ends : List ℕ → Type 0 where
  end_of_text : Ends []
  space : {bytes : List ℕ} → Ends (32 ∷ bytes)
  close : {bytes : List ℕ} → Ends (41 ∷ bytes)
  comma : {bytes : List ℕ} → Ends (44 ∷ bytes)

pub ends_word : {following : List ℕ} → Ends following → ends_run is_word_byte following ≡ true
ends_word end_of_text = refl
ends_word space = refl
ends_word close = refl
ends_word comma = refl

pub ends_literal : {following : List ℕ} → Ends following → ends_run (λ byte. byte == 39) following ≡ true
ends_literal end_of_text = refl
ends_literal space = refl
ends_literal close = refl
ends_literal comma = refl

pub ends_delimited : {following : List ℕ} → Ends following → ends_run (λ byte. byte == 34) following ≡ true
ends_delimited end_of_text = refl
ends_delimited space = refl
ends_delimited close = refl
ends_delimited comma = refl
