-- Reserved words and symbols: SQL-92, section 5.2, of which these are the ones that the query language has.
use Rattle.std.specs.Prelude.{ℕ, Bool, List, [], ◌∷◌, codes, Option, Some, None, if◌then◌else◌, ◌==◌, ◌&&◌}
use Rattle.std.specs.Str.{str_eq_ignore_ascii_case}
use denote.Enum.Bare.{sameb}
use Rattle.om_token.specs.declared.terminal.Terminal.{Terminal}
use Rattle.om_token.specs.declared.terminal.Terminal.TheVariants as t
use Rattle.om_token.specs.contracts.terminal.Terminal.{the_type}

-- both are one word or symbol
unfoldable pub same : Terminal → Terminal → Bool
same = sameb the_type

-- the reserved words
abbrev pub reserved_words : List (List ℕ × Terminal)
reserved_words =
    (codes "SELECT", t.Select) ∷ (codes "FROM", t.From) ∷ (codes "WHERE", t.Where) ∷ (codes "GROUP", t.Group) ∷ (codes "BY", t.By)
    ∷ (codes "ORDER", t.Order) ∷ (codes "ASC", t.Asc) ∷ (codes "DESC", t.Desc) ∷ (codes "AND", t.And) ∷ (codes "OR", t.Or)
    ∷ (codes "NOT", t.Not) ∷ (codes "BETWEEN", t.Between) ∷ (codes "IN", t.In) ∷ (codes "IS", t.Is) ∷ (codes "NULL", t.Null)
    ∷ (codes "AS", t.As) ∷ (codes "COUNT", t.Count) ∷ (codes "MIN", t.Min) ∷ (codes "MAX", t.Max) ∷ (codes "SIGNED", t.Signed)
    ∷ (codes "BITS", t.Bits) ∷ (codes "MEM8", t.Mem8) ∷ (codes "MEM16", t.Mem16) ∷ (codes "MEM32", t.Mem32)
    ∷ (codes "DISTINCT", t.Distinct) ∷ (codes "HAVING", t.Having) ∷ []

-- the symbols of one byte
abbrev pub symbols : List (ℕ × Terminal)
symbols =
    (61, t.Equal) ∷ (60, t.Less) ∷ (62, t.Greater) ∷ (43, t.Plus) ∷ (45, t.Minus) ∷ (42, t.Star) ∷ (47, t.Slash)
    ∷ (40, t.LeftParen) ∷ (41, t.RightParen) ∷ (44, t.Comma) ∷ (46, t.Dot) ∷ (59, t.Semicolon) ∷ []

-- the symbols of two bytes
abbrev pub double_symbols : List (ℕ × ℕ × Terminal)
double_symbols = (60, 62, t.NotEqual) ∷ (60, 61, t.LessOrEqual) ∷ (62, 61, t.GreaterOrEqual) ∷ []

-- what the first entry whose word is this one, in any case, stands for
abbrev pub word_in : List (List ℕ × Terminal) → List ℕ → Option Terminal
word_in [] word = None
word_in (entry ∷ entries) word = if str_eq_ignore_ascii_case entry.0 word then Some entry.1 else word_in entries word

-- the reserved word that a word is, in any case
unfoldable pub reserved_word : List ℕ → Option Terminal
reserved_word word = word_in reserved_words word

-- what the first entry of this byte stands for
abbrev pub symbol_in : List (ℕ × Terminal) → ℕ → Option Terminal
symbol_in [] byte = None
symbol_in (entry ∷ entries) byte = if entry.0 == byte then Some entry.1 else symbol_in entries byte

-- the symbol that a byte is
unfoldable pub symbol : ℕ → Option Terminal
symbol byte = symbol_in symbols byte

-- what the first entry of these two bytes stands for
abbrev pub double_symbol_in : List (ℕ × ℕ × Terminal) → ℕ → ℕ → Option Terminal
double_symbol_in [] first second = None
double_symbol_in (entry ∷ entries) first second =
    if entry.0 == first && entry.1 == second then Some entry.2 else double_symbol_in entries first second

-- the symbol that two bytes are
unfoldable pub double_symbol : ℕ → ℕ → Option Terminal
double_symbol first second = double_symbol_in double_symbols first second
