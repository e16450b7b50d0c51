-- The two counts that tell whether the next token nests too deep: how many parentheses are open, and how long the run is that
-- ends before it.
use Rattle.std.specs.Prelude.{ℕ, suc, Bool, leb, ◌&&◌, ◌||◌, [], ◌∷◌, Option, Some, None, if◌then◌else◌}
use Rattle.om_token.specs.declared.terminal.Terminal.TheVariants as t
use Rattle.om_token.specs.declared.token.Token.{Token}
use Rattle.om_grammar.specs.Grammar.{Tokens}
use Rattle.om_grammar.specs.Reading.{is}
use Rattle.om_grammar.specs.Depth.{runs_on, closed}

-- how many parentheses are open behind a token
abbrev pub parens_behind : ℕ → Token → ℕ
parens_behind parens token = if is t.LeftParen token.kind then suc parens else (if is t.RightParen token.kind then closed parens else parens)

-- how long the run is that ends with a token
abbrev pub run_behind : ℕ → Token → ℕ
run_behind run token = if runs_on token then suc run else 0

-- behind so many open parentheses and so long a run this token nests too deep
abbrev pub is_past : ℕ → ℕ → Token → Bool
is_past parens run token = is t.LeftParen token.kind && leb 64 parens || runs_on token && leb 64 run

-- where the first token begins that does, behind so many open parentheses and so long a run
abbrev pub first_past : ℕ → ℕ → Tokens → Option ℕ
first_past parens run [] = None
first_past parens run (token ∷ tokens) =
    if is_past parens run token
    then Some token.at
    else first_past (parens_behind parens token) (run_behind run token) tokens
