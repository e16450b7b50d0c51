-- Every text has a tree or is refused: its tokens are read or refused, and where it has none it is refused at bytes that begin none.
use Rattle.std.proofs.Common.{◌≡◌, ℕ, ◌≤◌, List, length, Result, Ok, Err, refl, ◌⊎◌, inl, inr, ⊎_elim}
use Rattle.std.proofs.lemmas.Bool.Decides.{leb_tells}
use Rattle.om_parse.specs.declared.tree.Query.{Query}
use Rattle.om_parse.specs.declared.cursor.Stop.{Stop}
use Rattle.om_parse.specs.declared.cursor.Stop.TheVariants as stop
use Rattle.om_parse.specs.declared.fault.ParseFault.{ParseFault}
use Rattle.om_parse.specs.declared.fault.ParseFault.TheVariants as f
use Rattle.om_token.specs.Tokens.{AreTokens}
use Rattle.om_parse.specs.Grammar.{Tokens}
use Rattle.om_parse.specs.Refusals.{place_of, HasTree, IsRefusal, wide, bytes, token}
use Rattle.om_parse.specs.Reading as r
use Rattle.om_token.proofs.TokenLaws.{AreTokensOrNone, tokens_or_none}
use Rattle.om_parse.proofs.ParseLaws.{run_of, read_is_tree, read_is_refused}

abbrev pub IsTreeOrRefusal : List ℕ → Type 0
IsTreeOrRefusal text = ((query : Query) × HasTree text query) ⊎ ((fault : ParseFault) × IsRefusal text fault)

-- what the parser reads of the tokens is a tree, or tells a place: as a function on lists it never wants memory
read_or_refused : (text : List ℕ) (tokens : Tokens) → length text ≤ 16384 → AreTokens text tokens
    → (read : Result Query Stop) (rest : Tokens) → r.whole tokens ≡ (read, rest) → IsTreeOrRefusal text
read_or_refused text tokens short c (Ok query) rest e =
    inl (query, record { tokens = tokens; short = short; cut = c; tree = read_is_tree tokens query rest e })
read_or_refused text tokens short c (Err stop.Wrong) rest e =
    inr (f.Syntax (place_of (length text) rest), token short (record { tokens = tokens; rest = rest; cut = c; refused = read_is_refused tokens rest e; place = refl }))
read_or_refused text tokens short c (Err stop.NoMemory) rest e = absurd (run_of tokens (Err stop.NoMemory) rest e).told

-- a text that is not too long has a tree or is refused
short_text : (text : List ℕ) → length text ≤ 16384 → AreTokensOrNone text → IsTreeOrRefusal text
short_text text short (inl x) = read_or_refused text x.0 short x.1 (r.whole x.0).0 (r.whole x.0).1 refl
short_text text short (inr x) = inr (f.Syntax x.0, bytes short x.1)

pub tree_or_refusal : (text : List ℕ) → IsTreeOrRefusal text
tree_or_refusal text =
    ⊎_elim (λ h. short_text text h.1 (tokens_or_none text)) (λ h. inr (f.TooWide (length text), wide h.1)) (leb_tells (length text) 16384)
