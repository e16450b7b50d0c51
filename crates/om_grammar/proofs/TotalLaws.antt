-- Every text has a tree or is refused: its tokens nest too deep, or are read, or refused.
use Rattle.std.proofs.Common.{◌≡◌, ℕ, ◌≤◌, List, length, Result, Ok, Err, refl, arith, ◌⊎◌, inl, inr, ⊎_elim}
use Rattle.std.proofs.lemmas.Bool.Decides.{leb_tells}
use Rattle.om_token.specs.Tokens.{AreTokens}
use Rattle.om_token.proofs.TokenLaws.{AreTokensOrNone, tokens_or_none}
use Rattle.om_grammar.specs.declared.tree.Query.{Query}
use Rattle.om_grammar.specs.declared.stop.Stop.{Stop}
use Rattle.om_grammar.specs.declared.stop.Stop.TheVariants as stop
use Rattle.om_grammar.specs.declared.fault.ParseFault.{ParseFault}
use Rattle.om_grammar.specs.declared.fault.ParseFault.TheVariants as f
use Rattle.om_grammar.specs.Grammar.{Tokens}
use Rattle.om_grammar.specs.Depth.{IsShallow, IsTooDeep}
use Rattle.om_grammar.specs.Refusals.{place_of, HasTree, IsRefusal, wide, bytes, deep, token}
use Rattle.om_grammar.specs.Reading as r
use Rattle.om_grammar.proofs.DepthLaws.{shallow_or_deep}
use Rattle.om_grammar.proofs.ParseLaws.{run_of, read_is_tree, read_is_refused, never_deep}

abbrev pub IsTreeOrRefusal : List ℕ → Type 0
IsTreeOrRefusal text = ((query : Query) × HasTree text query) ⊎ ((fault : ParseFault) × IsRefusal text fault)

-- what the parser reads of the tokens is a tree, or tells a place: as a function on lists it never wants memory
read_or_refused : (text : List ℕ) (tokens : Tokens) → length text ≤ 16384 → AreTokens text tokens → IsShallow tokens
    → (read : Result Query Stop) (rest : Tokens) → r.whole (length tokens) tokens ≡ (read, rest) → IsTreeOrRefusal text
read_or_refused text tokens short c s (Ok query) rest e =
    inl (query, record { tokens = tokens; short = short; cut = c; shallow = s; tree = read_is_tree (length tokens) tokens query rest e })
read_or_refused text tokens short c s (Err stop.Wrong) rest e =
    inr (f.Syntax (place_of (length text) rest), token short (record { tokens = tokens; rest = rest; cut = c; shallow = s; refused = read_is_refused (length tokens) tokens rest e; place = refl }))
read_or_refused text tokens short c s (Err stop.Deep) rest e = absurd (never_deep (length tokens) tokens rest (omega arith) e)
read_or_refused text tokens short c s (Err stop.NoMemory) rest e = absurd (run_of (length tokens) tokens (Err stop.NoMemory) rest e).told

cut_text : (text : List ℕ) (tokens : Tokens) → length text ≤ 16384 → AreTokens text tokens → IsShallow tokens ⊎ ((at : ℕ) × IsTooDeep tokens at) → IsTreeOrRefusal text
cut_text text tokens short c (inl s) = read_or_refused text tokens short c s (r.whole (length tokens) tokens).0 (r.whole (length tokens) tokens).1 refl
cut_text text tokens short c (inr d) = inr (f.TooDeep d.0, deep short c d.1)

-- a text that is not too long has a tree or is refused
short_text : (text : List ℕ) → length text ≤ 16384 → AreTokensOrNone text → IsTreeOrRefusal text
short_text text short (inl x) = cut_text text x.0 short x.1 (shallow_or_deep x.0)
short_text text short (inr x) = inr (f.Syntax x.0, bytes short x.1)

pub tree_or_refusal : (text : List ℕ) → IsTreeOrRefusal text
tree_or_refusal text =
    ⊎_elim (λ h. short_text text h.1 (tokens_or_none text)) (λ h. inr (f.TooWide (length text), wide h.1)) (leb_tells (length text) 16384)
