-- What the parser reads is a tree of the tokens, and what it refuses is refused there: by the language alone, at one place.
use Rattle.std.proofs.Common.{◌≡◌, ℕ, suc, ◌≤◌, List, [], ◌∷◌, ◌++◌, length, Option, Some, None, Result, Ok, Err, refl, sym, ap, subst, ◌∙◌, append_assoc, arith, ◌⊎◌, inl, inr}
use Rattle.std.specs.Prelude.{IfOk, IfErr, ◌≢◌}
use Rattle.std.proofs.lemmas.List.{append-nil, length-append}
use Rattle.om_token.specs.declared.token.Token.{Token}
use Rattle.om_token.specs.declared.terminal.Terminal.TheVariants as t
use Rattle.om_token.specs.Tokens.{AreTokens}
use Rattle.om_token.proofs.TokenLaws.{one_token_list, one_bad_place, not_both_cut}
use Rattle.om_grammar.specs.declared.tree.Query.{Query}
use Rattle.om_grammar.specs.declared.stop.Stop.{Stop}
use Rattle.om_grammar.specs.declared.stop.Stop.TheVariants as stop
use Rattle.om_grammar.specs.declared.fault.ParseFault.{ParseFault}
use Rattle.om_grammar.specs.declared.fault.ParseFault.TheVariants as f
use Rattle.om_grammar.specs.Grammar.{Tokens, Lang, IsQuery}
use Rattle.om_grammar.specs.Depth.{IsShallow, IsTooDeep}
use Rattle.om_grammar.specs.Refusals.{Begins, Stops, IsRefused, place_of, IsMisplaced, HasTree, IsRefusal, wide, bytes, deep, token, Answers, IsTokenFault}
use Rattle.om_grammar.specs.Reading as r
use Rattle.om_grammar.specs.Reading.{offset_of, at_end}
use Rattle.om_grammar.specs.Parsers.{Step, Parser, go_on, ◌>>=◌, pure, found, passed, branched}
use Rattle.om_grammar.proofs.Runs.{Run, Again}
use Rattle.om_grammar.proofs.ReadsParts.{whole_runs}
use Rattle.om_grammar.proofs.TakesParts.{whole_takes}
use Rattle.om_grammar.proofs.DepthLaws.{one_too_deep, never_shallow}

-- ---- what is read to the end

abbrev Ends : {A : Type 0} → Parser A → Type 0
Ends {A} p = (tokens : Tokens) (x : A) (rest : Tokens) → p tokens ≡ (Ok x, rest) → rest ≡ []

go_ends : {A B : Type 0} (read : Result A Stop) (middle : Tokens) (p : A → Parser B) (x : B) (rest : Tokens) → ((y : A) → Ends (p y)) → go_on read middle p ≡ (Ok x, rest) → rest ≡ []
go_ends (Ok y) middle p x rest h e = h y middle x rest e
go_ends (Err s) middle p x rest h e =
    let g = ap (λ s. s.0) e in
    absurd cc

bind_ends : {A B : Type 0} (p : Parser A) (q : A → Parser B) → ((x : A) → Ends (q x)) → Ends (p >>= q)
bind_ends p q h tokens x rest e = go_ends (p tokens).0 (p tokens).1 q x rest h e

made_ends : {A B : Type 0} (read : Result A Stop) (middle : Tokens) (made : A → B) (x : B) (rest : Tokens) → ((y : A) → read ≡ Ok y → middle ≡ []) → go_on read middle (λ y. pure (made y)) ≡ (Ok x, rest) → rest ≡ []
made_ends (Ok y) middle made x rest h e = sym (ap (λ s. s.1) e) ∙ h y refl
made_ends (Err s) middle made x rest h e =
    let g = ap (λ s. s.0) e in
    absurd cc

map_ends : {A B : Type 0} (p : Parser A) (made : A → B) → Ends p → Ends (p >>= λ x. pure (made x))
map_ends p made h tokens x rest e = made_ends (p tokens).0 (p tokens).1 made x rest (λ y g. h tokens y (p tokens).1 (ap (λ read. (read, (p tokens).1)) g)) e

end_ends : Ends at_end
end_ends [] x rest e = sym (ap (λ s. s.1) e)
end_ends (next ∷ tokens) x rest e =
    let g = ap (λ s. s.0) e in
    absurd cc

branched_ends : {S A : Type 0} (seen : Option S) (more : S → Parser A) (other : Parser A) → ((s : S) → Ends (more s)) → Ends other → Ends (branched seen more other)
branched_ends (Some s) more other h g tokens x rest e = h s (passed tokens) x rest e
branched_ends None more other h g tokens x rest e = g tokens x rest e

closing_ends : Ends r.closing
unfolding r.closing
closing_ends tokens x rest e = branched_ends (found (offset_of t.Semicolon) tokens) (λ _. at_end) at_end (λ _. end_ends) end_ends tokens x rest e

sorting_ends : Ends r.sorting
unfolding r.sorting
sorting_ends =
    bind_ends (r.by t.Group r.column) (λ groups. r.by t.Order r.sort_key >>= λ keys. r.closing >>= λ _. pure (groups, keys))
    (λ groups. bind_ends (r.by t.Order r.sort_key) (λ keys. r.closing >>= λ _. pure (groups, keys)) (λ keys. map_ends r.closing (λ _. (groups, keys)) closing_ends))

whole_ends : (depth : ℕ) → Ends (r.whole depth)
unfolding r.whole
whole_ends depth =
    bind_ends (r.select_list depth) (λ items. r.from_clause >>= λ tables. r.filter depth >>= λ condition. r.sorting >>= λ sorts. pure (r.made items tables condition sorts))
    (λ items. bind_ends r.from_clause (λ tables. r.filter depth >>= λ condition. r.sorting >>= λ sorts. pure (r.made items tables condition sorts))
    (λ tables. bind_ends (r.filter depth) (λ condition. r.sorting >>= λ sorts. pure (r.made items tables condition sorts))
    (λ condition. map_ends r.sorting (r.made items tables condition) sorting_ends)))

-- ---- what the parser gives

pub run_of : (depth : ℕ) (tokens : Tokens) (read : Result Query Stop) (rest : Tokens) → r.whole depth tokens ≡ (read, rest) → Run (suc depth) (r.whole depth) IsQuery tokens read rest
run_of depth tokens read rest e = subst (λ (s : Step Query). Run (suc depth) (r.whole depth) IsQuery tokens s.0 s.1) e (whole_runs depth tokens)

pub read_is_tree : (depth : ℕ) (tokens : Tokens) (x : Query) (rest : Tokens) → r.whole depth tokens ≡ (Ok x, rest) → IsQuery tokens x
read_is_tree depth tokens x rest e =
    let run = run_of depth tokens (Ok x) rest e in
    let all : run.used ≡ tokens = sym (append-nil run.used) ∙ ap (λ (l : Tokens). run.used ++ l) (sym (whole_ends depth tokens x rest e)) ∙ sym run.split in
    subst (λ (l : Tokens). IsQuery l x) all run.told

-- a depth that is at least the number of tokens is enough
pub never_deep : (depth : ℕ) (tokens rest : Tokens) → length tokens ≤ depth → r.whole depth tokens ≡ (Err stop.Deep, rest) → ⊥
never_deep depth tokens rest h e =
    let run = run_of depth tokens (Err stop.Deep) rest e in
    let long : suc depth ≤ length run.used = run.told in
    absurd (omega (arith, h, long, ap length run.split, length-append run.used rest))

differ : (x : Query) (s : Stop) (a b : Tokens) → ◌≡◌ {A = Step Query} (Ok x, a) (Err s, b) → ⊥
differ x s a b e =
    let g = ap (λ (s : Step Query). s.0) e in
    cc

wrong_or_deep : (a b : Tokens) → ◌≡◌ {A = Step Query} (Err stop.Deep, a) (Err stop.Wrong, b) → ⊥
wrong_or_deep a b e =
    let g = ap (λ (s : Step Query). s.0) e in
    cc

-- a query is not refused, whatever the depth
not_wrong : (depth : ℕ) (tokens : Tokens) (x : Query) (rest : Tokens) → IsQuery tokens x → r.whole depth tokens ≡ (Err stop.Wrong, rest) → ⊥
not_wrong depth tokens x rest g e = go (whole_takes g depth)
  where
    go : (r.whole depth tokens ≡ (Ok x, [])) ⊎ ((other : Tokens) × (r.whole depth tokens ≡ (Err stop.Deep, other))) → ⊥
    go (inl h) = differ x stop.Wrong [] rest (sym h ∙ e)
    go (inr h) = wrong_or_deep h.0 rest (sym h.1 ∙ e)

-- with enough depth it is read
query_read : (tokens : Tokens) (x : Query) → IsQuery tokens x → r.whole (length tokens) tokens ≡ (Ok x, [])
query_read tokens x g = go (whole_takes g (length tokens))
  where
    go : (r.whole (length tokens) tokens ≡ (Ok x, [])) ⊎ ((other : Tokens) × (r.whole (length tokens) tokens ≡ (Err stop.Deep, other))) → r.whole (length tokens) tokens ≡ (Ok x, [])
    go (inl h) = h
    go (inr h) = absurd (never_deep (length tokens) tokens h.0 (omega arith) h.1)

stops_there : (depth : ℕ) (tokens used rest : Tokens) → tokens ≡ used ++ rest → r.whole depth tokens ≡ (Err stop.Wrong, rest) → Again (r.whole depth) used (Err stop.Wrong) rest → Stops IsQuery used rest
stops_there depth tokens used [] split e h = λ tree g. not_wrong depth used tree [] g (ap (r.whole depth) (sym (append-nil used) ∙ sym split) ∙ e)
stops_there depth tokens used (next ∷ rest) split e h = λ b. not_wrong depth ((used ++ next ∷ []) ++ b.0) b.1 (next ∷ b.0) b.2 (ap (r.whole depth) (append_assoc used (next ∷ []) b.0) ∙ h b.0)

pub read_is_refused : (depth : ℕ) (tokens rest : Tokens) → r.whole depth tokens ≡ (Err stop.Wrong, rest) → IsRefused IsQuery tokens rest
read_is_refused depth tokens rest e =
    let run = run_of depth tokens (Err stop.Wrong) rest e in
    record { used = run.used; split = run.split; viable = run.told; stops = stops_there depth tokens run.used rest run.split e run.again }

-- ---- one tree, one place, never both

pub one_tree_of_tokens : (tokens : Tokens) (a b : Query) → IsQuery tokens a → IsQuery tokens b → a ≡ b
one_tree_of_tokens tokens a b h g =
    let e : Ok a ≡ Ok b = ap (λ (s : Step Query). s.0) (sym (query_read tokens a h) ∙ query_read tokens b g) in
    cc

-- one list in two parts, and in two other parts
abbrev Longer : Tokens → Tokens → Tokens → Tokens → Type 0
Longer used rest used' rest' = (next : Token) × (v : Tokens) × (rest ≡ next ∷ (v ++ rest')) × (used' ≡ used ++ next ∷ v)

two_parts : (used rest used' rest' : Tokens) → used ++ rest ≡ used' ++ rest' → (rest ≡ rest') ⊎ (Longer used rest used' rest' ⊎ Longer used' rest' used rest)
two_parts [] rest [] rest' e = inl e
two_parts [] rest (y ∷ used') rest' e = inr (inl (y, used', e, refl))
two_parts (x ∷ used) rest [] rest' e = inr (inr (x, used, sym e, refl))
two_parts (x ∷ used) rest (y ∷ used') rest' e = go (two_parts used rest used' rest' cc)
  where
    same : x ≡ y
    same = cc

    go : (rest ≡ rest') ⊎ (Longer used rest used' rest' ⊎ Longer used' rest' used rest) → (rest ≡ rest') ⊎ (Longer (x ∷ used) rest (y ∷ used') rest' ⊎ Longer (y ∷ used') rest' (x ∷ used) rest)
    go (inl h) = inl h
    go (inr (inl h)) = inr (inl (h.0, h.1, h.2, rw same (ap (λ (l : Tokens). y ∷ l) h.3)))
    go (inr (inr h)) = inr (inr (h.0, h.1, h.2, rw same (ap (λ (l : Tokens). y ∷ l) h.3)))

-- nothing goes on past the place of a refusal
no_further : {A : Type 0} (L : Lang A) (used rest used' rest' : Tokens) → Stops L used rest → Begins L used' → Longer used rest used' rest' → ⊥
no_further L used [] used' rest' h b l =
    let e = l.2 in
    absurd cc
no_further {A} L used (first ∷ rest) used' rest' h b l =
    let same : first ≡ l.0 = cc in
    let begun = subst (λ (k : Tokens). Begins L k) l.3 b in
    let go_on : (used ++ l.0 ∷ l.1) ++ begun.0 ≡ (used ++ l.0 ∷ []) ++ (l.1 ++ begun.0) =
    append_assoc used (l.0 ∷ l.1) begun.0 ∙ sym (append_assoc used (l.0 ∷ []) (l.1 ++ begun.0)) in
    (subst (λ (k : Token). Begins L (used ++ k ∷ []) → ⊥) same h) (l.1 ++ begun.0, begun.1, subst (λ (k : Tokens). L k begun.1) go_on begun.2)

pub one_place : {A : Type 0} (L : Lang A) (tokens rest rest' : Tokens) → IsRefused L tokens rest → IsRefused L tokens rest' → rest ≡ rest'
one_place L tokens rest rest' h g = go (two_parts h.used rest g.used rest' (sym h.split ∙ g.split))
  where
    go : (rest ≡ rest') ⊎ (Longer h.used rest g.used rest' ⊎ Longer g.used rest' h.used rest) → rest ≡ rest'
    go (inl e) = e
    go (inr (inl l)) = absurd (no_further L h.used rest g.used rest' h.stops g.viable l)
    go (inr (inr l)) = absurd (no_further L g.used rest' h.used rest g.stops h.viable l)

never_here : {A : Type 0} (L : Lang A) (tokens used rest : Tokens) (x : A) → tokens ≡ used ++ rest → Stops L used rest → L tokens x → ⊥
never_here L tokens used [] x e h g = h x (subst (λ (k : Tokens). L k x) (e ∙ append-nil used) g)
never_here L tokens used (next ∷ rest) x e h g = h (rest, x, subst (λ (k : Tokens). L k x) (e ∙ sym (append_assoc used (next ∷ []) rest)) g)

pub never_both_of_tokens : {A : Type 0} (L : Lang A) (tokens rest : Tokens) (x : A) → IsRefused L tokens rest → L tokens x → ⊥
never_both_of_tokens L tokens rest x h g = never_here L tokens h.used rest x h.split h.stops g

-- ---- the same of a text

pub one_tree : (text : List ℕ) (a b : Query) → HasTree text a → HasTree text b → a ≡ b
one_tree text a b h g = one_tree_of_tokens h.tokens a b h.tree (subst (λ (k : Tokens). IsQuery k b) (one_token_list text g.tokens h.tokens g.cut h.cut) g.tree)

same_place : (text : List ℕ) (m n : ℕ) → IsMisplaced text m → IsMisplaced text n → m ≡ n
same_place text m n h g =
    let moved = subst (λ (k : Tokens). IsRefused IsQuery k g.rest) (one_token_list text g.tokens h.tokens g.cut h.cut) g.refused in
    let rest = one_place IsQuery h.tokens h.rest g.rest h.refused moved in
    h.place ∙ ap (place_of (length text)) rest ∙ sym g.place

-- what a text has no two of
shallow_not_deep : (text : List ℕ) (a b : Tokens) (at : ℕ) → AreTokens text a → AreTokens text b → IsShallow a → IsTooDeep b at → ⊥
shallow_not_deep text a b at h g s d = never_shallow a at (subst (λ (l : Tokens). IsTooDeep l at) (one_token_list text b a g h) d) s

same_depth : (text : List ℕ) (a b : Tokens) (m n : ℕ) → AreTokens text a → AreTokens text b → IsTooDeep a m → IsTooDeep b n → m ≡ n
same_depth text a b m n h g d k = one_too_deep a m n d (subst (λ (l : Tokens). IsTooDeep l n) (one_token_list text b a g h) k)

pub one_refusal : (text : List ℕ) (a b : ParseFault) → IsRefusal text a → IsRefusal text b → a ≡ b
one_refusal text a b (wide h) (wide g) = refl
one_refusal text a b (wide h) (bytes g k) = absurd (omega arith)
one_refusal text a b (wide h) (deep g c d) = absurd (omega arith)
one_refusal text a b (wide h) (token g k) = absurd (omega arith)
one_refusal text a b (bytes h j) (wide g) = absurd (omega arith)
one_refusal text a b (deep h c d) (wide g) = absurd (omega arith)
one_refusal text a b (token h j) (wide g) = absurd (omega arith)
one_refusal text a b (bytes {at = m} h j) (bytes {at = n} g k) = ap f.Syntax (one_bad_place text m n j k)
one_refusal text a b (bytes {at = m} h j) (deep {tokens = tokens} g c d) = absurd (not_both_cut text tokens m c j)
one_refusal text a b (bytes {at = m} h j) (token g k) = absurd (not_both_cut text k.tokens m k.cut j)
one_refusal text a b (deep {tokens = tokens} h c d) (bytes {at = n} g k) = absurd (not_both_cut text tokens n c k)
one_refusal text a b (deep {tokens = l} {at = m} h c d) (deep {tokens = k} {at = n} g j i) = ap f.TooDeep (same_depth text l k m n c j d i)
one_refusal text a b (deep {tokens = tokens} {at = m} h c d) (token g k) = absurd (shallow_not_deep text k.tokens tokens m k.cut c k.shallow d)
one_refusal text a b (token h j) (bytes {at = n} g k) = absurd (not_both_cut text j.tokens n j.cut k)
one_refusal text a b (token h j) (deep {tokens = tokens} {at = n} g c d) = absurd (shallow_not_deep text j.tokens tokens n j.cut c j.shallow d)
one_refusal text a b (token {at = m} h j) (token {at = n} g k) = ap f.Syntax (same_place text m n j k)

pub never_both : (text : List ℕ) (query : Query) (fault : ParseFault) → HasTree text query → IsRefusal text fault → ⊥
never_both text query fault h (wide g) = absurd (omega (arith, h.short))
never_both text query fault h (bytes {at = at} g k) = not_both_cut text h.tokens at h.cut k
never_both text query fault h (deep {tokens = tokens} {at = at} g c d) = shallow_not_deep text h.tokens tokens at h.cut c h.shallow d
never_both text query fault h (token g k) =
    never_both_of_tokens IsQuery h.tokens k.rest query (subst (λ (l : Tokens). IsRefused IsQuery l k.rest) (one_token_list text k.tokens h.tokens k.cut h.cut) k.refused) h.tree

-- ---- what a call answers

pub finds : (text : List ℕ) (result : Result Query ParseFault) → IfOk result (λ query. HasTree text query) → IfErr result (λ fault. fault ≢ f.NoMemory → IsRefusal text fault)
    → (query : Query) → HasTree text query → Answers result (Ok query)
finds text (Ok x) h g query t = inl (ap Ok (one_tree text x query h t))
finds text (Err f.NoMemory) h g query t = inr refl
finds text (Err (f.Syntax at)) h g query t = absurd (never_both text query (f.Syntax at) t (g (λ e. cc)))
finds text (Err (f.TooWide n)) h g query t = absurd (never_both text query (f.TooWide n) t (g (λ e. cc)))
finds text (Err (f.TooDeep at)) h g query t = absurd (never_both text query (f.TooDeep at) t (g (λ e. cc)))

pub refuses : (text : List ℕ) (result : Result Query ParseFault) → IfOk result (λ query. HasTree text query) → IfErr result (λ fault. fault ≢ f.NoMemory → IsRefusal text fault)
    → (fault : ParseFault) → IsRefusal text fault → Answers result (Err fault)
refuses text (Ok x) h g fault t = absurd (never_both text x fault h t)
refuses text (Err f.NoMemory) h g fault t = inr refl
refuses text (Err (f.Syntax at)) h g fault t = inl (ap Err (one_refusal text (f.Syntax at) fault (g (λ e. cc)) t))
refuses text (Err (f.TooWide n)) h g fault t = inl (ap Err (one_refusal text (f.TooWide n) fault (g (λ e. cc)) t))
refuses text (Err (f.TooDeep at)) h g fault t = inl (ap Err (one_refusal text (f.TooDeep at) fault (g (λ e. cc)) t))

pub token_is_refused : (text : List ℕ) (tokens : Tokens) (result : Result Query ParseFault) → length text ≤ 16384 → AreTokens text tokens → IsShallow tokens
    → IfErr result (λ fault. IsTokenFault tokens (length text) fault) → IfErr result (λ fault. fault ≢ f.NoMemory → IsRefusal text fault)
token_is_refused text tokens (Ok x) short cut shallow h = tt
token_is_refused text tokens (Err f.NoMemory) short cut shallow h = λ n. absurd (n refl)
token_is_refused text tokens (Err (f.Syntax at)) short cut shallow h = λ n. token short (record { tokens = tokens; rest = h.0; cut = cut; shallow = shallow; refused = h.1; place = h.2 })
token_is_refused text tokens (Err (f.TooWide k)) short cut shallow h = absurd h
token_is_refused text tokens (Err (f.TooDeep k)) short cut shallow h = absurd h
