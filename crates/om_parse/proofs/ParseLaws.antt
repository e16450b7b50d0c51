-- What the parser reads is a tree of the tokens, and what it refuses is refused there: by the language alone, at one place.
use Rattle.std.proofs.Common.{◌≡◌, ℕ, ◌≤◌, List, [], ◌∷◌, ◌++◌, length, Result, Ok, Err, refl, sym, ap, subst, ◌∙◌, append_assoc, arith, ◌⊎◌, inl, inr}
use Rattle.std.specs.Prelude.{IfOk, IfErr, ◌≢◌}
use Rattle.std.proofs.lemmas.List.{append-nil}
use Rattle.om_token.specs.declared.token.Token.{Token}
use Rattle.om_parse.specs.declared.tree.Query.{Query}
use Rattle.om_parse.specs.declared.cursor.Stop.{Stop}
use Rattle.om_parse.specs.declared.cursor.Stop.TheVariants as stop
use Rattle.om_parse.specs.declared.fault.ParseFault.{ParseFault}
use Rattle.om_parse.specs.declared.fault.ParseFault.TheVariants as f
use Rattle.om_token.specs.Tokens.{AreTokens}
use Rattle.om_parse.specs.Grammar.{Tokens, Lang, IsQuery}
use Rattle.om_parse.specs.Refusals.{Begins, Stops, IsRefused, place_of, IsMisplaced, HasTree, IsRefusal, wide, bytes, token, Answers}
use Rattle.om_parse.specs.Reading as r
use Rattle.om_parse.specs.Reading.{IsTokenFault, Step, Parser, go_on, and_then, ◌>>=◌, pure}
use Rattle.om_parse.proofs.Runs.{Run, Again}
use Rattle.om_parse.proofs.Productions.{whole_runs}
use Rattle.om_parse.proofs.Takes.{whole_takes}
use Rattle.om_token.proofs.TokenLaws.{one_token_list, one_bad_place, not_both_cut}

-- ---- what the parser gives

end_at : (query : Query) (tokens : Tokens) (x : Query) (rest : Tokens) → (r.end >>= λ nothing. pure query) tokens ≡ (Ok x, rest) → rest ≡ []
unfolding r.end
end_at query [] x rest e = sym (ap (λ (s : Step Query). s.1) e)
end_at query (next ∷ tokens) x rest e =
    let g = ap (λ (s : Step Query). s.0) e in
    absurd cc

whole_go : (read : Result Query Stop) (middle : Tokens) (x : Query) (rest : Tokens) → go_on read middle (λ it. r.end >>= λ nothing. pure it) ≡ (Ok x, rest) → rest ≡ []
whole_go (Ok query) middle x rest e = end_at query middle x rest e
whole_go (Err s) middle x rest e =
    let g = ap (λ (s : Step Query). s.0) e in
    absurd cc

whole_ends : (tokens : Tokens) (x : Query) (rest : Tokens) → r.whole tokens ≡ (Ok x, rest) → rest ≡ []
unfolding r.whole
whole_ends tokens x rest e = whole_go (r.query tokens).0 (r.query tokens).1 x rest e

pub run_of : (tokens : Tokens) (read : Result Query Stop) (rest : Tokens) → r.whole tokens ≡ (read, rest) → Run r.whole IsQuery tokens read rest
run_of tokens read rest e = subst (λ (s : Step Query). Run r.whole IsQuery tokens s.0 s.1) e (whole_runs tokens)

pub read_is_tree : (tokens : Tokens) (x : Query) (rest : Tokens) → r.whole tokens ≡ (Ok x, rest) → IsQuery tokens x
read_is_tree tokens x rest e =
    let run = run_of tokens (Ok x) rest e in
    let all : run.used ≡ tokens = sym (append-nil run.used) ∙ ap (λ (l : Tokens). run.used ++ l) (sym (whole_ends tokens x rest e)) ∙ sym run.split in
    subst (λ (l : Tokens). IsQuery l x) all run.told

differ : (x : Query) (s : Stop) (a b : Tokens) → ◌≡◌ {A = Step Query} (Ok x, a) (Err s, b) → ⊥
differ x s a b e =
    let g = ap (λ (s : Step Query). s.0) e in
    cc

stops_there : (tokens used rest : Tokens) → tokens ≡ used ++ rest → r.whole tokens ≡ (Err stop.Wrong, rest) → Again r.whole used (Err stop.Wrong) rest → Stops IsQuery used rest
stops_there tokens used [] split e h = λ tree g.
    differ tree stop.Wrong [] [] (sym (whole_takes g) ∙ ap r.whole (sym (append-nil used) ∙ sym split) ∙ e)
stops_there tokens used (next ∷ rest) split e h = λ b.
    differ b.1 stop.Wrong [] (next ∷ b.0) (sym (whole_takes b.2) ∙ ap r.whole (append_assoc used (next ∷ []) b.0) ∙ h b.0)

pub read_is_refused : (tokens rest : Tokens) → r.whole tokens ≡ (Err stop.Wrong, rest) → IsRefused IsQuery tokens rest
read_is_refused tokens rest e =
    let run = run_of tokens (Err stop.Wrong) rest e in
    record { used = run.used; split = run.split; viable = run.told; stops = stops_there tokens run.used rest run.split e run.again }

-- ---- one tree, one place, never both

pub one_tree_of_tokens : (tokens : Tokens) (a b : Query) → IsQuery tokens a → IsQuery tokens b → a ≡ b
one_tree_of_tokens tokens a b h g =
    let e : Ok a ≡ Ok b = ap (λ (s : Step Query). s.0) (sym (whole_takes h) ∙ whole_takes g) in
    cc

-- one list in two parts, and in two other parts
abbrev Longer : Tokens → Tokens → Tokens → Tokens → Type 0
Longer used rest used' rest' = (next : Token) × (v : Tokens) × (rest ≡ next ∷ (v ++ rest')) × (used' ≡ used ++ next ∷ v)

two_parts : (used rest used' rest' : Tokens) → used ++ rest ≡ used' ++ rest' → (rest ≡ rest') ⊎ (Longer used rest used' rest' ⊎ Longer used' rest' used rest)
two_parts [] rest [] rest' e = inl e
two_parts [] rest (y ∷ used') rest' e = inr (inl (y, used', e, refl))
two_parts (x ∷ used) rest [] rest' e = inr (inr (x, used, sym e, refl))
two_parts (x ∷ used) rest (y ∷ used') rest' e = go (two_parts used rest used' rest' cc)
  where
    same : x ≡ y
    same = cc

    go : (rest ≡ rest') ⊎ (Longer used rest used' rest' ⊎ Longer used' rest' used rest) → (rest ≡ rest') ⊎ (Longer (x ∷ used) rest (y ∷ used') rest' ⊎ Longer (y ∷ used') rest' (x ∷ used) rest)
    go (inl h) = inl h
    go (inr (inl h)) = inr (inl (h.0, h.1, h.2, rw same (ap (λ (l : Tokens). y ∷ l) h.3)))
    go (inr (inr h)) = inr (inr (h.0, h.1, h.2, rw same (ap (λ (l : Tokens). y ∷ l) h.3)))

-- nothing goes on past the place of a refusal
no_further : {A : Type 0} (L : Lang A) (used rest used' rest' : Tokens) → Stops L used rest → Begins L used' → Longer used rest used' rest' → ⊥
no_further L used [] used' rest' h b l =
    let e = l.2 in
    absurd cc
no_further {A} L used (first ∷ rest) used' rest' h b l =
    let same : first ≡ l.0 = cc in
    let begun = subst (λ (k : Tokens). Begins L k) l.3 b in
    let go_on : (used ++ l.0 ∷ l.1) ++ begun.0 ≡ (used ++ l.0 ∷ []) ++ (l.1 ++ begun.0) =
    append_assoc used (l.0 ∷ l.1) begun.0 ∙ sym (append_assoc used (l.0 ∷ []) (l.1 ++ begun.0)) in
    (subst (λ (k : Token). Begins L (used ++ k ∷ []) → ⊥) same h) (l.1 ++ begun.0, begun.1, subst (λ (k : Tokens). L k begun.1) go_on begun.2)

pub one_place : {A : Type 0} (L : Lang A) (tokens rest rest' : Tokens) → IsRefused L tokens rest → IsRefused L tokens rest' → rest ≡ rest'
one_place L tokens rest rest' h g = go (two_parts h.used rest g.used rest' (sym h.split ∙ g.split))
  where
    go : (rest ≡ rest') ⊎ (Longer h.used rest g.used rest' ⊎ Longer g.used rest' h.used rest) → rest ≡ rest'
    go (inl e) = e
    go (inr (inl l)) = absurd (no_further L h.used rest g.used rest' h.stops g.viable l)
    go (inr (inr l)) = absurd (no_further L g.used rest' h.used rest g.stops h.viable l)

never_here : {A : Type 0} (L : Lang A) (tokens used rest : Tokens) (x : A) → tokens ≡ used ++ rest → Stops L used rest → L tokens x → ⊥
never_here L tokens used [] x e h g = h x (subst (λ (k : Tokens). L k x) (e ∙ append-nil used) g)
never_here L tokens used (next ∷ rest) x e h g = h (rest, x, subst (λ (k : Tokens). L k x) (e ∙ sym (append_assoc used (next ∷ []) rest)) g)

pub never_both_of_tokens : {A : Type 0} (L : Lang A) (tokens rest : Tokens) (x : A) → IsRefused L tokens rest → L tokens x → ⊥
never_both_of_tokens L tokens rest x h g = never_here L tokens h.used rest x h.split h.stops g

-- ---- the same of a text

pub one_tree : (text : List ℕ) (a b : Query) → HasTree text a → HasTree text b → a ≡ b
one_tree text a b h g = one_tree_of_tokens h.tokens a b h.tree (subst (λ (k : Tokens). IsQuery k b) (one_token_list text g.tokens h.tokens g.cut h.cut) g.tree)

same_place : (text : List ℕ) (m n : ℕ) → IsMisplaced text m → IsMisplaced text n → m ≡ n
same_place text m n h g =
    let moved = subst (λ (k : Tokens). IsRefused IsQuery k g.rest) (one_token_list text g.tokens h.tokens g.cut h.cut) g.refused in
    let rest = one_place IsQuery h.tokens h.rest g.rest h.refused moved in
    h.place ∙ ap (place_of (length text)) rest ∙ sym g.place

pub one_refusal : (text : List ℕ) (a b : ParseFault) → IsRefusal text a → IsRefusal text b → a ≡ b
one_refusal text a b (wide h) (wide g) = refl
one_refusal text a b (wide h) (bytes g k) = absurd (omega arith)
one_refusal text a b (wide h) (token g k) = absurd (omega arith)
one_refusal text a b (bytes h j) (wide g) = absurd (omega arith)
one_refusal text a b (token h j) (wide g) = absurd (omega arith)
one_refusal text a b (bytes {at = m} h j) (bytes {at = n} g k) = ap f.Syntax (one_bad_place text m n j k)
one_refusal text a b (bytes {at = m} h j) (token g k) = absurd (not_both_cut text k.tokens m k.cut j)
one_refusal text a b (token h j) (bytes {at = n} g k) = absurd (not_both_cut text j.tokens n j.cut k)
one_refusal text a b (token {at = m} h j) (token {at = n} g k) = ap f.Syntax (same_place text m n j k)

pub never_both : (text : List ℕ) (query : Query) (fault : ParseFault) → HasTree text query → IsRefusal text fault → ⊥
never_both text query fault h (wide g) = absurd (omega (arith, h.short))
never_both text query fault h (bytes {at = at} g k) = not_both_cut text h.tokens at h.cut k
never_both text query fault h (token g k) =
    never_both_of_tokens IsQuery h.tokens k.rest query (subst (λ (l : Tokens). IsRefused IsQuery l k.rest) (one_token_list text k.tokens h.tokens k.cut h.cut) k.refused) h.tree

-- ---- what a call answers

pub finds : (text : List ℕ) (result : Result Query ParseFault) → IfOk result (λ query. HasTree text query) → IfErr result (λ fault. fault ≢ f.NoMemory → IsRefusal text fault)
    → (query : Query) → HasTree text query → Answers result (Ok query)
finds text (Ok x) h g query t = inl (ap Ok (one_tree text x query h t))
finds text (Err f.NoMemory) h g query t = inr refl
finds text (Err (f.Syntax at)) h g query t = absurd (never_both text query (f.Syntax at) t (g (λ e. cc)))
finds text (Err (f.TooWide n)) h g query t = absurd (never_both text query (f.TooWide n) t (g (λ e. cc)))

pub refuses : (text : List ℕ) (result : Result Query ParseFault) → IfOk result (λ query. HasTree text query) → IfErr result (λ fault. fault ≢ f.NoMemory → IsRefusal text fault)
    → (fault : ParseFault) → IsRefusal text fault → Answers result (Err fault)
refuses text (Ok x) h g fault t = absurd (never_both text x fault h t)
refuses text (Err f.NoMemory) h g fault t = inr refl
refuses text (Err (f.Syntax at)) h g fault t = inl (ap Err (one_refusal text (f.Syntax at) fault (g (λ e. cc)) t))
refuses text (Err (f.TooWide n)) h g fault t = inl (ap Err (one_refusal text (f.TooWide n) fault (g (λ e. cc)) t))

pub token_is_refused : (text : List ℕ) (tokens : Tokens) (result : Result Query ParseFault) → length text ≤ 16384 → AreTokens text tokens → IfErr result (λ fault. IsTokenFault tokens (length text) fault)
    → IfErr result (λ fault. fault ≢ f.NoMemory → IsRefusal text fault)
token_is_refused text tokens (Ok x) short cut h = tt
token_is_refused text tokens (Err f.NoMemory) short cut h = λ n. absurd (n refl)
token_is_refused text tokens (Err (f.Syntax at)) short cut h = λ n. token short (record { tokens = tokens; rest = h.0; cut = cut; refused = h.1; place = h.2 })
token_is_refused text tokens (Err (f.TooWide k)) short cut h = absurd h
