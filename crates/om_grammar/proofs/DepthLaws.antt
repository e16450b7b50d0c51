-- Tokens that nest too deep: the first is the only first, and there is one or none.
use Rattle.std.proofs.Common.{◌≡◌, ◌⊎◌, ℕ, suc, ◌+◌, ◌-◌, ◌≤◌, true, false, cond, leb, ◌&&◌, [], ◌∷◌, ◌++◌, length, take, drop, Option, Some, None, refl, sym, ap, subst, ◌∙◌, inl, inr, append_assoc, arith, length-append}
use Rattle.std.specs.List.{list_all}
use Rattle.std.specs.Option.{MatchOption}
use Rattle.std.proofs.lemmas.Bool.{cases_Bool, and_parts, and_from, or_cases, or_left, or_right, leb-true, le-leb}
use Rattle.std.proofs.lemmas.List.{append-nil, take-append-drop, length-drop}
use Rattle.std.proofs.lemmas.List.Folds.{list_all-append}
use Rattle.om_token.specs.declared.terminal.Terminal.TheVariants as t
use Rattle.om_token.specs.declared.token.Token.{Token}
use Rattle.om_grammar.specs.Grammar.{Tokens}
use Rattle.om_grammar.specs.Reading.{is}
use Rattle.om_grammar.specs.Depth.{runs_on, opened, EndsInRun, GoesTooDeep, parenthesis, run as in_run, IsShallow, IsTooDeep}
use Rattle.om_grammar.specs.Counts.{parens_behind, run_behind, is_past, first_past}

-- ---- one list cut in two places

-- the second place is in the front of the first cut, or behind it
data AreCuts (a b c d : Tokens) : Type 0 where
  inside : (between : Tokens) → a ≡ c ++ between → d ≡ between ++ b → AreCuts a b c d
  beyond : (between : Tokens) → c ≡ a ++ between → b ≡ between ++ d → AreCuts a b c d

one_more : (x y : Token) (a b c d : Tokens) → x ≡ y → AreCuts a b c d → AreCuts (x ∷ a) b (y ∷ c) d
one_more x y a b c d e (inside between g h) = inside between (cc) h
one_more x y a b c d e (beyond between g h) = beyond between (cc) h

cuts : (a b c d : Tokens) → a ++ b ≡ c ++ d → AreCuts a b c d
cuts [] b c d e = beyond c refl e
cuts (x ∷ a) b [] d e = inside (x ∷ a) refl (sym e)
cuts (x ∷ a) b (y ∷ c) d e = one_more x y a b c d (cc) (cuts a b c d (cc))

-- ---- counts

-- how long the run is at the end of tokens, behind a run of so many
ran : ℕ → Tokens → ℕ
ran n [] = n
ran n (token ∷ tokens) = ran (run_behind n token) tokens

opened-append : (n : ℕ) (a b : Tokens) → opened n (a ++ b) ≡ opened (opened n a) b
opened-append n [] b = refl
opened-append n (token ∷ a) b = opened-append (parens_behind n token) a b

ran-append : (n : ℕ) (a b : Tokens) → ran n (a ++ b) ≡ ran (ran n a) b
unfolding ran
ran-append n [] b = refl
ran-append n (token ∷ a) b = ran-append (run_behind n token) a b

-- a run counts whole
ran_all : (n : ℕ) (run : Tokens) → list_all runs_on run ≡ true → n + length run ≤ ran n run
unfolding ran
ran_all n [] e = omega arith
ran_all n (token ∷ run) e =
    let parts = and_parts (runs_on token) (list_all runs_on run) e in
    let more : suc n + length run ≤ ran (suc n) run = ran_all (suc n) run parts.1 in
    let same : ran (run_behind n token) run ≡ ran (suc n) run = ap (λ b. ran (cond b (suc n) 0) run) parts.0 in
    omega arith

-- ---- what the counts tell

-- behind tokens that all make a run, the end of others is a run so long
record HasEnding (before tokens : Tokens) : Type 0 where
  front : Tokens
  run : Tokens
  split : before ++ tokens ≡ front ++ run
  all : list_all runs_on run ≡ true
  long : length run ≡ ran (length before) tokens

longer_run : (before : Tokens) (token : Token) (tokens : Tokens) → runs_on token ≡ true → HasEnding (before ++ token ∷ []) tokens → HasEnding before (token ∷ tokens)
unfolding ran
longer_run before token tokens h more =
    let n : length (before ++ token ∷ []) ≡ length before + 1 = length-append before (token ∷ []) in
    let m : run_behind (length before) token ≡ suc (length before) = ap (λ b. cond b (suc (length before)) 0) h in
    let same : length (before ++ token ∷ []) ≡ run_behind (length before) token = omega arith in
    record {
      front = more.front;
      run = more.run;
      split = sym (append_assoc before (token ∷ []) tokens) ∙ more.split;
      all = more.all;
      long = more.long ∙ ap (λ k. ran k tokens) same;
    }

another_run : (before : Tokens) (token : Token) (tokens : Tokens) → runs_on token ≡ false → HasEnding [] tokens → HasEnding before (token ∷ tokens)
unfolding ran
another_run before token tokens h more = record {
  front = before ++ token ∷ more.front;
  run = more.run;
  split = ap (λ l. before ++ token ∷ l) more.split ∙ sym (append_assoc before (token ∷ more.front) more.run);
  all = more.all;
  long = more.long ∙ sym (ap (λ b. ran (cond b (suc (length before)) 0) tokens) h);
}

ending : (before tokens : Tokens) → list_all runs_on before ≡ true → HasEnding before tokens
unfolding ran
ending before [] e = record { front = []; run = before; split = append-nil before; all = e; long = refl }
ending before (token ∷ tokens) e =
    elim (cases_Bool (runs_on token)) [
      | inl h ↦ longer_run before token tokens h (ending (before ++ token ∷ []) tokens (list_all-append runs_on before (token ∷ []) ∙ and_from _ _ e (and_from _ _ h refl)))
      | inr h ↦ another_run before token tokens h (ending [] tokens refl)
    ]

ends_in_run : (used : Tokens) → 64 ≤ ran 0 used → EndsInRun used
ends_in_run used h =
    let whole = ending [] used refl in
    let k = length whole.run - 64 in
    let parts : take k whole.run ++ drop k whole.run ≡ whole.run = take-append-drop k whole.run in
    record {
      front = whole.front ++ take k whole.run;
      run = drop k whole.run;
      split = whole.split ∙ ap (λ l. whole.front ++ l) (sym parts) ∙ sym (append_assoc whole.front (take k whole.run) (drop k whole.run));
      all = (and_parts (list_all runs_on (take k whole.run)) (list_all runs_on (drop k whole.run)) (sym (list_all-append runs_on (take k whole.run) (drop k whole.run)) ∙ ap (λ l. list_all runs_on l) parts ∙ whole.all)).1;
      long = let n = whole.long in let m = length-drop k whole.run in omega arith;
    }

long_run : (used : Tokens) → EndsInRun used → 64 ≤ ran 0 used
long_run used h =
    let same : ran 0 used ≡ ran (ran 0 h.front) h.run = ap (λ l. ran 0 l) h.split ∙ ran-append 0 h.front h.run in
    let more = ran_all (ran 0 h.front) h.run h.all in
    let n = h.long in
    omega arith

past_is_deep : (used : Tokens) (token : Token) → is_past (opened 0 used) (ran 0 used) token ≡ true → GoesTooDeep used token
past_is_deep used token h =
    elim (or_cases (is t.LeftParen token.kind && leb 64 (opened 0 used)) (runs_on token && leb 64 (ran 0 used)) h) [
      | inl e ↦ let both = and_parts (is t.LeftParen token.kind) (leb 64 (opened 0 used)) e in parenthesis both.0 (leb-true 64 (opened 0 used) both.1)
      | inr e ↦ let both = and_parts (runs_on token) (leb 64 (ran 0 used)) e in in_run both.0 (ends_in_run used (leb-true 64 (ran 0 used) both.1))
    ]

deep_is_past : (used : Tokens) (token : Token) → GoesTooDeep used token → is_past (opened 0 used) (ran 0 used) token ≡ true
deep_is_past used token (parenthesis h n) =
    or_left (is t.LeftParen token.kind && leb 64 (opened 0 used)) (runs_on token && leb 64 (ran 0 used)) (and_from (is t.LeftParen token.kind) (leb 64 (opened 0 used)) h (le-leb 64 (opened 0 used) n))
deep_is_past used token (in_run h e) =
    or_right (is t.LeftParen token.kind && leb 64 (opened 0 used)) (runs_on token && leb 64 (ran 0 used)) (and_from (runs_on token) (leb 64 (ran 0 used)) h (le-leb 64 (ran 0 used) (long_run used e)))

-- ---- shallow tokens

never_none : (used rest : Tokens) (token : Token) → [] ≡ used ++ token ∷ rest → ⊥
never_none [] rest token e = cc
never_none (x ∷ used) rest token e = cc

no_tokens : IsShallow []
no_tokens used rest token e h = never_none used rest token e

deep_same : (front used : Tokens) (next token : Token) → front ≡ used → next ≡ token → GoesTooDeep front next → GoesTooDeep used token
deep_same front used next token e f d = subst (λ x. GoesTooDeep used x) f (subst (λ l. GoesTooDeep l next) e d)

one_more_by : (used front rest : Tokens) (token next : Token) → IsShallow used → (GoesTooDeep used token → ⊥) → GoesTooDeep front next → AreCuts used (token ∷ []) front (next ∷ rest) → ⊥
one_more_by used front rest token next h g d (inside [] e f) = g (deep_same front used next token (sym (e ∙ append-nil front)) (cc) d)
one_more_by used front rest token next h g d (inside (x ∷ between) e f) = let same : x ≡ next = cc in h front between next (e ∙ ap (λ y. front ++ y ∷ between) same) d
one_more_by used front rest token next h g d (beyond [] e f) = g (deep_same front used next token (e ∙ append-nil used) (cc) d)
one_more_by used front rest token next h g d (beyond (x ∷ between) e f) = never_none between rest next cc

-- one more token that doesn't nest too deep
shallow_more : (used : Tokens) (token : Token) → IsShallow used → (GoesTooDeep used token → ⊥) → IsShallow (used ++ token ∷ [])
shallow_more used token h g front rest next e d = one_more_by used front rest token next h g d (cuts used (token ∷ []) front (next ∷ rest) e)

-- ---- what the walk over tokens finds

abbrev IsTold : Option ℕ → Tokens → Type 0
IsTold found tokens = MatchOption found (IsShallow tokens) (λ at. IsTooDeep tokens at)

tells_past : (used rest : Tokens) (token : Token) → IsShallow used → is_past (opened 0 used) (ran 0 used) token ≡ true → IsTold (first_past (opened 0 used) (ran 0 used) (token ∷ rest)) (used ++ token ∷ rest)
tells_past used rest token h e =
    rw e (record { used = used; token = token; rest = rest; split = refl; deep = past_is_deep used token e; before = h; place = refl })

tells_more : (used rest : Tokens) (token : Token) → is_past (opened 0 used) (ran 0 used) token ≡ false
    → IsTold (first_past (opened 0 (used ++ token ∷ [])) (ran 0 (used ++ token ∷ [])) rest) ((used ++ token ∷ []) ++ rest)
    → IsTold (first_past (opened 0 used) (ran 0 used) (token ∷ rest)) (used ++ token ∷ rest)
unfolding ran
tells_more used rest token e h =
    let parens : opened 0 (used ++ token ∷ []) ≡ parens_behind (opened 0 used) token = opened-append 0 used (token ∷ []) in
    let run : ran 0 (used ++ token ∷ []) ≡ run_behind (ran 0 used) token = ran-append 0 used (token ∷ []) in
    let found : first_past (opened 0 (used ++ token ∷ [])) (ran 0 (used ++ token ∷ [])) rest ≡ first_past (opened 0 used) (ran 0 used) (token ∷ rest) =
    ap (λ n. first_past n (ran 0 (used ++ token ∷ [])) rest) parens ∙ ap (λ n. first_past (parens_behind (opened 0 used) token) n rest) run
    ∙ sym (ap (λ b. cond b (Some token.at) (first_past (parens_behind (opened 0 used) token) (run_behind (ran 0 used) token) rest)) e) in
    subst (λ o. IsTold o (used ++ token ∷ rest)) found
    (subst (λ l. IsTold (first_past (opened 0 (used ++ token ∷ [])) (ran 0 (used ++ token ∷ [])) rest) l) (append_assoc used (token ∷ []) rest) h)

tells : (used rest : Tokens) → IsShallow used → IsTold (first_past (opened 0 used) (ran 0 used) rest) (used ++ rest)
tells used [] h = subst IsShallow (sym (append-nil used)) h
tells used (token ∷ rest) h =
    elim (cases_Bool (is_past (opened 0 used) (ran 0 used) token)) [
      | inl e ↦ tells_past used rest token h e
      | inr e ↦ tells_more used rest token e (tells (used ++ token ∷ []) rest (shallow_more used token h (λ d. absurd (let p = deep_is_past used token d in cc))))
    ]

walk_tells : (tokens : Tokens) → IsTold (first_past 0 0 tokens) tokens
unfolding ran
walk_tells tokens = tells [] tokens no_tokens

pub deep_at : (tokens : Tokens) (at : ℕ) → first_past 0 0 tokens ≡ Some at → IsTooDeep tokens at
deep_at tokens at e = subst (λ o. IsTold o tokens) e (walk_tells tokens)

pub shallow_at : (tokens : Tokens) → first_past 0 0 tokens ≡ None → IsShallow tokens
shallow_at tokens e = subst (λ o. IsTold o tokens) e (walk_tells tokens)

-- ---- the laws

one_place : (tokens : Tokens) (a b : ℕ) (h : IsTooDeep tokens a) (g : IsTooDeep tokens b) → AreCuts h.used (h.token ∷ h.rest) g.used (g.token ∷ g.rest) → a ≡ b
one_place tokens a b h g (inside [] e f) = let same : g.token ≡ h.token = cc in h.place ∙ ap (λ x. x.at) (sym same) ∙ sym g.place
one_place tokens a b h g (inside (x ∷ between) e f) =
    let same : x ≡ g.token = cc in
    absurd (h.before g.used between g.token (e ∙ ap (λ y. g.used ++ y ∷ between) same) g.deep)
one_place tokens a b h g (beyond [] e f) = let same : h.token ≡ g.token = cc in h.place ∙ ap (λ x. x.at) same ∙ sym g.place
one_place tokens a b h g (beyond (x ∷ between) e f) =
    let same : x ≡ h.token = cc in
    absurd (g.before h.used between h.token (e ∙ ap (λ y. h.used ++ y ∷ between) same) h.deep)

-- one token alone is the first that nests too deep
pub one_too_deep : (tokens : Tokens) (a b : ℕ) → IsTooDeep tokens a → IsTooDeep tokens b → a ≡ b
one_too_deep tokens a b h g = one_place tokens a b h g (cuts h.used (h.token ∷ h.rest) g.used (g.token ∷ g.rest) (sym h.split ∙ g.split))

pub never_shallow : (tokens : Tokens) (at : ℕ) → IsTooDeep tokens at → IsShallow tokens → ⊥
never_shallow tokens at h g = g h.used h.rest h.token h.split h.deep

told : (tokens : Tokens) (found : Option ℕ) → IsTold found tokens → IsShallow tokens ⊎ ((at : ℕ) × IsTooDeep tokens at)
told tokens None h = inl h
told tokens (Some at) h = inr (at, h)

pub shallow_or_deep : (tokens : Tokens) → IsShallow tokens ⊎ ((at : ℕ) × IsTooDeep tokens at)
shallow_or_deep tokens = told tokens (first_past 0 0 tokens) (walk_tells tokens)
