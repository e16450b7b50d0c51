-- Where a parser stops: what it read so far is read again whatever follows, and may go on to something of its language. Where it
-- wants more depth, it has read at least as many tokens as it had depth.
use Rattle.std.proofs.Common.{◌≡◌, ℕ, zero, suc, ◌+◌, ◌≤◌, List, [], ◌∷◌, ◌++◌, length, Option, Some, None, Result, Ok, Err, refl, sym, ap, subst, ◌∙◌, append_assoc, arith}
use Rattle.std.proofs.lemmas.List.{length-append}
use Rattle.om_token.specs.declared.token.Token.{Token}
use Rattle.om_grammar.specs.declared.stop.Stop.{Stop}
use Rattle.om_grammar.specs.declared.stop.Stop.TheVariants as stop
use Rattle.om_grammar.specs.Grammar.{Tokens, Lang}
use Rattle.om_grammar.specs.Refusals.{Begins}
use Rattle.om_grammar.specs.Parsers.{Step, Parser, go_on, and_then, ◌>>=◌, pure, wrong, deep, found, passed, chosen, one, branched, branch, tails}
use Rattle.om_grammar.proofs.ListLemmas.{Shrinks, tails_more, tails_done}

-- the parser looked no further than the first token of the rest
abbrev pub Again : {A : Type 0} → Parser A → Tokens → Result A Stop → Tokens → Type 0
Again p used r [] = Unit {0}
Again p used r (token ∷ rest) = (other : Tokens) → p (used ++ token ∷ other) ≡ (r, token ∷ other)

-- what was read is in the language, or begins something of it
abbrev pub Told : {A : Type 0} → ℕ → Lang A → Tokens → Result A Stop → Type 0
Told depth L used (Ok x) = L used x
Told depth L used (Err stop.Wrong) = Begins L used
Told depth L used (Err stop.Deep) = depth ≤ length used
Told depth L used (Err stop.NoMemory) = ⊥

-- a parser reads these tokens so, up to a rest
pub record Run {A : Type 0} (depth : ℕ) (p : Parser A) (L : Lang A) (tokens : Tokens) (r : Result A Stop) (rest : Tokens) : Type 0 where
  pub gives : p tokens ≡ (r, rest)
  pub used : Tokens
  pub split : tokens ≡ used ++ rest
  pub again : Again p used r rest
  pub told : Told depth L used r

abbrev pub RunAt : {A : Type 0} → ℕ → Parser A → Lang A → Tokens → Type 0
RunAt depth p L tokens = Run depth p L tokens (p tokens).0 (p tokens).1

abbrev pub Runs : {A : Type 0} → ℕ → Parser A → Lang A → Type 0
Runs depth p L = (tokens : Tokens) → RunAt depth p L tokens

pub shrinks_of : {A : Type 0} (depth : ℕ) (p : Parser A) (L : Lang A) → Runs depth p L → Shrinks p
shrinks_of depth p L runs tokens =
    let run = runs tokens in
    omega (arith, ap length run.split, length-append run.used (p tokens).1)

-- ---- the simplest

pub pure_run : {A : Type 0} (depth : ℕ) (x : A) (L : Lang A) → L [] x → Runs depth (pure x) L
pure_run depth x L h [] = record { gives = refl; used = []; split = refl; again = tt; told = h }
pure_run depth x L h (token ∷ tokens) = record { gives = refl; used = []; split = refl; again = λ other. refl; told = h }

pub wrong_run : {A : Type 0} (depth : ℕ) (L : Lang A) → Begins L [] → Runs depth wrong L
wrong_run depth L h [] = record { gives = refl; used = []; split = refl; again = tt; told = h }
wrong_run depth L h (token ∷ tokens) = record { gives = refl; used = []; split = refl; again = λ other. refl; told = h }

pub deep_run : {A : Type 0} (L : Lang A) → Runs zero deep L
deep_run L [] = record { gives = refl; used = []; split = refl; again = tt; told = omega arith }
deep_run L (token ∷ tokens) = record { gives = refl; used = []; split = refl; again = λ other. refl; told = omega arith }

-- ---- one parser after another

again_front : {A : Type 0} (p : Parser A) (used : Tokens) (r : Result A Stop) (rest : Tokens) → Again p used r rest
    → (v : Tokens) (token : Token) (after : Tokens) → rest ≡ v ++ token ∷ after → (other : Tokens) → p (used ++ (v ++ token ∷ other)) ≡ (r, v ++ token ∷ other)
again_front p used r rest h [] token after e other = (subst (Again p used r) e h) other
again_front p used r rest h (first ∷ v) token after e other = (subst (Again p used r) e h) (v ++ token ∷ other)

module _ {A B : Type 0} (depth less : ℕ) (p : Parser A) (f : A → Parser B) (L : Lang A) (M : A → Lang B) (N : Lang B)
    (paid : (u : Tokens) (x : A) → L u x → depth ≤ less + length u)
    (join : (u v : Tokens) (x : A) (y : B) → L u x → M x v y → N (u ++ v) y) where
  told_later : (u v : Tokens) (x : A) (r : Result B Stop) → L u x → Told less (M x) v r → Told depth N (u ++ v) r
  told_later u v x (Ok y) h g = join u v x y h g
  told_later u v x (Err stop.Wrong) h g = (g.0, g.1, rw append_assoc (join u (v ++ g.0) x g.1 h g.2))
  told_later u v x (Err stop.Deep) h g = omega (arith, paid u x h, g, length-append u v)
  told_later u v x (Err stop.NoMemory) h g = g

  again_later : (u v : Tokens) (x : A) (middle : Tokens) (r : Result B Stop) (rest : Tokens) → Again p u (Ok x) middle → middle ≡ v ++ rest → Again (f x) v r rest → Again (p >>= f) (u ++ v) r rest
  again_later u v x middle r [] h e g = tt
  again_later u v x middle r (token ∷ rest) h e g = λ other.
      let first = again_front p u (Ok x) middle h v token rest e other in
      rw append_assoc (ap (λ (s : Step A). and_then s f) first ∙ g other)

  run_later : (tokens : Tokens) (x : A) (middle : Tokens) (r : Result B Stop) (rest : Tokens) → Run depth p L tokens (Ok x) middle → Run less (f x) (M x) middle r rest → Run depth (p >>= f) N tokens r rest
  run_later tokens x middle r rest h g = record {
    gives = ap (λ (s : Step A). and_then s f) h.gives ∙ g.gives;
    used = h.used ++ g.used;
    split = h.split ∙ ap (λ (l : Tokens). h.used ++ l) g.split ∙ sym (append_assoc h.used g.used rest);
    again = again_later h.used g.used x middle r rest h.again g.split g.again;
    told = told_later h.used g.used x r h.told g.told;
  }

  again_stopped : (u rest : Tokens) (s : Stop) → Again p u (Err s) rest → Again (p >>= f) u (Err s) rest
  again_stopped u [] s h = tt
  again_stopped u (token ∷ rest) s h = λ other. ap (λ (s : Step A). and_then s f) (h other)

  module _ (finish : (x : A) → (more : Tokens) × (y : B) × M x more y) where
    told_stopped : (u : Tokens) (s : Stop) → Told depth L u (Err s) → Told depth N u (Err s)
    told_stopped u stop.Wrong h =
        let g = finish h.1 in
        (h.0 ++ g.0, g.1, rw (← append_assoc) (join (u ++ h.0) g.0 h.1 g.1 h.2 g.2))
    told_stopped u stop.Deep h = h
    told_stopped u stop.NoMemory h = h

    bind_go : (tokens : Tokens) (r : Result A Stop) (rest : Tokens) → Run depth p L tokens r rest → ((x : A) → RunAt less (f x) (M x) rest)
        → Run depth (p >>= f) N tokens (go_on r rest f).0 (go_on r rest f).1
    bind_go tokens (Ok x) rest h g = run_later tokens x rest (f x rest).0 (f x rest).1 h (g x)
    bind_go tokens (Err s) rest h g = record {
      gives = ap (λ (s : Step A). and_then s f) h.gives;
      used = h.used;
      split = h.split;
      again = again_stopped h.used rest s h.again;
      told = told_stopped h.used s h.told;
    }

    pub paid_at : (tokens : Tokens) → RunAt depth p L tokens → ((x : A) → RunAt less (f x) (M x) (p tokens).1) → RunAt depth (p >>= f) N tokens
    paid_at tokens h g = bind_go tokens (p tokens).0 (p tokens).1 h g

    -- what the first takes pays for what the second has less
    pub paid_run : Runs depth p L → ((x : A) → Runs less (f x) (M x)) → Runs depth (p >>= f) N
    paid_run h g tokens = paid_at tokens (h tokens) (λ x. g x (p tokens).1)

module _ {A B : Type 0} (depth : ℕ) (p : Parser A) (f : A → Parser B) (L : Lang A) (M : A → Lang B) (N : Lang B)
    (join : (u v : Tokens) (x : A) (y : B) → L u x → M x v y → N (u ++ v) y) (finish : (x : A) → (more : Tokens) × (y : B) × M x more y) where
  pub bind_at : (tokens : Tokens) → RunAt depth p L tokens → ((x : A) → RunAt depth (f x) (M x) (p tokens).1) → RunAt depth (p >>= f) N tokens
  bind_at = paid_at depth depth p f L M N (λ u x h. omega arith) join finish

  pub bind_run : Runs depth p L → ((x : A) → Runs depth (f x) (M x)) → Runs depth (p >>= f) N
  bind_run = paid_run depth depth p f L M N (λ u x h. omega arith) join finish

-- ---- what is made of what was read

module _ {A B : Type 0} (depth : ℕ) (p : Parser A) (made : A → B) (L : Lang A) (N : Lang B) (map : (u : Tokens) (x : A) → L u x → N u (made x)) where
  again_made : (u rest : Tokens) (r : Result A Stop) → Again p u r rest → Again (p >>= λ x. pure (made x)) u (go_on r rest (λ x. pure (made x))).0 (go_on r rest (λ x. pure (made x))).1
  again_made u [] (Ok x) h = tt
  again_made u [] (Err s) h = tt
  again_made u (token ∷ rest) (Ok x) h = λ other. ap (λ (s : Step A). and_then s (λ x. pure (made x))) (h other)
  again_made u (token ∷ rest) (Err s) h = λ other. ap (λ (s : Step A). and_then s (λ x. pure (made x))) (h other)

  told_made : (u rest : Tokens) (r : Result A Stop) → Told depth L u r → Told depth N u (go_on r rest (λ x. pure (made x))).0
  told_made u rest (Ok x) h = map u x h
  told_made u rest (Err stop.Wrong) h = (h.0, made h.1, map (u ++ h.0) h.1 h.2)
  told_made u rest (Err stop.Deep) h = h
  told_made u rest (Err stop.NoMemory) h = h

  rest_made : (r : Result A Stop) (rest : Tokens) → (go_on r rest (λ x. pure (made x))).1 ≡ rest
  rest_made (Ok x) rest = refl
  rest_made (Err s) rest = refl

  pub map_at : (tokens : Tokens) → RunAt depth p L tokens → RunAt depth (p >>= λ x. pure (made x)) N tokens
  map_at tokens h = record {
    gives = refl;
    used = h.used;
    split = h.split ∙ ap (λ (l : Tokens). h.used ++ l) (sym (rest_made (p tokens).0 (p tokens).1));
    again = again_made h.used (p tokens).1 (p tokens).0 h.again;
    told = told_made h.used (p tokens).1 (p tokens).0 h.told;
  }

  pub map_run : Runs depth p L → Runs depth (p >>= λ x. pure (made x)) N
  map_run h tokens = map_at tokens (h tokens)

-- the same, for a language that holds another
module _ {A : Type 0} (depth less : ℕ) (p : Parser A) (L N : Lang A) (under : depth ≤ less) (map : (u : Tokens) (x : A) → L u x → N u x) where
  told_wider : (u : Tokens) (r : Result A Stop) → Told less L u r → Told depth N u r
  told_wider u (Ok x) h = map u x h
  told_wider u (Err stop.Wrong) h = (h.0, h.1, map (u ++ h.0) h.1 h.2)
  told_wider u (Err stop.Deep) h = omega (arith, under, h)
  told_wider u (Err stop.NoMemory) h = h

  pub wider_run : Runs less p L → Runs depth p N
  wider_run runs tokens =
      let h = runs tokens in
      record { gives = h.gives; used = h.used; split = h.split; again = h.again; told = told_wider h.used (p tokens).0 h.told }

-- ---- one token

-- a token in which a reader sees this
abbrev pub IsRead : {A : Type 0} → (Token → Option A) → Lang A
IsRead read u x = (token : Token) × (u ≡ token ∷ []) × (read token ≡ Some x)

module _ {A : Type 0} (depth : ℕ) (read : Token → Option A) (L : Lang A) (fits : (token : Token) (x : A) → read token ≡ Some x → L (token ∷ []) x) (some : (token : Token) × (x : A) × (read token ≡ Some x)) where
  one_empty : Begins L []
  one_empty = (some.0 ∷ [], some.1, fits some.0 some.1 some.2)

  again_one : (token : Token) (x : A) (rest : Tokens) → read token ≡ Some x → Again (one read) (token ∷ []) (Ok x) rest
  again_one token x [] e = tt
  again_one token x (next ∷ rest) e = λ other. ap (λ (seen : Option A). chosen seen (token ∷ next ∷ other)) e

  one_go : (token : Token) (rest : Tokens) (seen : Option A) → read token ≡ seen → Run depth (one read) L (token ∷ rest) (chosen seen (token ∷ rest)).0 (chosen seen (token ∷ rest)).1
  one_go token rest (Some x) e = record {
    gives = ap (λ (seen : Option A). chosen seen (token ∷ rest)) e;
    used = token ∷ [];
    split = refl;
    again = again_one token x rest e;
    told = fits token x e;
  }
  one_go token rest None e = record {
    gives = ap (λ (seen : Option A). chosen seen (token ∷ rest)) e;
    used = [];
    split = refl;
    again = λ other. ap (λ (seen : Option A). chosen seen (token ∷ other)) e;
    told = one_empty;
  }

  pub one_run : Runs depth (one read) L
  one_run [] = record { gives = refl; used = []; split = refl; again = tt; told = one_empty }
  one_run (token ∷ rest) = one_go token rest (read token) refl

-- ---- by the next token

module _ {S A : Type 0} (depth less : ℕ) (read : Token → Option S) (more : S → Parser A) (other : Parser A) (M : S → Lang A) (N : Lang A) (paid : depth ≤ suc less)
    (join : (token : Token) (s : S) (u : Tokens) (x : A) → read token ≡ Some s → M s u x → N (token ∷ u) x) where
  told_found : (token : Token) (s : S) (u : Tokens) (r : Result A Stop) → read token ≡ Some s → Told less (M s) u r → Told depth N (token ∷ u) r
  told_found token s u (Ok x) e h = join token s u x e h
  told_found token s u (Err stop.Wrong) e h = (h.0, h.1, join token s (u ++ h.0) h.1 e h.2)
  told_found token s u (Err stop.Deep) e h = omega (arith, paid, h)
  told_found token s u (Err stop.NoMemory) e h = h

  seen_gives : (tokens : Tokens) (seen : Option S) → found read tokens ≡ seen → branch read more other tokens ≡ branched seen more other tokens
  seen_gives tokens seen e = ap (λ (seen : Option S). branched seen more other tokens) e

  again_found : (token : Token) (s : S) (u : Tokens) (r : Result A Stop) (rest : Tokens) → read token ≡ Some s → Again (more s) u r rest → Again (branch read more other) (token ∷ u) r rest
  again_found token s u r [] e h = tt
  again_found token s u r (next ∷ rest) e h = λ others. seen_gives (token ∷ (u ++ next ∷ others)) (Some s) e ∙ h others

  -- the next token is the same whatever stands behind the tokens up to and with the first of the rest
  same_next : (u : Tokens) (next : Token) (rest others : Tokens) → found read (u ++ next ∷ rest) ≡ found read (u ++ next ∷ others)
  same_next [] next rest others = refl
  same_next (token ∷ u) next rest others = refl

  again_other : (tokens u : Tokens) (r : Result A Stop) (rest : Tokens) → found read tokens ≡ None → tokens ≡ u ++ rest → Again other u r rest → Again (branch read more other) u r rest
  again_other tokens u r [] e split h = tt
  again_other tokens u r (next ∷ rest) e split h = λ others.
      let none : found read (u ++ next ∷ others) ≡ None = same_next u next others rest ∙ ap (found read) (sym split) ∙ e in
      seen_gives (u ++ next ∷ others) None none ∙ h others

  branch_go : (tokens : Tokens) (seen : Option S) → found read tokens ≡ seen
      → ((s : S) → seen ≡ Some s → RunAt less (more s) (M s) (passed tokens)) → (seen ≡ None → RunAt depth other N tokens)
      → Run depth (branch read more other) N tokens (branched seen more other tokens).0 (branched seen more other tokens).1
  branch_go tokens None e h g =
      let run = g refl in
      record {
        gives = seen_gives tokens None e;
        used = run.used;
        split = run.split;
        again = again_other tokens run.used (other tokens).0 (other tokens).1 e run.split run.again;
        told = run.told;
      }
  branch_go [] (Some s) e h g = absurd cc
  branch_go (token ∷ tokens) (Some s) e h g =
      let run = h s refl in
      record {
        gives = seen_gives (token ∷ tokens) (Some s) e;
        used = token ∷ run.used;
        split = ap (λ (l : Tokens). token ∷ l) run.split;
        again = again_found token s run.used (more s tokens).0 (more s tokens).1 e run.again;
        told = told_found token s run.used (more s tokens).0 e run.told;
      }

  pub branch_at : (tokens : Tokens) → ((s : S) → found read tokens ≡ Some s → RunAt less (more s) (M s) (passed tokens)) → (found read tokens ≡ None → RunAt depth other N tokens)
      → RunAt depth (branch read more other) N tokens
  branch_at tokens h g = branch_go tokens (found read tokens) refl h g

  pub branch_run : ((s : S) → Runs less (more s) (M s)) → Runs depth other N → Runs depth (branch read more other) N
  branch_run h g tokens = branch_at tokens (λ s e. h s (passed tokens)) (λ e. g tokens)

-- ---- more of a list

module _ {S A : Type 0} (depth : ℕ) (separator : Token → Option S) (member : S → Parser A) (M : S → Lang A) (N : Lang (List A)) (runs : (s : S) → Runs depth (member s) (M s))
    (none : N [] []) (more : (token : Token) (s : S) (u v : Tokens) (x : A) (xs : List A) → separator token ≡ Some s → M s u x → N v xs → N (token ∷ (u ++ v)) (x ∷ xs)) where
  member_shrinks : (s : S) → Shrinks (member s)
  member_shrinks s = shrinks_of depth (member s) (M s) (runs s)

  -- more of them behind one
  data Behind (x : A) : Tokens → List A → Type 0 where
    behind_one : {v : Tokens} {xs : List A} → N v xs → Behind x v (x ∷ xs)

  -- a member, and more of them
  data Both (s : S) : Tokens → List A → Type 0 where
    both : {u v : Tokens} {x : A} {xs : List A} → M s u x → N v xs → Both s (u ++ v) (x ∷ xs)

  join_both : (s : S) (u v : Tokens) (x : A) (ys : List A) → M s u x → Behind x v ys → Both s (u ++ v) ys
  join_both s u v x ys h (behind_one g) = both h g

  more_both : (token : Token) (s : S) (u : Tokens) (ys : List A) → separator token ≡ Some s → Both s u ys → N (token ∷ u) ys
  more_both token s u ys e (both {u = u'} {v = v} {x = x} {xs = xs} f g) = more token s u' v x xs e f g

  abbrev next : S → Parser (List A)
  next s = member s >>= λ x. tails separator member >>= λ xs. pure (x ∷ xs)

  tails_branch : (tokens : Tokens) (seen : Option S) → found separator tokens ≡ seen → tails separator member tokens ≡ branched seen next (pure []) tokens
  tails_branch tokens None e = tails_done separator member member_shrinks tokens e
  tails_branch tokens (Some s) e = tails_more separator member member_shrinks tokens s e

  run_same : (p q : Parser (List A)) (same : (tokens : Tokens) → p tokens ≡ q tokens) (tokens : Tokens) → RunAt depth q N tokens → RunAt depth p N tokens
  run_same p q same tokens run =
      subst (λ (s : Step (List A)). Run depth p N tokens s.0 s.1) (sym (same tokens)) (record {
        gives = same tokens;
        used = run.used;
        split = run.split;
        again = again_same run.used (q tokens).0 (q tokens).1 run.again;
        told = run.told;
      })
    where
      again_same : (u : Tokens) (r : Result (List A) Stop) (rest : Tokens) → Again q u r rest → Again p u r rest
      again_same u r [] h = tt
      again_same u r (token ∷ rest) h = λ other. same (u ++ token ∷ other) ∙ h other

  tails_step : (tokens : Tokens) → ((s : S) → found separator tokens ≡ Some s → RunAt depth (tails separator member) N (member s (passed tokens)).1) → RunAt depth (tails separator member) N tokens
  tails_step tokens h =
      run_same (tails separator member) (branch separator next (pure [])) (λ l. tails_branch l (found separator l) refl) tokens
      (branch_at depth depth separator next (pure []) Both N (omega arith) more_both tokens
      (λ s e. bind_at depth (member s) (λ x. tails separator member >>= λ xs. pure (x ∷ xs)) (M s) Behind (Both s) (join_both s) (λ x. ([], x ∷ [], behind_one none)) (passed tokens) (runs s (passed tokens))
      (λ x. map_at depth (tails separator member) (λ xs. x ∷ xs) N (Behind x) (λ u xs f. behind_one f) (member s (passed tokens)).1 (h s e)))
      (λ e. pure_run depth [] N none tokens))

  tails_at : (n : ℕ) (tokens : Tokens) → length tokens ≤ n → RunAt depth (tails separator member) N tokens
  tails_at n [] h = tails_step [] (λ s e. absurd cc)
  tails_at zero (token ∷ tokens) h = absurd (omega arith)
  tails_at (suc n) (token ∷ tokens) h = tails_step (token ∷ tokens) (λ s e. tails_at n (member s tokens).1 (omega (arith, h, member_shrinks s tokens)))

  pub tails_runs : Runs depth (tails separator member) N
  tails_runs tokens = tails_at (length tokens) tokens (omega arith)

-- ---- what may follow

-- what makes of a part that was read something of a language
abbrev pub Then : {A B : Type 0} → Lang A → Lang B → A → Lang B
Then L N x v y = (u : Tokens) → L u x → N (u ++ v) y

-- what makes of a token in which something was seen something of a language
abbrev pub Seen : {S B : Type 0} → (Token → Option S) → Lang B → S → Lang B
Seen read N s v y = (token : Token) → read token ≡ Some s → N (token ∷ v) y

-- something follows
abbrev pub Goes : {B : Type 0} → Lang B → Type 0
Goes {B} L = (more : Tokens) × (y : B) × L more y

module _ {A B : Type 0} (depth : ℕ) (p : Parser A) (f : A → Parser B) (L : Lang A) (N : Lang B) (finish : (x : A) → Goes (Then L N x)) where
  pub then_run : Runs depth p L → ((x : A) → Runs depth (f x) (Then L N x)) → Runs depth (p >>= f) N
  then_run = bind_run depth p f L (Then L N) N (λ u v x y h g. g u h) finish

module _ {S A : Type 0} (depth less : ℕ) (read : Token → Option S) (more : S → Parser A) (other : Parser A) (N : Lang A) (paid : depth ≤ suc less) where
  pub seen_run : ((s : S) → Runs less (more s) (Seen read N s)) → Runs depth other N → Runs depth (branch read more other) N
  seen_run = branch_run depth less read more other (Seen read N) N paid (λ token s u x e h. h token e)
