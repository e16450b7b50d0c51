-- Where a parser stops: what it read so far is read again whatever follows, and may go on to something of its language.
use Rattle.std.proofs.Common.{◌≡◌, Bool, true, false, [], ◌∷◌, ◌++◌, Option, Some, None, Result, Ok, Err, refl, sym, ap, subst, ◌∙◌, append_assoc}
use Rattle.om_token.specs.declared.token.Token.{Token}
use Rattle.om_token.specs.declared.terminal.Terminal.{Terminal}
use Rattle.om_parse.specs.declared.cursor.Stop.{Stop}
use Rattle.om_parse.specs.declared.cursor.Stop.TheVariants as stop
use Rattle.om_parse.specs.Grammar.{Tokens, Lang}
use Rattle.om_parse.specs.Refusals.{Begins}
use Rattle.om_parse.specs.Reading.{Step, Parser, go_on, and_then, ◌>>=◌, pure, one, chosen, is, begins, passed}

-- the parser looked no further than the first token of the rest
abbrev pub Again : {A : Type 0} → Parser A → Tokens → Result A Stop → Tokens → Type 0
Again p used r [] = Unit {0}
Again p used r (token ∷ rest) = (other : Tokens) → p (used ++ token ∷ other) ≡ (r, token ∷ other)

-- what was read is in the language, or begins something of it
abbrev pub Told : {A : Type 0} → Lang A → Tokens → Result A Stop → Type 0
Told L used (Ok x) = L used x
Told L used (Err stop.Wrong) = Begins L used
Told L used (Err stop.NoMemory) = ⊥

-- a parser reads these tokens so, up to a rest
pub record Run {A : Type 0} (p : Parser A) (L : Lang A) (tokens : Tokens) (r : Result A Stop) (rest : Tokens) : Type 0 where
  pub gives : p tokens ≡ (r, rest)
  pub used : Tokens
  pub split : tokens ≡ used ++ rest
  pub again : Again p used r rest
  pub told : Told L used r

abbrev pub RunAt : {A : Type 0} → Parser A → Lang A → Tokens → Type 0
RunAt p L tokens = Run p L tokens (p tokens).0 (p tokens).1

abbrev pub Runs : {A : Type 0} → Parser A → Lang A → Type 0
Runs p L = (tokens : Tokens) → RunAt p L tokens

-- ---- one parser after another

again_front : {A : Type 0} (p : Parser A) (used : Tokens) (r : Result A Stop) (rest : Tokens) → Again p used r rest
    → (v : Tokens) (token : Token) (after : Tokens) → rest ≡ v ++ token ∷ after → (other : Tokens) → p (used ++ (v ++ token ∷ other)) ≡ (r, v ++ token ∷ other)
again_front p used r rest h [] token after e other = (subst (Again p used r) e h) other
again_front p used r rest h (first ∷ v) token after e other = (subst (Again p used r) e h) (v ++ token ∷ other)

module _ {A B : Type 0} (p : Parser A) (f : A → Parser B) (L : Lang A) (M : A → Lang B) (N : Lang B) (join : (u v : Tokens) (x : A) (y : B) → L u x → M x v y → N (u ++ v) y) where
  told_later : (u v : Tokens) (x : A) (r : Result B Stop) → L u x → Told (M x) v r → Told N (u ++ v) r
  told_later u v x (Ok y) h g = join u v x y h g
  told_later u v x (Err stop.Wrong) h g = (g.0, g.1, rw append_assoc (join u (v ++ g.0) x g.1 h g.2))
  told_later u v x (Err stop.NoMemory) h g = g

  again_later : (u v : Tokens) (x : A) (middle : Tokens) (r : Result B Stop) (rest : Tokens) → Again p u (Ok x) middle → middle ≡ v ++ rest → Again (f x) v r rest → Again (p >>= f) (u ++ v) r rest
  again_later u v x middle r [] h e g = tt
  again_later u v x middle r (token ∷ rest) h e g = λ other.
      let first = again_front p u (Ok x) middle h v token rest e other in
      rw append_assoc (ap (λ (s : Step A). and_then s f) first ∙ g other)

  run_later : (tokens : Tokens) (x : A) (middle : Tokens) (r : Result B Stop) (rest : Tokens) → Run p L tokens (Ok x) middle → Run (f x) (M x) middle r rest → Run (p >>= f) N tokens r rest
  run_later tokens x middle r rest h g = record {
    gives = ap (λ (s : Step A). and_then s f) h.gives ∙ g.gives;
    used = h.used ++ g.used;
    split = h.split ∙ ap (λ (l : Tokens). h.used ++ l) g.split ∙ sym (append_assoc h.used g.used rest);
    again = again_later h.used g.used x middle r rest h.again g.split g.again;
    told = told_later h.used g.used x r h.told g.told;
  }

  again_stopped : (u rest : Tokens) (s : Stop) → Again p u (Err s) rest → Again (p >>= f) u (Err s) rest
  again_stopped u [] s h = tt
  again_stopped u (token ∷ rest) s h = λ other. ap (λ (s : Step A). and_then s f) (h other)

  module _ (finish : (x : A) → (more : Tokens) × (y : B) × M x more y) where
    told_stopped : (u : Tokens) (s : Stop) → Told L u (Err s) → Told N u (Err s)
    told_stopped u stop.Wrong h =
        let g = finish h.1 in
        (h.0 ++ g.0, g.1, rw (← append_assoc) (join (u ++ h.0) g.0 h.1 g.1 h.2 g.2))
    told_stopped u stop.NoMemory h = h

    bind_go : (tokens : Tokens) (r : Result A Stop) (rest : Tokens) → Run p L tokens r rest → ((x : A) → RunAt (f x) (M x) rest)
        → Run (p >>= f) N tokens (go_on r rest f).0 (go_on r rest f).1
    bind_go tokens (Ok x) rest h g = run_later tokens x rest (f x rest).0 (f x rest).1 h (g x)
    bind_go tokens (Err s) rest h g = record {
      gives = ap (λ (s : Step A). and_then s f) h.gives;
      used = h.used;
      split = h.split;
      again = again_stopped h.used rest s h.again;
      told = told_stopped h.used s h.told;
    }

    pub bind_at : (tokens : Tokens) → RunAt p L tokens → ((x : A) → RunAt (f x) (M x) (p tokens).1) → RunAt (p >>= f) N tokens
    bind_at tokens h g = bind_go tokens (p tokens).0 (p tokens).1 h g

    pub bind_run : Runs p L → ((x : A) → Runs (f x) (M x)) → Runs (p >>= f) N
    bind_run h g tokens = bind_at tokens (h tokens) (λ x. g x (p tokens).1)

-- ---- what is made of what was read

module _ {A B : Type 0} (p : Parser A) (made : A → B) (L : Lang A) (N : Lang B) (map : (u : Tokens) (x : A) → L u x → N u (made x)) where
  again_made : (u rest : Tokens) (r : Result A Stop) → Again p u r rest → Again (p >>= λ x. pure (made x)) u (go_on r rest (λ x. pure (made x))).0 (go_on r rest (λ x. pure (made x))).1
  again_made u [] (Ok x) h = tt
  again_made u [] (Err s) h = tt
  again_made u (token ∷ rest) (Ok x) h = λ other. ap (λ (s : Step A). and_then s (λ x. pure (made x))) (h other)
  again_made u (token ∷ rest) (Err s) h = λ other. ap (λ (s : Step A). and_then s (λ x. pure (made x))) (h other)

  told_made : (u rest : Tokens) (r : Result A Stop) → Told L u r → Told N u (go_on r rest (λ x. pure (made x))).0
  told_made u rest (Ok x) h = map u x h
  told_made u rest (Err stop.Wrong) h = (h.0, made h.1, map (u ++ h.0) h.1 h.2)
  told_made u rest (Err stop.NoMemory) h = h

  rest_made : (r : Result A Stop) (rest : Tokens) → (go_on r rest (λ x. pure (made x))).1 ≡ rest
  rest_made (Ok x) rest = refl
  rest_made (Err s) rest = refl

  pub map_at : (tokens : Tokens) → RunAt p L tokens → RunAt (p >>= λ x. pure (made x)) N tokens
  map_at tokens h = record {
    gives = refl;
    used = h.used;
    split = h.split ∙ ap (λ (l : Tokens). h.used ++ l) (sym (rest_made (p tokens).0 (p tokens).1));
    again = again_made h.used (p tokens).1 (p tokens).0 h.again;
    told = told_made h.used (p tokens).1 (p tokens).0 h.told;
  }

  pub map_run : Runs p L → Runs (p >>= λ x. pure (made x)) N
  map_run h tokens = map_at tokens (h tokens)

-- ---- one token

module _ {A : Type 0} (read : Token → Option A) (L : Lang A) (fits : (token : Token) (x : A) → read token ≡ Some x → L (token ∷ []) x) (some : (token : Token) × (x : A) × (read token ≡ Some x)) where
  one_empty : Begins L []
  one_empty = (some.0 ∷ [], some.1, fits some.0 some.1 some.2)

  again_one : (token : Token) (x : A) (rest : Tokens) → read token ≡ Some x → Again (one read) (token ∷ []) (Ok x) rest
  again_one token x [] e = tt
  again_one token x (next ∷ rest) e = λ other. ap (λ (found : Option A). chosen found token (next ∷ other)) e

  one_go : (token : Token) (rest : Tokens) (found : Option A) → read token ≡ found → Run (one read) L (token ∷ rest) (chosen found token rest).0 (chosen found token rest).1
  one_go token rest (Some x) e = record {
    gives = ap (λ (found : Option A). chosen found token rest) e;
    used = token ∷ [];
    split = refl;
    again = again_one token x rest e;
    told = fits token x e;
  }
  one_go token rest None e = record {
    gives = ap (λ (found : Option A). chosen found token rest) e;
    used = [];
    split = refl;
    again = λ other. ap (λ (found : Option A). chosen found token other) e;
    told = one_empty;
  }

  pub one_run : Runs (one read) L
  one_run [] = record { gives = refl; used = []; split = refl; again = tt; told = one_empty }
  one_run (token ∷ rest) = one_go token rest (read token) refl

-- ---- a part that is there where it begins with a reserved word or a symbol

module _ {A : Type 0} (separator : Terminal) (p q : Parser A) (none : A) (M N : Lang A)
    (found : (tokens : Tokens) → begins separator tokens ≡ true → p tokens ≡ q (passed tokens))
    (missing : (tokens : Tokens) → begins separator tokens ≡ false → p tokens ≡ (Ok none, tokens))
    (empty : N [] none)
    (more : (token : Token) (u : Tokens) (x : A) → is separator token.kind ≡ true → M u x → N (token ∷ u) x) where
  told_found : (token : Token) (u : Tokens) (r : Result A Stop) → is separator token.kind ≡ true → Told M u r → Told N (token ∷ u) r
  told_found token u (Ok x) e h = more token u x e h
  told_found token u (Err stop.Wrong) e h = (h.0, h.1, more token (u ++ h.0) h.1 e h.2)
  told_found token u (Err stop.NoMemory) e h = h

  again_found : (token : Token) (u : Tokens) (r : Result A Stop) (rest : Tokens) → is separator token.kind ≡ true → Again q u r rest → Again p (token ∷ u) r rest
  again_found token u r [] e h = tt
  again_found token u r (next ∷ rest) e h = λ other. found (token ∷ (u ++ next ∷ other)) e ∙ h other

  branch_go : (token : Token) (tokens : Tokens) (b : Bool) → is separator token.kind ≡ b → (b ≡ true → RunAt q M tokens) → (r : Result A Stop) (rest : Tokens) → p (token ∷ tokens) ≡ (r, rest) → Run p N (token ∷ tokens) r rest
  branch_go token tokens true e h r rest g =
      let run = h refl in
      let same : (q tokens) ≡ (r, rest) = sym (found (token ∷ tokens) e) ∙ g in
      let moved : Run q M tokens r rest = subst (λ (s : Step A). Run q M tokens s.0 s.1) same run in
      record {
        gives = g;
        used = token ∷ moved.used;
        split = ap (λ (l : Tokens). token ∷ l) moved.split;
        again = again_found token moved.used r rest e moved.again;
        told = told_found token moved.used r e moved.told;
      }
  branch_go token tokens false e h r rest g =
      let same : (Ok none, token ∷ tokens) ≡ (r, rest) = sym (missing (token ∷ tokens) e) ∙ g in
      subst (λ (s : Step A). Run p N (token ∷ tokens) s.0 s.1) same (record {
        gives = missing (token ∷ tokens) e;
        used = [];
        split = refl;
        again = λ other. missing (token ∷ other) e;
        told = empty;
      })

  pub branch_at : (tokens : Tokens) → (begins separator tokens ≡ true → RunAt q M (passed tokens)) → RunAt p N tokens
  branch_at [] h = subst (λ (s : Step A). Run p N [] s.0 s.1) (sym (missing [] refl)) (record { gives = missing [] refl; used = []; split = refl; again = tt; told = empty })
  branch_at (token ∷ tokens) h = branch_go token tokens (is separator token.kind) refl h (p (token ∷ tokens)).0 (p (token ∷ tokens)).1 refl
