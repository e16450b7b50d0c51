-- Lists whose members stand behind separators, one member after the other.
use Rattle.std.proofs.Common.{◌≡◌, ℕ, zero, suc, ◌<◌, ◌≤◌, List, [], ◌∷◌, ◌++◌, length, Option, Some, None, Result, Ok, Err, refl, sym, ap, ◌∙◌, append_assoc, arith}
use Rattle.om_token.specs.declared.token.Token.{Token}
use Rattle.om_grammar.specs.declared.stop.Stop.{Stop}
use Rattle.om_grammar.specs.declared.stop.Stop.TheVariants as stop
use Rattle.om_grammar.specs.Grammar.{Tokens}
use Rattle.om_grammar.specs.Parsers.{Step, Parser, go_on, and_then, ◌>>=◌, pure, found, passed, branched, at_most, tails, Reads}

-- ---- steps

-- what follows a step depends only on what the step gives
pub and_then_same : {A B : Type 0} (r : Result A Stop) (rest : Tokens) (f g : A → Parser B) → ((x : A) → f x rest ≡ g x rest) → go_on r rest f ≡ go_on r rest g
and_then_same (Ok x) rest f g h = h x
and_then_same (Err e) rest f g h = refl

-- ---- a parser leaves no more tokens than it was given

abbrev pub Shrinks : {A : Type 0} → Parser A → Type 0
Shrinks p = (tokens : Tokens) → length (p tokens).1 ≤ length tokens

-- ---- more of a list

module _ {S A : Type 0} (separator : Token → Option S) (member : S → Parser A) (shrinks : (s : S) → Shrinks (member s)) where
  -- at least as much is read with more members
  abbrev Next : ℕ → S → Parser (List A)
  Next n s = member s >>= λ x. at_most n separator member >>= λ xs. pure (x ∷ xs)

  same_members : (n m : ℕ) (r : Result A Stop) (rest : Tokens) → ((tokens : Tokens) → length tokens ≤ length rest → at_most n separator member tokens ≡ at_most m separator member tokens)
      → go_on r rest (λ x. at_most n separator member >>= λ xs. pure (x ∷ xs)) ≡ go_on r rest (λ x. at_most m separator member >>= λ xs. pure (x ∷ xs))
  same_members n m r rest h =
      and_then_same r rest (λ x. at_most n separator member >>= λ xs. pure (x ∷ xs)) (λ x. at_most m separator member >>= λ xs. pure (x ∷ xs))
      (λ x. ap (λ (s : Step (List A)). and_then s (λ xs. pure (x ∷ xs))) (h rest (omega arith)))

  same_branches : (n m : ℕ) (seen : Option S) (token : Token) (tokens : Tokens)
      → ((others : Tokens) → length others ≤ length tokens → at_most n separator member others ≡ at_most m separator member others)
      → branched seen (Next n) (pure []) (token ∷ tokens) ≡ branched seen (Next m) (pure []) (token ∷ tokens)
  same_branches n m None token tokens h = refl
  same_branches n m (Some s) token tokens h =
      same_members n m (member s tokens).0 (member s tokens).1 (λ others l. h others (omega (arith, shrinks s tokens, l)))

  -- any bound from the number of tokens on is as good as another
  enough : (n m : ℕ) (tokens : Tokens) → length tokens ≤ n → length tokens ≤ m → at_most n separator member tokens ≡ at_most m separator member tokens
  enough zero zero tokens g h = refl
  enough zero (suc m) [] g h = refl
  enough zero (suc m) (token ∷ tokens) g h = absurd (omega arith)
  enough (suc n) zero [] g h = refl
  enough (suc n) zero (token ∷ tokens) g h = absurd (omega arith)
  enough (suc n) (suc m) [] g h = refl
  enough (suc n) (suc m) (token ∷ tokens) g h = same_branches n m (separator token) token tokens (λ others l. enough n m others (omega (arith, g, l)) (omega (arith, h, l)))

  pub tails_more : (tokens : Tokens) (s : S) → found separator tokens ≡ Some s
      → tails separator member tokens ≡ and_then (member s (passed tokens)) (λ x. tails separator member >>= λ xs. pure (x ∷ xs))
  unfolding tails
  tails_more [] s e = absurd cc
  tails_more (token ∷ tokens) s e =
      ap (λ (seen : Option S). branched seen (Next (length tokens)) (pure []) (token ∷ tokens)) e
      ∙ and_then_same (member s tokens).0 (member s tokens).1 (λ x. at_most (length tokens) separator member >>= λ xs. pure (x ∷ xs)) (λ x. tails separator member >>= λ xs. pure (x ∷ xs))
      (λ x. ap (λ (s : Step (List A)). and_then s (λ xs. pure (x ∷ xs))) (enough (length tokens) (length (member s tokens).1) (member s tokens).1 (shrinks s tokens) (omega arith)))

  pub tails_done : (tokens : Tokens) → found separator tokens ≡ None → tails separator member tokens ≡ (Ok [], tokens)
  unfolding tails
  tails_done [] e = refl
  tails_done (token ∷ tokens) e = ap (λ (seen : Option S). branched seen (Next (length tokens)) (pure []) (token ∷ tokens)) e

  -- ---- a loop that has read some members, and makes something of all of them

  module _ {B : Type 0} (made : List A → B) where
    -- what the loop reads from here
    abbrev pub Left : List A → Tokens → Step B
    Left front tokens = and_then (tails separator member tokens) (λ others. pure (made (front ++ others)))

    regroup : (front : List A) (x : A) (r : Result (List A) Stop) (rest : Tokens)
        → and_then (go_on r rest (λ xs. pure (x ∷ xs))) (λ others. pure (made (front ++ others))) ≡ go_on r rest (λ others. pure (made ((front ++ x ∷ []) ++ others)))
    regroup front x (Ok xs) rest = ap (λ (l : List A). (Ok (made l), rest)) (sym (append_assoc front (x ∷ []) xs))
    regroup front x (Err e) rest = refl

    pub left_more : (front : List A) (tokens : Tokens) (s : S) (x : A) (rest : Tokens) → found separator tokens ≡ Some s → member s (passed tokens) ≡ (Ok x, rest)
        → Left front tokens ≡ Left (front ++ x ∷ []) rest
    left_more front tokens s x rest e h =
        let go : Step (List A) → Step B = λ s. and_then s (λ others. pure (made (front ++ others))) in
        ap go (tails_more tokens s e ∙ ap (λ (s : Step A). and_then s (λ x. tails separator member >>= λ xs. pure (x ∷ xs))) h)
        ∙ regroup front x (tails separator member rest).0 (tails separator member rest).1

    left_stopped : (front : List A) (tokens : Tokens) (s : S) (why : Stop) (rest : Tokens) → found separator tokens ≡ Some s → member s (passed tokens) ≡ (Err why, rest)
        → Left front tokens ≡ (Err why, rest)
    left_stopped front tokens s why rest e h =
        let go : Step (List A) → Step B = λ s. and_then s (λ others. pure (made (front ++ others))) in
        ap go (tails_more tokens s e ∙ ap (λ (s : Step A). and_then s (λ x. tails separator member >>= λ xs. pure (x ∷ xs))) h)

    pub left_err : (front : List A) (tokens : Tokens) (s : S) (why : Stop) (rest : Tokens) → found separator tokens ≡ Some s → Reads (member s (passed tokens)) (Err why) rest
        → Reads (Left front tokens) (Err why) rest
    left_err front tokens s stop.NoMemory rest e h = tt
    left_err front tokens s stop.Wrong rest e h = left_stopped front tokens s stop.Wrong rest e h
    left_err front tokens s stop.Deep rest e h = left_stopped front tokens s stop.Deep rest e h

    pub left_done : (front : List A) (tokens : Tokens) → found separator tokens ≡ None → Left front tokens ≡ (Ok (made front), tokens)
    left_done front tokens e =
        ap (λ (s : Step (List A)). and_then s (λ others. pure (made (front ++ others)))) (tails_done tokens e)
        ∙ ap (λ (l : List A). (Ok (made l), tokens)) (Rattle.std.proofs.lemmas.List.append-nil front)

  -- a member behind a separator takes the separator at least
  pub member_shorter : (tokens : Tokens) (s : S) (r : Result A Stop) (rest : Tokens)
      → found separator tokens ≡ Some s → member s (passed tokens) ≡ (r, rest) → length rest < length tokens
  member_shorter [] s r rest e f = absurd cc
  member_shorter (token ∷ tokens) s r rest e f =
      let g : length (member s tokens).1 ≡ length rest = ap (λ s. length s.1) f in
      omega (arith, shrinks s tokens, g)
