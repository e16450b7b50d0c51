-- What a step reads and what it leaves, unless more depth is wanted; and how steps join.
use Rattle.std.proofs.Common.{◌≡◌, ℕ, zero, suc, ◌≤◌, List, [], ◌∷◌, ◌++◌, length, Option, Some, None, Ok, Err, refl, sym, ap, subst, append_assoc, arith, ◌⊎◌, inl, inr}
use Rattle.std.proofs.lemmas.List.{length-append}
use Rattle.om_token.specs.declared.token.Token.{Token}
use Rattle.om_token.specs.declared.terminal.Terminal.TheVariants as t
use Rattle.om_token.specs.Terminals.{same}
use Rattle.om_grammar.specs.declared.stop.Stop.TheVariants as stop
use Rattle.om_grammar.specs.Grammar.{Tokens, Lang, terminal, AreMore, AreListed}
use Rattle.om_grammar.specs.Reading.{offset_of, listed}
use Rattle.om_grammar.specs.Parsers.{Step, Parser, and_then, pure, found, branch, at_most, tails}

-- a step stops for want of depth
abbrev pub IsDeep : {A : Type 0} → Step A → Type 0
IsDeep step = (rest : Tokens) × (step ≡ (Err stop.Deep, rest))

-- a parser reads this at these tokens and leaves that, unless it wants more depth
abbrev pub Gives : {A : Type 0} → Parser A → Tokens → A → Tokens → Type 0
Gives p tokens x rest = (p tokens ≡ (Ok x, rest)) ⊎ IsDeep (p tokens)

-- the same of a step
pub data Yields {A : Type 0} (step : Step A) (x : A) (rest : Tokens) : Type 0 where
  reads : step ≡ (Ok x, rest) → Yields step x rest
  wants : (left : Tokens) → step ≡ (Err stop.Deep, left) → Yields step x rest

pub gives_of : {A : Type 0} (p : Parser A) (tokens : Tokens) {x : A} {rest : Tokens} → Yields (p tokens) x rest → Gives p tokens x rest
gives_of p tokens (reads e) = inl e
gives_of p tokens (wants left e) = inr (left, e)

pub yields_pure : {A : Type 0} (x : A) (rest : Tokens) → Yields (pure x rest) x rest
yields_pure x rest = reads refl

pub yields_deep : {A : Type 0} (x : A) (rest left : Tokens) → Yields {A = A} (Err stop.Deep, left) x rest
yields_deep x rest left = wants left refl

-- one step after another
pub yields_then : {A B : Type 0} {step : Step A} {x : A} {middle : Tokens} {y : B} {rest : Tokens} (f : A → Parser B)
    → Yields step x middle → Yields (f x middle) y rest → Yields (and_then step f) y rest
yields_then {y = y} {rest = rest} f (reads e) h = subst (λ (s : Step _). Yields (and_then s f) y rest) (sym e) h
yields_then f (wants left e) h = wants left (ap (λ (s : Step _). and_then s f) e)

-- where the tokens are said otherwise
pub yields_at : {A : Type 0} (p : Parser A) {tokens others : Tokens} {x : A} {rest : Tokens} → tokens ≡ others → Yields (p others) x rest → Yields (p tokens) x rest
yields_at p {x = x} {rest = rest} e h = subst (λ (l : Tokens). Yields (p l) x rest) (sym e) h

-- where a reader sees nothing in the next token
pub yields_missing : {S A : Type 0} (read : Token → Option S) (more : S → Parser A) (other : Parser A) {tokens : Tokens} {x : A} {rest : Tokens}
    → found read tokens ≡ None → Yields (other tokens) x rest → Yields (branch read more other tokens) x rest
yields_missing read more other e h = rw e h

-- ---- lists

module _ {S A : Type 0} (separator : Token → Option S) (member : S → Parser A) where
  -- as many members as there are tokens are enough
  pub record Many (tokens : Tokens) (xs : List A) (rest : Tokens) : Type 0 where
    pub with : (n : ℕ) → length tokens ≤ n → Yields (at_most n separator member tokens) xs rest

  done_with : (tokens : Tokens) → found separator tokens ≡ None → (n : ℕ) → Yields (at_most n separator member tokens) [] tokens
  done_with tokens e zero = reads refl
  done_with tokens e (suc n) = rw e (reads refl)

  pub many_done : {tokens : Tokens} → found separator tokens ≡ None → Many tokens [] tokens
  many_done {tokens} e = record { with = λ n h. done_with tokens e n }

  more_with : (token : Token) (s : S) (u middle : Tokens) (x : A) (xs : List A) (rest : Tokens) → separator token ≡ Some s
      → Yields (member s (u ++ middle)) x middle → Many middle xs rest → (n : ℕ) → length (token ∷ (u ++ middle)) ≤ n → Yields (at_most n separator member (token ∷ (u ++ middle))) (x ∷ xs) rest
  more_with token s u middle x xs rest e h g zero l = absurd (omega arith)
  more_with token s u middle x xs rest e h g (suc n) l =
      let short : length middle ≤ n = omega (arith, length-append u middle) in
      rw e (yields_then _ h (yields_then _ (g.with n short) (reads refl)))

  pub many_more : {token : Token} {s : S} (u : Tokens) {middle : Tokens} {x : A} {xs : List A} {rest : Tokens} → separator token ≡ Some s
      → Yields (member s (u ++ middle)) x middle → Many middle xs rest → Many (token ∷ (u ++ middle)) (x ∷ xs) rest
  many_more {token} {s} u {middle} {x} {xs} {rest} e h g = record { with = more_with token s u middle x xs rest e h g }

  pub yields_tails : {tokens : Tokens} {xs : List A} {rest : Tokens} → Many tokens xs rest → Yields (tails separator member tokens) xs rest
  unfolding tails
  yields_tails {tokens} h = h.with (length tokens) (omega arith)

-- ---- lists behind commas

module _ {A : Type 0} (M : Lang A) (member : Parser A) (Ends : Tokens → Type 0) (at_comma : (at : ℕ) (rest : Tokens) → Ends (terminal at t.Comma ∷ rest))
    (takes : (u : Tokens) (x : A) → M u x → (rest : Tokens) → Ends rest → Yields (member (u ++ rest)) x rest) where
  more_ends : {w : Tokens} {xs : List A} → AreMore t.Comma M w xs → (rest : Tokens) → Ends rest → Ends (w ++ rest)
  more_ends AreMore.none rest ends = ends
  more_ends (AreMore.more {u = u} {w = w} at h g) rest ends = at_comma at ((u ++ w) ++ rest)

  comma_seen : (at : ℕ) → offset_of t.Comma (terminal at t.Comma) ≡ Some at
  unfolding same
  comma_seen at = refl

  more_take : {w : Tokens} {xs : List A} → AreMore t.Comma M w xs → (rest : Tokens) → Ends rest → found (offset_of t.Comma) rest ≡ None
      → Many (offset_of t.Comma) (λ (_ : ℕ). member) (w ++ rest) xs rest
  more_take AreMore.none rest ends none = many_done (offset_of t.Comma) (λ (_ : ℕ). member) none
  more_take (AreMore.more {u = u} {w = w} {x = x} at h g) rest ends none =
      rw (append_assoc u w rest) (many_more (offset_of t.Comma) (λ (_ : ℕ). member) u (comma_seen at) (takes u x h (w ++ rest) (more_ends g rest ends)) (more_take g rest ends none))

  pub listed_takes : {w : Tokens} {xs : List A} → AreListed t.Comma M w xs → (rest : Tokens) → Ends rest → found (offset_of t.Comma) rest ≡ None → Yields (listed member (w ++ rest)) xs rest
  unfolding listed
  listed_takes (AreListed.list {u = u} {w = w} {x = x} h g) rest ends none =
      rw (append_assoc u w rest) (yields_then _ (takes u x h (w ++ rest) (more_ends g rest ends)) (yields_then _ (yields_tails (offset_of t.Comma) (λ (_ : ℕ). member) (more_take g rest ends none)) (reads refl)))
