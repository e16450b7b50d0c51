-- Lists whose members stand behind separators, one member after the other.
use Rattle.std.proofs.Common.{◌≡◌, ℕ, zero, suc, ◌<◌, ◌≤◌, true, false, cond, List, [], ◌∷◌, ◌++◌, length, Option, Some, None, Result, Ok, Err, refl, sym, ap, ◌∙◌, append_assoc, arith}
use Rattle.om_token.specs.declared.token.Token.{Token}
use Rattle.om_token.specs.declared.terminal.Terminal.{Terminal}
use Rattle.om_parse.specs.declared.cursor.Stop.{Stop}
use Rattle.om_parse.specs.declared.cursor.Stop.TheVariants as stop
use Rattle.om_token.specs.declared.terminal.Terminal.TheVariants as t
use Rattle.om_parse.specs.declared.tree.CondTree.{CondTree}
use Rattle.om_parse.specs.Reading as reading
use Rattle.om_parse.specs.Grammar.{Tokens, all_of}
use Rattle.om_parse.specs.declared.tree.Item.{Item}
use Rattle.om_parse.specs.declared.tree.ExprTree.TheVariants as e
use Rattle.om_parse.specs.declared.tree.CondTree.TheVariants as c
use Rattle.om_parse.specs.Reading.{column, column_named, identifier_in, operator, operator_at, operator_in, numeral, numeral_of, item, one_test, joined, Step, Parser, go_on, and_then, ◌>>=◌, pure, one, chosen, is, begins, passed, at_most, tails, Reads}

-- ---- steps

-- what follows a step depends only on what the step gives
and_then_same : {A B : Type 0} (r : Result A Stop) (rest : Tokens) (f g : A → Parser B) → ((x : A) → f x rest ≡ g x rest) → go_on r rest f ≡ go_on r rest g
and_then_same (Ok x) rest f g h = h x
and_then_same (Err e) rest f g h = refl

pub and_then_assoc : {A B C : Type 0} (r : Result A Stop) (rest : Tokens) (f : A → Parser B) (g : B → Parser C)
    → and_then (go_on r rest f) g ≡ go_on r rest (λ x tokens. and_then (f x tokens) g)
and_then_assoc (Ok x) rest f g = refl
and_then_assoc (Err e) rest f g = refl

-- ---- a parser leaves no more tokens than it was given

abbrev pub Shrinks : {A : Type 0} → Parser A → Type 0
Shrinks p = (tokens : Tokens) → length (p tokens).1 ≤ length tokens

chosen_shrinks : {A : Type 0} (found : Option A) (token : Token) (rest : Tokens) → length (chosen found token rest).1 ≤ suc (length rest)
chosen_shrinks None token rest = omega arith
chosen_shrinks (Some x) token rest = omega arith

pub one_shrinks : {A : Type 0} (read : Token → Option A) → Shrinks (one read)
one_shrinks read [] = omega arith
one_shrinks read (token ∷ rest) = chosen_shrinks (read token) token rest

go_on_shrinks : {A B : Type 0} (r : Result A Stop) (rest : Tokens) (f : A → Parser B) (n : ℕ) → length rest ≤ n → ((x : A) → Shrinks (f x)) → length (go_on r rest f).1 ≤ n
go_on_shrinks (Ok x) rest f n h g = omega (arith, g x rest)
go_on_shrinks (Err e) rest f n h g = h

pub bind_shrinks : {A B : Type 0} (p : Parser A) (f : A → Parser B) → Shrinks p → ((x : A) → Shrinks (f x)) → Shrinks (p >>= f)
bind_shrinks p f h g tokens = go_on_shrinks (p tokens).0 (p tokens).1 f (length tokens) (h tokens) g

pub pure_shrinks : {A : Type 0} (x : A) → Shrinks (pure x)
pure_shrinks x tokens = omega arith

-- ---- more of a list

module _ {A : Type 0} (separator : Terminal) (member : Parser A) (shrinks : Shrinks member) where
  same_members : (n m : ℕ) (r : Result A Stop) (rest : Tokens) → ((tokens : Tokens) → length tokens ≤ length rest → at_most n separator member tokens ≡ at_most m separator member tokens)
      → go_on r rest (λ x. at_most n separator member >>= λ xs. pure (x ∷ xs)) ≡ go_on r rest (λ x. at_most m separator member >>= λ xs. pure (x ∷ xs))
  same_members n m r rest h =
      and_then_same r rest (λ x. at_most n separator member >>= λ xs. pure (x ∷ xs)) (λ x. at_most m separator member >>= λ xs. pure (x ∷ xs))
      (λ x. ap (λ (s : Step (List A)). and_then s (λ xs. pure (x ∷ xs))) (h rest (omega arith)))

  -- any bound from the number of tokens on is as good as another
  enough : (n m : ℕ) (tokens : Tokens) → length tokens ≤ n → length tokens ≤ m → at_most n separator member tokens ≡ at_most m separator member tokens
  enough zero zero tokens g h = refl
  enough zero (suc m) [] g h = refl
  enough zero (suc m) (token ∷ tokens) g h = absurd (omega arith)
  enough (suc n) zero [] g h = refl
  enough (suc n) zero (token ∷ tokens) g h = absurd (omega arith)
  enough (suc n) (suc m) [] g h = refl
  enough (suc n) (suc m) (token ∷ tokens) g h =
      ap (λ (s : Step (List A)). cond (is separator token.kind) s (Ok [], token ∷ tokens))
      (same_members n m (member tokens).0 (member tokens).1
      (λ others l. enough n m others (omega (arith, shrinks tokens)) (omega (arith, shrinks tokens))))

  pub tails_more : (tokens : Tokens) → begins separator tokens ≡ true
      → tails separator member tokens ≡ and_then (member (passed tokens)) (λ x. tails separator member >>= λ xs. pure (x ∷ xs))
  unfolding tails
  tails_more [] e = absurd cc
  tails_more (token ∷ tokens) e =
      rw e (and_then_same (member tokens).0 (member tokens).1 (λ x. at_most (length tokens) separator member >>= λ xs. pure (x ∷ xs)) (λ x. tails separator member >>= λ xs. pure (x ∷ xs))
      (λ x. ap (λ (s : Step (List A)). and_then s (λ xs. pure (x ∷ xs))) (enough (length tokens) (length (member tokens).1) (member tokens).1 (shrinks tokens) (omega arith))))

  pub tails_done : (tokens : Tokens) → begins separator tokens ≡ false → tails separator member tokens ≡ (Ok [], tokens)
  unfolding tails
  tails_done [] e = refl
  tails_done (token ∷ tokens) e = rw e refl

  -- ---- a loop that has read some members, and makes something of all of them

  module _ {B : Type 0} (made : List A → B) where
    -- what the loop reads from here
    abbrev pub Left : List A → Tokens → Step B
    Left front tokens = and_then (tails separator member tokens) (λ others. pure (made (front ++ others)))

    regroup : (front : List A) (x : A) (r : Result (List A) Stop) (rest : Tokens)
        → and_then (go_on r rest (λ xs. pure (x ∷ xs))) (λ others. pure (made (front ++ others))) ≡ go_on r rest (λ others. pure (made ((front ++ x ∷ []) ++ others)))
    regroup front x (Ok xs) rest = ap (λ (l : List A). (Ok (made l), rest)) (sym (append_assoc front (x ∷ []) xs))
    regroup front x (Err e) rest = refl

    pub left_more : (front : List A) (tokens : Tokens) (x : A) (rest : Tokens) → begins separator tokens ≡ true → member (passed tokens) ≡ (Ok x, rest)
        → Left front tokens ≡ Left (front ++ x ∷ []) rest
    left_more front tokens x rest e h =
        let go : Step (List A) → Step B = λ s. and_then s (λ others. pure (made (front ++ others))) in
        ap go (tails_more tokens e ∙ ap (λ (s : Step A). and_then s (λ x. tails separator member >>= λ xs. pure (x ∷ xs))) h)
        ∙ regroup front x (tails separator member rest).0 (tails separator member rest).1

    pub left_wrong : (front : List A) (tokens : Tokens) (s : Stop) (rest : Tokens) → begins separator tokens ≡ true → member (passed tokens) ≡ (Err s, rest)
        → Left front tokens ≡ (Err s, rest)
    left_wrong front tokens s rest e h =
        let go : Step (List A) → Step B = λ s. and_then s (λ others. pure (made (front ++ others))) in
        ap go (tails_more tokens e ∙ ap (λ (s : Step A). and_then s (λ x. tails separator member >>= λ xs. pure (x ∷ xs))) h)

    pub left_err : (front : List A) (tokens : Tokens) (s : Stop) (rest : Tokens) → begins separator tokens ≡ true → Reads (member (passed tokens)) (Err s) rest
        → Reads (Left front tokens) (Err s) rest
    left_err front tokens stop.NoMemory rest e h = tt
    left_err front tokens stop.Wrong rest e h = left_wrong front tokens stop.Wrong rest e h

    pub left_done : (front : List A) (tokens : Tokens) → begins separator tokens ≡ false → Left front tokens ≡ (Ok (made front), tokens)
    left_done front tokens e =
        ap (λ (s : Step (List A)). and_then s (λ others. pure (made (front ++ others)))) (tails_done tokens e)
        ∙ ap (λ (l : List A). (Ok (made l), tokens)) (Rattle.std.proofs.lemmas.List.append-nil front)

-- ---- the members of the two lists

column_shrinks : Shrinks column
unfolding column
column_shrinks tokens = one_shrinks (λ token. column_named token.at (identifier_in token.kind)) tokens

operator_shrinks : Shrinks operator
unfolding operator
operator_shrinks tokens = one_shrinks (λ token. operator_at token.at (operator_in token.kind)) tokens

numeral_shrinks : Shrinks numeral
unfolding numeral
numeral_shrinks tokens = one_shrinks (λ token. numeral_of token.at token.kind) tokens

pub item_shrinks : Shrinks item
unfolding item
item_shrinks tokens = bind_shrinks column (λ name. pure (record { expr = e.Column name })) column_shrinks (λ name. pure_shrinks {A = Item} (record { expr = e.Column name })) tokens

pub test_shrinks : Shrinks one_test
unfolding one_test
test_shrinks tokens =
    bind_shrinks column (λ left. operator >>= λ sign. numeral >>= λ right. pure (c.Compare sign.0 sign.1 (e.Column left) (e.Numeral right))) column_shrinks
    (λ left. bind_shrinks operator (λ sign. numeral >>= λ right. pure (c.Compare sign.0 sign.1 (e.Column left) (e.Numeral right))) operator_shrinks
    (λ sign. bind_shrinks numeral (λ right. pure (c.Compare sign.0 sign.1 (e.Column left) (e.Numeral right))) numeral_shrinks
    (λ right. pure_shrinks (c.Compare sign.0 sign.1 (e.Column left) (e.Numeral right)))))
    tokens

-- a member behind a separator takes the separator at least
pub member_shorter : {A : Type 0} (separator : Terminal) (p : Parser A) → Shrinks p → (tokens : Tokens) (r : Result A Stop) (rest : Tokens)
    → begins separator tokens ≡ true → p (passed tokens) ≡ (r, rest) → length rest < length tokens
member_shorter separator p h [] r rest e f = absurd cc
member_shorter separator p h (token ∷ tokens) r rest e f =
    let g : length (p tokens).1 ≡ length rest = ap (λ s. length s.1) f in
    omega (arith, h tokens, g)

-- what `eat` leaves where it finds the separator
pub eaten : (separator : Terminal) (tokens after : Tokens) → true ≡ begins separator tokens → after ≡ cond (begins separator tokens) (passed tokens) tokens → after ≡ passed tokens
eaten separator tokens after e h = h ∙ ap (λ b. cond b (passed tokens) tokens) (sym e)

-- and where it doesn't
pub not_eaten : (separator : Terminal) (tokens after : Tokens) → false ≡ begins separator tokens → after ≡ cond (begins separator tokens) (passed tokens) tokens → after ≡ tokens
not_eaten separator tokens after e h = h ∙ ap (λ b. cond b (passed tokens) tokens) (sym e)

-- ---- a condition, by its first two tokens

pub cond_alone : (tokens : Tokens) (first : CondTree) (rest : Tokens) → one_test tokens ≡ (Ok first, rest) → begins t.And rest ≡ false → reading.cond tokens ≡ (Ok first, rest)
unfolding reading.cond
cond_alone tokens first rest h e =
    ap (λ (s : Step CondTree). and_then s (λ x. tails t.And one_test >>= λ others. pure (all_of x others))) h
    ∙ ap (λ (s : Step (List CondTree)). and_then s (λ others. pure (all_of first others))) (tails_done t.And one_test test_shrinks rest e)

pub cond_joined : (tokens : Tokens) (first : CondTree) (rest : Tokens) → one_test tokens ≡ (Ok first, rest) → begins t.And rest ≡ true → reading.cond tokens ≡ joined first (passed rest)
unfolding reading.cond joined
cond_joined tokens first rest h e =
    let second = one_test (passed rest) in
    let each : CondTree → Parser (List CondTree) = λ x. tails t.And one_test >>= λ xs. pure (x ∷ xs) in
    let made : List CondTree → Parser CondTree = λ others. pure (all_of first others) in
    ap (λ (s : Step CondTree). and_then s (λ x. tails t.And one_test >>= λ others. pure (all_of x others))) h
    ∙ ap (λ (s : Step (List CondTree)). and_then s made) (tails_more t.And one_test test_shrinks rest e)
    ∙ and_then_assoc second.0 second.1 each made
    ∙ and_then_same second.0 second.1 (λ x tokens. and_then (each x tokens) made) (λ x. tails t.And one_test >>= λ others. pure (c.All (first ∷ x ∷ others)))
    (λ x. and_then_assoc (tails t.And one_test second.1).0 (tails t.And one_test second.1).1 (λ xs. pure (x ∷ xs)) made)
