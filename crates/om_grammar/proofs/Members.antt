-- Members of a list that are made of what a parser reads.
use Rattle.std.proofs.Common.{◌≡◌, Ok, Err, ap}
use Rattle.om_grammar.specs.declared.stop.Stop.{Stop}
use Rattle.om_grammar.specs.declared.stop.Stop.TheVariants as stop
use Rattle.om_grammar.specs.Grammar.{Tokens}
use Rattle.om_grammar.specs.Parsers.{Step, Parser, and_then, ◌>>=◌, pure, Reads}

module _ {A B : Type 0} (parser : Parser A) (make : A → B) where
  pub made_ok : (tokens : Tokens) (x : A) (rest : Tokens) → parser tokens ≡ (Ok x, rest) → (parser >>= λ x. pure (make x)) tokens ≡ (Ok (make x), rest)
  made_ok tokens x rest h = ap (λ (s : Step A). and_then s (λ x. pure (make x))) h

  pub made_err : (tokens : Tokens) (why : Stop) (rest : Tokens) → Reads (parser tokens) (Err why) rest → Reads ((parser >>= λ x. pure (make x)) tokens) (Err why) rest
  made_err tokens stop.NoMemory rest h = tt
  made_err tokens stop.Wrong rest h = ap (λ (s : Step A). and_then s (λ x. pure (make x))) h
  made_err tokens stop.Deep rest h = ap (λ (s : Step A). and_then s (λ x. pure (make x))) h
