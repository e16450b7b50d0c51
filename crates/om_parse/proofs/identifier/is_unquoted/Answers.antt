use Rattle.std.proofs.Common.{◌≡◌, ℕ, Bool, true, false, not, List, [], ◌∷◌, IfSome, Option, Some, None, Bor, refl, sym, ap, ◌∙◌}
use Rattle.std.specs.Option.{is_some}
use Rattle.std.specs.Str.{bytes_eq}
use Rattle.std.proofs.lemmas.List.{append-nil}
use Rattle.om_token.specs.Quotes.{unquoted}
use Rattle.om_parse.proofs.identifier.is_unquoted.Goals as goal

nothing_said : (first : Option (ℕ × Bor (List ℕ))) (said : List ℕ) (isnt : Bool) → (first ≡ None → said ≡ []) → IfSome first (λ x. said ≡ x.0 ∷ unquoted 34 x.1.now) → is_some first ≡ not isnt → isnt ≡ bytes_eq said []
nothing_said None said true none some is = rw (none refl) refl
nothing_said None said false none some is = absurd cc
nothing_said (Some x) said true none some is = absurd cc
nothing_said (Some x) said false none some is = rw some refl

pub returns-in-Some : goal.returns-in-Some
returns-in-Some c =
    nothing_said c.first_said.result (unquoted 34 c.in-Some.rest.now) c.is_none.result c.first_said.ensures.none c.first_said.ensures.some c.is_none.ensures
    ∙ sym (c.in-Some.ensures []) ∙ ap (λ bytes. bytes_eq (unquoted 34 c.args.inside.now) bytes) (append-nil c.args.bytes.now)

pub returns-in-None : goal.returns-in-None
returns-in-None c = sym (c.in-None.ensures []) ∙ ap (λ bytes. bytes_eq (unquoted 34 c.args.inside.now) bytes) (append-nil c.args.bytes.now)
