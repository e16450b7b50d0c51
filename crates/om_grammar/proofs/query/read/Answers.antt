use Rattle.std.proofs.Common.{subst, sym, List, arith}
use Rattle.om_token.specs.declared.token.Token.{Token}
use Rattle.om_token.specs.Tokens.{AreTokens}
use Rattle.om_grammar.specs.Depth.{IsTooDeep}
use Rattle.om_grammar.specs.Refusals.{wide, bytes, deep}
use Rattle.om_grammar.proofs.ParseLaws.{token_is_refused}
use Rattle.om_grammar.proofs.query.read.Goals as goal

pub returns-then-text-gt-MAX_LENGTH-clause-fault : goal.returns-then-text-gt-MAX_LENGTH-clause-fault
returns-then-text-gt-MAX_LENGTH-clause-fault c = λ _. wide (omega arith)

pub returns-in-Err-NoToken-clause-fault : goal.returns-in-Err-NoToken-clause-fault
returns-in-Err-NoToken-clause-fault c =
    let none = rw c.in-Err-NoToken.field-0-is at c.in-Err-NoToken.ensures.err in
    rw c.in-Err-NoToken.at-is (λ _. bytes (omega arith) none)

pub returns-in-Some-clause-fault : goal.returns-in-Some-clause-fault
returns-in-Some-clause-fault c = λ _. deep (omega arith) c.in-Ok.ensures.ok (subst (λ (l : List Token). IsTooDeep l c.in-Some.at) c.as_slice-tokens.ensures c.in-Some.ensures.some)

pub returns-clause-fault : goal.returns-clause-fault
returns-clause-fault c =
    let cut = subst (λ (l : List Token). AreTokens c.args.text.now l) (sym c.as_slice-tokens.ensures) c.in-Ok.ensures.ok in
    let shallow = c.too_deep.ensures.none c.in_default.is in
    token_is_refused c.args.text.now c.as_slice-tokens.result.now c.parse_tokens.result (omega arith) cut shallow c.parse_tokens.ensures.fault
