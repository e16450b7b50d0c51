use Rattle.std.proofs.Common.{◌≡◌, ◌<◌, length, List, Some, ap, sym, ◌∙◌, subst, arith}
use Rattle.std.proofs.lemmas.Grind.{common_steps}
use Rattle.om_token.specs.declared.token.Token.{Token}
use Rattle.om_token.specs.declared.token.Piece.{Piece}
use Rattle.om_token.specs.declared.token.Piece.TheVariants as p
use Rattle.om_token.specs.Cutting.{cut}
use Rattle.om_token.proofs.TokenLaws.{UpTo, splits_length, up_to_none, up_to_blank, up_to_token, up_to_bad, cut_shorter}
use Rattle.om_token.proofs.tokenizer.tokens.Goals as goal

pub loop-rest-init : goal.loop-rest-init
loop-rest-init c = rw c.new-tokens.ensures (up_to_none c.args.text.now)

pub overflow_sub-at : goal.overflow_sub-at
overflow_sub-at c = omega (arith, splits_length c.loop-rest.invariant)

pub returns-in_default-clause-err : goal.returns-in_default-clause-err
returns-in_default-clause-err c =
    let some : 0 < length c.loop-rest.rest.now = grind (arith, common_steps) in
    up_to_bad c.args.text.now c.loop-rest.tokens c.loop-rest.rest.now c.loop-rest.invariant some (sym c.in_default.ensures.cut)

pub loop-rest-smaller-in_ok-push : goal.loop-rest-smaller-in_ok-push
loop-rest-smaller-in_ok-push c = cut_shorter c.loop-rest.rest.now c.in-Some.piece c.in-Some.after.now (sym c.in-Some.ensures.cut)

pub loop-rest-preserved-in_ok-push : goal.loop-rest-preserved-in_ok-push
loop-rest-preserved-in_ok-push c =
    let e : cut c.loop-rest.rest.now ≡ Some (p.Token c.in-Token.kind, c.in-Some.after.now) = sym c.in-Some.ensures.cut ∙ ap (λ (x : Piece). Some (x, c.in-Some.after.now)) c.in-Token.is in
    subst (λ (l : List Token). UpTo c.args.text.now l c.in-Some.after.now) (sym c.in_ok-push.ensures.ok) (up_to_token _ _ _ c.in-Token.kind _ c.loop-rest.invariant e)

pub loop-rest-smaller : goal.loop-rest-smaller
loop-rest-smaller c = cut_shorter c.loop-rest.rest.now c.in-Some.piece c.in-Some.after.now (sym c.in-Some.ensures.cut)

pub loop-rest-preserved : goal.loop-rest-preserved
loop-rest-preserved c =
    let e : cut c.loop-rest.rest.now ≡ Some (p.Blank, c.in-Some.after.now) = sym c.in-Some.ensures.cut ∙ ap (λ (x : Piece). Some (x, c.in-Some.after.now)) c.in_default-piece.is in
    up_to_blank c.args.text.now c.loop-rest.tokens c.loop-rest.rest.now c.in-Some.after.now c.loop-rest.invariant e
