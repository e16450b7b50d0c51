use Rattle.std.proofs.Common.{◌∙◌, sym, subst, ap, Ok}
use Rattle.om_token.specs.declared.terminal.Terminal.TheVariants as t
use Rattle.om_parse.specs.declared.tree.CondTree.{CondTree}
use Rattle.om_parse.specs.Grammar.{Tokens}
use Rattle.om_parse.specs.Reading.{Step, joined, Reads}
use Rattle.om_parse.proofs.ListLemmas.{eaten, not_eaten, cond_alone, cond_joined}
use Rattle.om_parse.proofs.grammar.cond.Goals as goal

pub returns-then-eat : goal.returns-then-eat
returns-then-eat c =
    let next = eaten t.And c.test.new.tokens c.eat.new.self c.if-eat.ensures.found c.if-eat.ensures.after in
    let all = cond_joined c.args.tokens.now c.in_ok-first.first c.test.new.tokens c.in_ok-first.ensures (sym c.if-eat.ensures.found) in
    subst (λ (s : Step CondTree). Reads s c.joined.result c.joined.new.tokens) (sym (all ∙ ap (joined c.in_ok-first.first) (sym next))) c.joined.ensures

pub returns-else-eat : goal.returns-else-eat
returns-else-eat c =
    let next = not_eaten t.And c.test.new.tokens c.eat.new.self c.if-eat.ensures.found c.if-eat.ensures.after in
    cond_alone c.args.tokens.now c.in_ok-first.first c.test.new.tokens c.in_ok-first.ensures (sym c.if-eat.ensures.found)
    ∙ ap (λ (l : Tokens). (Ok c.in_ok-first.first, l)) (sym next)
