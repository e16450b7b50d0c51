use Rattle.std.proofs.Common.{◌∙◌, sym, subst, ap, Ok, Err, rules}
use Rattle.om_token.specs.declared.terminal.Terminal.TheVariants as t
use Rattle.om_parse.specs.declared.tree.CondTree.{CondTree}
use Rattle.om_parse.specs.declared.tree.CondTree.TheVariants as cv
use Rattle.om_parse.specs.Grammar.{Tokens}
use Rattle.om_parse.specs.Reading.{Step, one_test, Reads}
use Rattle.om_parse.proofs.ListLemmas.{Left, test_shrinks, left_more, left_err, left_done, member_shorter, eaten, not_eaten}
use Rattle.om_parse.proofs.grammar.joined.Goals as goal

pub returns-in_err-test-2 : goal.returns-in_err-test-2
returns-in_err-test-2 c =
    let next = eaten t.And c.ands.tokens c.eat.new.self c.ands-test.ensures.found c.ands-test.ensures.after in
    let read = subst (λ (l : Tokens). Reads (one_test l) (Err c.in_err-test-2.field-0.0) c.test-in-ands.new.tokens) next c.in_err-test-2.ensures in
    let left = left_err t.And one_test test_shrinks cv.All c.ands.tests c.ands.tokens c.in_err-test-2.field-0.0 c.test-in-ands.new.tokens (sym c.ands-test.ensures.found) read in
    let all = subst (λ (s : Step CondTree). Reads s (Err c.in_err-test-2.field-0.0) c.test-in-ands.new.tokens) (sym c.ands.invariant) left in
    search rules

pub ands-smaller : goal.ands-smaller
ands-smaller c =
    let next = eaten t.And c.ands.tokens c.eat.new.self c.ands-test.ensures.found c.ands-test.ensures.after in
    let read = ap one_test (sym next) ∙ c.in_ok-test-2.ensures in
    member_shorter t.And one_test test_shrinks c.ands.tokens (Ok c.in_ok-test-2.field-0) c.test-in-ands.new.tokens (sym c.ands-test.ensures.found) read

pub ands-preserved : goal.ands-preserved
ands-preserved c =
    let next = eaten t.And c.ands.tokens c.eat.new.self c.ands-test.ensures.found c.ands-test.ensures.after in
    let read = ap one_test (sym next) ∙ c.in_ok-test-2.ensures in
    let more = left_more t.And one_test test_shrinks cv.All c.ands.tests c.ands.tokens c.in_ok-test-2.field-0 c.test-in-ands.new.tokens (sym c.ands-test.ensures.found) read in
    c.ands.invariant ∙ more ∙ ap (λ l. Left t.And one_test test_shrinks cv.All l c.test-in-ands.new.tokens) (sym c.in_ok-push-3.ensures.ok)

pub returns : goal.returns
returns c =
    let next = not_eaten t.And c.ands.tokens c.eat.new.self c.ands-test.ensures.found c.ands-test.ensures.after in
    let done = left_done t.And one_test test_shrinks cv.All c.ands.tests c.ands.tokens (sym c.ands-test.ensures.found) in
    c.ands.invariant ∙ done ∙ ap (λ (l : Tokens). (Ok (cv.All c.ands.tests), l)) (sym next)
