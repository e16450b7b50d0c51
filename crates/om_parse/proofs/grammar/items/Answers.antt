use Rattle.std.proofs.Common.{◌∙◌, sym, subst, ap, List, Ok, Err, rules}
use Rattle.om_token.specs.declared.terminal.Terminal.TheVariants as t
use Rattle.om_parse.specs.declared.tree.Item.{Item}
use Rattle.om_parse.specs.Grammar.{Tokens}
use Rattle.om_parse.specs.Reading.{Step, item, Reads}
use Rattle.om_parse.proofs.ListLemmas.{Left, item_shrinks, left_more, left_err, left_done, member_shorter, eaten, not_eaten}
use Rattle.om_parse.proofs.grammar.items.Goals as goal

pub returns-in_err-item-2 : goal.returns-in_err-item-2
returns-in_err-item-2 c =
    let next = eaten t.Comma c.commas.tokens c.eat.new.self c.commas-test.ensures.found c.commas-test.ensures.after in
    let read = subst (λ (l : Tokens). Reads (item l) (Err c.in_err-item-2.field-0.0) c.item-in-commas.new.tokens) next c.in_err-item-2.ensures in
    let left = left_err t.Comma item item_shrinks (λ items. items) c.commas.items c.commas.tokens c.in_err-item-2.field-0.0 c.item-in-commas.new.tokens (sym c.commas-test.ensures.found) read in
    let all = subst (λ (s : Step (List Item)). Reads s (Err c.in_err-item-2.field-0.0) c.item-in-commas.new.tokens) (sym c.commas.invariant) left in
    search rules

pub commas-smaller : goal.commas-smaller
commas-smaller c =
    let next = eaten t.Comma c.commas.tokens c.eat.new.self c.commas-test.ensures.found c.commas-test.ensures.after in
    let read = ap item (sym next) ∙ c.in_ok-item-2.ensures in
    member_shorter t.Comma item item_shrinks c.commas.tokens (Ok c.in_ok-item-2.field-0) c.item-in-commas.new.tokens (sym c.commas-test.ensures.found) read

pub commas-preserved : goal.commas-preserved
commas-preserved c =
    let next = eaten t.Comma c.commas.tokens c.eat.new.self c.commas-test.ensures.found c.commas-test.ensures.after in
    let read = ap item (sym next) ∙ c.in_ok-item-2.ensures in
    let more = left_more t.Comma item item_shrinks (λ items. items) c.commas.items c.commas.tokens c.in_ok-item-2.field-0 c.item-in-commas.new.tokens (sym c.commas-test.ensures.found) read in
    c.commas.invariant ∙ more ∙ ap (λ l. Left t.Comma item item_shrinks (λ items. items) l c.item-in-commas.new.tokens) (sym c.in_ok-push-2.ensures.ok)

pub returns : goal.returns
returns c =
    let next = not_eaten t.Comma c.commas.tokens c.eat.new.self c.commas-test.ensures.found c.commas-test.ensures.after in
    let done = left_done t.Comma item item_shrinks (λ items. items) c.commas.items c.commas.tokens (sym c.commas-test.ensures.found) in
    c.commas.invariant ∙ done ∙ ap (λ (l : Tokens). (Ok (c.commas.items), l)) (sym next)
