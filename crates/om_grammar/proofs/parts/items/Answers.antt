use Rattle.std.proofs.Common.{◌∙◌, sym, subst, ap, List, Ok, Err, rules}
use Rattle.om_token.specs.declared.terminal.Terminal.TheVariants as t
use Rattle.om_grammar.specs.declared.tree.Item.{Item}
use Rattle.om_grammar.specs.Reading.{offset_of, item}
use Rattle.om_grammar.proofs.ConditionShrinks.{item_shrinks}
use Rattle.om_grammar.specs.Grammar.{Tokens}
use Rattle.om_grammar.specs.Parsers.{Step, Reads, behind}
use Rattle.om_grammar.proofs.ListLemmas.{Left, left_more, left_err, left_done, member_shorter}
use Rattle.om_grammar.proofs.parts.items.Goals as goal

pub returns-in_err-item-2 : goal.returns-in_err-item-2
returns-in_err-item-2 c =
    let why = c.in_err-item-2.field-0.0 in
    let rest = c.item-in-Some.new.tokens in
    let read = subst (λ (l : Tokens). Reads (item c.args.depth l) (Err why) rest) c.in-Some.ensures.after c.in_err-item-2.ensures in
    let left = left_err (offset_of t.Comma) (λ _. item c.args.depth) (item_shrinks c.args.depth) (λ items. items) c.commas.items c.commas.tokens c.in-Some.field-0 why rest (sym c.in-Some.ensures.seen) read in
    let all = subst (λ (s : Step (List Item)). Reads s (Err why) rest) (sym c.commas.invariant) left in
    search rules

pub commas-smaller : goal.commas-smaller
commas-smaller c =
    let read = ap (item c.args.depth) (sym c.in-Some.ensures.after) ∙ c.in_ok-item-2.ensures in
    member_shorter (offset_of t.Comma) (λ _. item c.args.depth) (item_shrinks c.args.depth) c.commas.tokens c.in-Some.field-0 (Ok c.in_ok-item-2.field-0) c.item-in-Some.new.tokens (sym c.in-Some.ensures.seen) read

pub commas-preserved : goal.commas-preserved
commas-preserved c =
    let read = ap (item c.args.depth) (sym c.in-Some.ensures.after) ∙ c.in_ok-item-2.ensures in
    let more = left_more (offset_of t.Comma) (λ _. item c.args.depth) (item_shrinks c.args.depth) (λ items. items) c.commas.items c.commas.tokens c.in-Some.field-0 c.in_ok-item-2.field-0 c.item-in-Some.new.tokens (sym c.in-Some.ensures.seen) read in
    c.commas.invariant ∙ more ∙ ap (λ l. Left (offset_of t.Comma) (λ _. item c.args.depth) (item_shrinks c.args.depth) (λ items. items) l c.item-in-Some.new.tokens) (sym c.in_ok-push-2.ensures.ok)

pub returns : goal.returns
returns c =
    let none = sym c.eat.ensures.seen ∙ c.in_default.is in
    let next = c.eat.ensures.after ∙ ap (λ seen. behind seen c.commas.tokens) c.in_default.is in
    c.commas.invariant ∙ left_done (offset_of t.Comma) (λ _. item c.args.depth) (item_shrinks c.args.depth) (λ items. items) c.commas.items c.commas.tokens none ∙ ap (λ (l : Tokens). (Ok (c.commas.items), l)) (sym next)
