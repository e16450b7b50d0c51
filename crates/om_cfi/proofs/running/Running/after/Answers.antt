use Rattle.std.proofs.Common.{sym, ap, ◌∙◌}
use Rattle.std.specs.Option.{option_and_then}
use Rattle.om_cfi.specs.Instructions.{items}
use Rattle.om_cfi.specs.Rules.{after}
use Rattle.om_cfi.specs.Running.{rules_of}
use Rattle.om_cfi.proofs.RuleLemmas.{after_known, after_none, after_other, ended, goes, left_shorter}
use Rattle.om_cfi.proofs.running.Running.after.Goals as goal

pub returns-in_default-item : goal.returns-in_default-item
returns-in_default-item c =
    sym (after_other c.args.factors.now.data_alignment c.loop-opcode.left.now c.in-Some.rest.now c.in-Some.opcode.now c.item_in-item.result.0 (rules_of c.loop-opcode.self) c.in-Some.ensures.cases.0 c.item_in-item.ensures.item c.in_default-item.not-Known)
    ∙ c.loop-opcode.invariant

pub returns-then-not-done : goal.returns-then-not-done
returns-then-not-done c =
    sym (after_known c.args.factors.now.data_alignment c.loop-opcode.left.now c.in-Some.rest.now c.item_in-item.result.1.now c.in-Some.opcode.now c.item_in-item.result.0 c.in-Known.instruction (rules_of c.loop-opcode.self)
    c.in-Some.ensures.cases.0 c.item_in-item.ensures.item c.item_in-item.ensures.rest c.in-Known.is
    ∙ ap (option_and_then (after c.args.factors.now.data_alignment (items 0 c.item_in-item.result.1.now))) (ended c.done.result c.done.new.self _ c.done.ensures c.if-not-done.true))
    ∙ c.loop-opcode.invariant

pub loop-opcode-smaller : goal.loop-opcode-smaller
loop-opcode-smaller c = left_shorter c.loop-opcode.left.now c.in-Some.rest.now c.item_in-item.result.1.now c.in-Some.opcode.now c.in-Some.ensures.cases.0 c.item_in-item.ensures.rest

pub loop-opcode-preserved : goal.loop-opcode-preserved
loop-opcode-preserved c =
    sym (after_known c.args.factors.now.data_alignment c.loop-opcode.left.now c.in-Some.rest.now c.item_in-item.result.1.now c.in-Some.opcode.now c.item_in-item.result.0 c.in-Known.instruction (rules_of c.loop-opcode.self)
    c.in-Some.ensures.cases.0 c.item_in-item.ensures.item c.item_in-item.ensures.rest c.in-Known.is
    ∙ ap (option_and_then (after c.args.factors.now.data_alignment (items 0 c.item_in-item.result.1.now))) (goes c.done.result c.done.new.self _ c.done.ensures c.if-not-done.false))
    ∙ c.loop-opcode.invariant

pub returns : goal.returns
returns c = sym (after_none c.args.factors.now.data_alignment c.loop-opcode.left.now (rules_of c.loop-opcode.self) c.in_default.ensures.cases) ∙ c.loop-opcode.invariant
