use Rattle.std.proofs.Common.{◌||◌, sym, ap, ◌∙◌}
use Rattle.std.specs.List.{list_any}
use Rattle.om_cfi.specs.Common.{breaks, is_broken}
use Rattle.om_cfi.specs.Instructions.{items}
use Rattle.om_cfi.proofs.RuleLemmas.{broken_next, broken_none, left_shorter}
use Rattle.om_cfi.proofs.common.is_broken.Goals as goal

pub returns-then-breaks : goal.returns-then-breaks
unfolding is_broken
returns-then-breaks c =
    sym (broken_next c.loop-opcode.left.now c.in-Some.rest.now c.item_in-item.result.1.now c.in-Some.opcode.now c.item_in-item.result.0 c.in-Some.ensures.cases.0 c.item_in-item.ensures.item c.item_in-item.ensures.rest
    ∙ ap (λ b. b || list_any breaks (items 0 c.item_in-item.result.1.now)) (sym c.breaks.ensures ∙ c.if-breaks.true)) ∙ c.loop-opcode.invariant

pub loop-opcode-smaller : goal.loop-opcode-smaller
loop-opcode-smaller c = left_shorter c.loop-opcode.left.now c.in-Some.rest.now c.item_in-item.result.1.now c.in-Some.opcode.now c.in-Some.ensures.cases.0 c.item_in-item.ensures.rest

pub loop-opcode-preserved : goal.loop-opcode-preserved
loop-opcode-preserved c =
    sym (broken_next c.loop-opcode.left.now c.in-Some.rest.now c.item_in-item.result.1.now c.in-Some.opcode.now c.item_in-item.result.0 c.in-Some.ensures.cases.0 c.item_in-item.ensures.item c.item_in-item.ensures.rest
    ∙ ap (λ b. b || list_any breaks (items 0 c.item_in-item.result.1.now)) (sym c.breaks.ensures ∙ c.if-breaks.false)) ∙ c.loop-opcode.invariant

pub returns : goal.returns
unfolding is_broken
returns c = sym (broken_none c.loop-opcode.left.now c.in_default.ensures.cases) ∙ c.loop-opcode.invariant
