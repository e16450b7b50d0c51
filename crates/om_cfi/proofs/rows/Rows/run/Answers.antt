use Rattle.std.proofs.Common.{◌+◌, arith}
use Rattle.std.proofs.lemmas.Result.{on_ok_weaker}
use Rattle.om_cfi.specs.Running.{rules_of}
use Rattle.om_cfi.proofs.RowLemmas.{all_run, none_run, one_run, other_run}
use Rattle.om_cfi.proofs.RuleLemmas.{ended, goes, left_shorter}
use Rattle.om_cfi.proofs.rows.Rows.run.Goals as goal

pub returns-in_default-item : goal.returns-in_default-item
returns-in_default-item c =
    on_ok_weaker c.push.result
    (other_run c.args.it.now.factors (c.args.it.now.first + c.args.it.now.length) (c.from-low.result + c.from.result) c.loop-opcode.low c.loop-opcode.location c.loop-opcode.self _ c.loop-opcode.left.now (rules_of c.loop-opcode.running)
    (omega (arith, c.from-low.ensures, c.from.ensures)) c.loop-opcode.invariant
    c.in-Some.rest.now c.item_in-item.result.1.now c.in-Some.opcode.now c.item_in-item.result.0 c.in-Some.ensures.cases.0 c.item_in-item.ensures.item c.push.new.self c.in_default-item.not-Known)
    c.push.ensures

pub returns-then-not-done : goal.returns-then-not-done
returns-then-not-done c =
    on_ok_weaker c.push-then-not-done.result
    (none_run c.args.it.now.factors (c.args.it.now.first + c.args.it.now.length) (c.from-low.result + c.from.result) c.loop-opcode.low c.loop-opcode.location c.loop-opcode.self _ c.loop-opcode.left.now (rules_of c.loop-opcode.running)
    (omega (arith, c.from-low.ensures, c.from.ensures)) c.loop-opcode.invariant
    c.in-Some.rest.now c.item_in-item.result.1.now c.in-Some.opcode.now c.item_in-item.result.0 c.in-Some.ensures.cases.0 c.item_in-item.ensures.item c.item_in-item.ensures.rest c.in-Known.instruction c.in-Known.is
    c.push-then-not-done.new.self (ended c.done.result c.done.new.self _ c.done.ensures c.if-not-done.true))
    c.push-then-not-done.ensures

pub loop-opcode-smaller : goal.loop-opcode-smaller
loop-opcode-smaller c = left_shorter c.loop-opcode.left.now c.in-Some.rest.now c.item_in-item.result.1.now c.in-Some.opcode.now c.in-Some.ensures.cases.0 c.item_in-item.ensures.rest

pub loop-opcode-preserved : goal.loop-opcode-preserved
loop-opcode-preserved c =
    one_run c.args.it.now.factors (c.args.it.now.first + c.args.it.now.length) (c.from-low.result + c.from.result) c.loop-opcode.low c.loop-opcode.location c.loop-opcode.self _ c.loop-opcode.left.now (rules_of c.loop-opcode.running)
    (omega (arith, c.from-low.ensures, c.from.ensures)) c.loop-opcode.invariant
    c.in-Some.rest.now c.item_in-item.result.1.now c.in-Some.opcode.now c.item_in-item.result.0 c.in-Some.ensures.cases.0 c.item_in-item.ensures.item c.item_in-item.ensures.rest c.in-Known.instruction c.in-Known.is
    c.rise.new.self (rules_of c.done.new.self) c.in_force.result c.moved-location.result c.in_ok-low.low (goes c.done.result c.done.new.self _ c.done.ensures c.if-not-done.false) c.in_force.ensures c.moved-location.ensures
    c.in_ok-low.ensures.low c.in_ok-low.ensures.rows

pub returns : goal.returns
returns c =
    on_ok_weaker c.push-2.result
    (all_run c.args.it.now.factors (c.args.it.now.first + c.args.it.now.length) (c.from-low.result + c.from.result) c.loop-opcode.low c.loop-opcode.location c.loop-opcode.self _ c.loop-opcode.left.now (rules_of c.loop-opcode.running)
    (omega (arith, c.from-low.ensures, c.from.ensures)) c.loop-opcode.invariant
    c.push-2.new.self c.in_force-2.result c.in_default.ensures.cases c.in_force-2.ensures)
    c.push-2.ensures
