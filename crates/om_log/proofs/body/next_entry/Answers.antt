use Rattle.std.proofs.Common.{◌<◌, ◌≤◌, arith, sym}
use Rattle.std.proofs.lemmas.Bool.{iff_false}
use Rattle.om_log.specs.Grammar.{step_of}
use Rattle.om_log.proofs.BodyLaws.{refused_end, refused_kind, refused_short, refused_cause, refused_order, first_is}
use Rattle.om_log.proofs.FieldLaws.{IsBytes}
use Rattle.om_log.proofs.body.next_entry.Goals as goal

pub returns-in_default-clause-fault : goal.returns-in_default-clause-fault
returns-in_default-clause-fault c = refused_end c.args.least c.args.at c.args.rest.now (sym c.in_default.ensures.value)

pub returns-then-not-is_kind-clause-fault : goal.returns-then-not-is_kind-clause-fault
returns-then-not-is_kind-clause-fault c =
    refused_kind c.args.least c.args.at c.args.rest.now c.in-Some.kind.now (sym c.in-Some.ensures.value) (iff_false c.is_kind.ensures c.if-not-is_kind.true)

pub returns-in_default-entry_of-clause-fault : goal.returns-in_default-entry_of-clause-fault
returns-in_default-entry_of-clause-fault c =
    refused_short c.args.least c.args.at c.args.rest.now c.in-Some.kind.now (sym c.in-Some.ensures.value) (c.is_kind.ensures.0 c.if-not-is_kind.false)
    c.in_default-entry_of.ensures

pub returns-then-not-has_cause-clause-fault : goal.returns-then-not-has_cause-clause-fault
returns-then-not-has_cause-clause-fault c =
    let bytes : IsBytes c.args.rest.now = λ i. omega (arith, c.type_inv.rest i) in
    refused_cause c.args.least c.args.at c.args.rest.now c.in-Some-entry_of.entry c.in-Some-entry_of.tail.now bytes c.in-Some-entry_of.ensures
    (iff_false c.has_cause.ensures c.if-not-has_cause.true)

pub returns-then-from-least-clause-fault : goal.returns-then-from-least-clause-fault
returns-then-from-least-clause-fault c =
    let bytes : IsBytes c.args.rest.now = λ i. omega (arith, c.type_inv.rest i) in
    let early : step_of c.in-Some-entry_of.entry < c.args.least = omega (arith, c.if-from-least.true, c.from.ensures, c.step.ensures) in
    refused_order c.args.least c.args.at c.args.rest.now c.in-Some-entry_of.entry c.in-Some-entry_of.tail.now bytes c.in-Some-entry_of.ensures
    (c.has_cause.ensures.0 c.if-not-has_cause.false) early

pub returns-clause-first : goal.returns-clause-first
returns-clause-first c =
    let bytes : IsBytes c.args.rest.now = λ i. omega (arith, c.type_inv.rest i) in
    let late : c.args.least ≤ step_of c.in-Some-entry_of.entry = omega (arith, c.if-from-least.false, c.from.ensures, c.step.ensures) in
    first_is c.args.least c.args.rest.now c.in-Some-entry_of.entry c.in-Some-entry_of.tail.now bytes c.in-Some-entry_of.ensures
    (c.has_cause.ensures.0 c.if-not-has_cause.false) late
