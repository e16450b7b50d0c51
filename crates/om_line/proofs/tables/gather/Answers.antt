use Rattle.om_line.specs.declared.fault.LineFault.TheVariants.{NoMemory}
use Rattle.om_line.proofs.SharingLemmas.{covered_on, head_fails, none_so_far, ran_on, table_fails}
use Rattle.om_line.proofs.tables.gather.Goals.{then-not-is_covered+in-Ok-add_table, else-not-is_covered}
use Rattle.om_line.proofs.tables.gather.Goals as goal

pub loop-at-init : goal.loop-at-init
loop-at-init c = none_so_far c.args.section.now c.args.offsets.now c.new-gathered.result c.new-gathered.ensures

pub returns-in-Err-clause-fault : goal.returns-in-Err-clause-fault
returns-in-Err-clause-fault c =
    head_fails c.args.section.now c.args.offsets.now c.loop-at.rest.now c.in-Some.others.now c.in-Some.at.now c.loop-at.gathered c.loop-at.shared c.in-Err.fault NoMemory c.loop-at.invariant c.in-Some.ensures.cases.0 c.in-Err.ensures.fault

pub returns-in-Err-add_table-clause-fault : goal.returns-in-Err-add_table-clause-fault
returns-in-Err-add_table-clause-fault c =
    table_fails c.args.section.now c.args.offsets.now c.loop-at.rest.now c.in-Some.others.now c.in-Some.at.now c.loop-at.gathered c.loop-at.shared c.in-Err-add_table.fault NoMemory c.loop-at.invariant c.in-Some.ensures.cases.0
    (c.in-Err-add_table.ensures.fault c.args.section.now c.in-Some.at.now c.in-Ok.ensures.table)

pub loop-at-preserved-then-if-drop : goal.loop-at-preserved-then-if-drop
loop-at-preserved-then-if-drop c = elim c.if-not-is_covered.branch [
  | then-not-is_covered+in-Ok-add_table w ↦ rw (w.gathered-is, w.shared-is)
      (ran_on c.args.section.now c.args.offsets.now c.loop-at.rest.now c.in-Some.others.now c.in-Some.at.now c.loop-at.gathered w.add_table.new.gathered c.loop-at.shared w.in-Ok-add_table.shared c.loop-at.invariant c.in-Some.ensures.cases.0
      (w.in-Ok-add_table.ensures.adds c.args.section.now c.in-Some.at.now c.in-Ok.ensures.table))
  | else-not-is_covered w ↦ rw (w.gathered-is, w.shared-is)
      (covered_on c.args.section.now c.args.offsets.now c.loop-at.rest.now c.in-Some.others.now c.in-Some.at.now c.loop-at.gathered c.loop-at.shared c.in-Ok.table c.loop-at.invariant c.in-Some.ensures.cases.0 c.in-Ok.ensures.table
      (c.is_covered.ensures w.if-not-is_covered.false))
]

pub loop-at-preserved : goal.loop-at-preserved
loop-at-preserved c = elim c.if-not-is_covered.branch [
  | then-not-is_covered+in-Ok-add_table w ↦ rw (w.gathered-is, w.shared-is)
      (ran_on c.args.section.now c.args.offsets.now c.loop-at.rest.now c.in-Some.others.now c.in-Some.at.now c.loop-at.gathered w.add_table.new.gathered c.loop-at.shared w.in-Ok-add_table.shared c.loop-at.invariant c.in-Some.ensures.cases.0
      (w.in-Ok-add_table.ensures.adds c.args.section.now c.in-Some.at.now c.in-Ok.ensures.table))
  | else-not-is_covered w ↦ rw (w.gathered-is, w.shared-is)
      (covered_on c.args.section.now c.args.offsets.now c.loop-at.rest.now c.in-Some.others.now c.in-Some.at.now c.loop-at.gathered c.loop-at.shared c.in-Ok.table c.loop-at.invariant c.in-Some.ensures.cases.0 c.in-Ok.ensures.table
      (c.is_covered.ensures w.if-not-is_covered.false))
]
