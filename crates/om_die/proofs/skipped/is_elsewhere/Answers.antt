use Rattle.std.proofs.Common.{◌∙◌, rules}
use Rattle.std.proofs.lemmas.List.Sorted.{IsPartitionPoint-from_clause}
use Rattle.om_die.proofs.ReferenceLaws.{begin_in_order, begins_by, last_decides, nothing_begins}
use Rattle.om_die.proofs.skipped.is_elsewhere.Goals as goal

pub returns-then-behind-eq0 : goal.returns-then-behind-eq0
returns-then-behind-eq0 c =
    let units = c.args.units.now in
    let point = IsPartitionPoint-from_clause (begins_by c.args.offset) units c.partition_point-behind.result c.partition_point-behind.ensures.partitioned (begin_in_order 0 c.args.offset units c.requires) (λ a r q k. search rules) in
    nothing_begins c.args.offset units c.partition_point-behind.result point c.if-behind-eq0.true

pub returns : goal.returns
returns c =
    let units = c.args.units.now in
    let point = IsPartitionPoint-from_clause (begins_by c.args.offset) units c.partition_point-behind.result c.partition_point-behind.ensures.partitioned (begin_in_order 0 c.args.offset units c.requires) (λ a r q k. search rules) in
    c.has.ensures ∙ last_decides c.args.offset units c.partition_point-behind.result _ c.requires c.partition_point-behind.ensures.bound c.if-behind-eq0.false point
