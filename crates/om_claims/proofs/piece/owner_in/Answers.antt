use Rattle.std.proofs.Common.{leb, None, arith, rules}
use Rattle.std.proofs.lemmas.List.Sorted.{IsPartitionPoint-from_clause, IsPartitionedBy-leb}
use Rattle.om_claims.proofs.PieceLemmas.{at_none, at_some, rising, tidy_rise}
use Rattle.om_claims.proofs.piece.owner_in.Goals as goal

pub returns-then-place-eq0 : goal.returns-then-place-eq0
returns-then-place-eq0 c =
    let parted = IsPartitionedBy-leb (λ p. p.from) c.args.pieces.now c.args.address (rising 0 c.args.pieces.now (tidy_rise 0 None c.args.pieces.now c.requires)) in
    at_none c.args.pieces.now c.args.address c.partition_point-place.result c.if-place-eq0.true
    (IsPartitionPoint-from_clause (λ p. leb p.from c.args.address) _ _ c.partition_point-place.ensures.partitioned parted (λ a r q k. search rules))

pub returns : goal.returns
returns c =
    let parted = IsPartitionedBy-leb (λ p. p.from) c.args.pieces.now c.args.address (rising 0 c.args.pieces.now (tidy_rise 0 None c.args.pieces.now c.requires)) in
    at_some c.args.pieces.now c.args.address c.partition_point-place.result _ (omega arith) c.partition_point-place.ensures.bound
    (IsPartitionPoint-from_clause (λ p. leb p.from c.args.address) _ _ c.partition_point-place.ensures.partitioned parted (λ a r q k. search rules))
