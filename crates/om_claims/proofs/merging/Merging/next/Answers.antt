use Rattle.std.proofs.Common.{rules}
use Rattle.om_claims.proofs.MergeLemmas.{next_by, next_none}
use Rattle.om_claims.proofs.merging.Merging.next.Goals as goal

pub returns-in_err-from : goal.returns-in_err-from
returns-in_err-from c =
    rw c.from_residual.ensures
    (next_none c.args.claims.now c.args.self.now.first.owner c.args.self.now.second.owner c.args.self.now.first.pieces.now c.args.self.now.second.pieces.now
    (search rules))

pub returns : goal.returns
returns c =
    rw (c.deeper-owner.ensures)
    (next_by c.args.claims.now c.args.self.now.first.owner c.args.self.now.second.owner c.args.self.now.first.pieces.now c.args.self.now.second.pieces.now c.in_ok-from.from
    _ _ (search rules) c.pass.ensures c.pass-2.ensures)
