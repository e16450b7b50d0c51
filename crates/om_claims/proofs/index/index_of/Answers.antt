use Rattle.std.proofs.Common.{rules, ap, ◌∙◌}
use Rattle.om_claims.specs.Pieces.{owner_in}
use Rattle.om_claims.proofs.BestLemmas.{all_pieces}
use Rattle.om_claims.proofs.index.index_of.Goals as goal

pub returns-clause-index : goal.returns-clause-index
returns-clause-index c address =
    ap (λ ps. owner_in ps address) c.from_vec.ensures
    ∙ all_pieces c.args.claims.now c.in-Ok.count c.in_ok-pieces.pieces.items (search rules) c.in_ok-pieces.ensures address
