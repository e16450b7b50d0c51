use Rattle.std.proofs.Common.{refl, arith}
use Rattle.std.proofs.lemmas.Result.{IfOk-weaker}
use Rattle.om_claims.specs.Merging.{ArePiecesOf}
use Rattle.om_claims.proofs.BestLemmas.{both_halves, no_pieces, one_claim}
use Rattle.om_claims.proofs.merging.+pieces_within.Goals as goal

pub returns-then-low-high : goal.returns-then-low-high
returns-then-low-high t c = no_pieces c.args.claims.now c.args.low c.args.high c.new.result.items c.if-low-high.true c.new.ensures.items

pub returns-then-low-high-2 : goal.returns-then-low-high-2
returns-then-low-high-2 t c =
    IfOk-weaker c.pieces_of.result _ (λ pieces. ArePiecesOf c.args.claims.now c.args.low c.args.high pieces.items)
    (λ pieces is. one_claim c.args.claims.now c.args.low c.args.high _ _ pieces.items c.if-low-high-2.true c.requires.within refl is) c.pieces_of.ensures

pub returns : goal.returns
returns t c =
    IfOk-weaker c.merge.result _ (λ pieces. ArePiecesOf c.args.claims.now c.args.low c.args.high pieces.items)
    (λ pieces is. both_halves c.args.claims.now c.args.low _ c.args.high c.in_ok-first.first.items c.in_ok-second.second.items c.deref.result.now c.deref-2.result.now pieces.items
    (omega arith) (omega arith) c.in_ok-first.ensures c.in_ok-second.ensures c.deref.ensures.value c.deref-2.ensures.value is) c.merge.ensures
