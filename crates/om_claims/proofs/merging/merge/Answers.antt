use Rattle.std.proofs.Common.{sym, ◌∙◌}
use Rattle.om_claims.specs.Merging.{left_in}
use Rattle.om_claims.proofs.MergeLemmas.{ends, keeps, skips}
use Rattle.om_claims.proofs.merging.merge.Goals as goal

pub loop-piece-preserved-then-eq : goal.loop-piece-preserved-then-eq
loop-piece-preserved-then-eq c =
    skips c.loop-piece.last c.in-Some.piece c.loop-piece.pieces.items (left_in c.args.claims.now c.loop-piece.left) (left_in c.args.claims.now c.next.new.self) _
    c.in-Some.ensures (sym c.if-eq.true ∙ c.eq.ensures) c.loop-piece.invariant

pub loop-piece-preserved : goal.loop-piece-preserved
loop-piece-preserved c =
    keeps c.loop-piece.last c.in-Some.piece c.loop-piece.pieces.items c.push.new.self.items (left_in c.args.claims.now c.loop-piece.left) (left_in c.args.claims.now c.next.new.self) _
    c.in-Some.ensures (sym c.eq.ensures ∙ c.if-eq.false) c.in_ok-push.ensures.items c.loop-piece.invariant

pub returns : goal.returns
returns c = ends c.loop-piece.last c.loop-piece.pieces.items (left_in c.args.claims.now c.loop-piece.left) _ c.in_default.ensures c.loop-piece.invariant
