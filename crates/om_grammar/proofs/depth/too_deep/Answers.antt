use Rattle.std.proofs.Common.{◌≡◌, Some, None, arith}
use Rattle.std.proofs.lemmas.Grind.{common_steps}
use Rattle.om_grammar.specs.Counts.{first_past}
use Rattle.om_grammar.proofs.DepthLaws.{deep_at, shallow_at}
use Rattle.om_grammar.proofs.depth.too_deep.Goals as goal

pub returns-then-is_past-clause-some : goal.returns-then-is_past-clause-some
returns-then-is_past-clause-some c =
    let found : first_past 0 0 c.args.tokens.now ≡ Some c.token-item.result.at = grind (arith, common_steps) in
    deep_at c.args.tokens.now c.token-item.result.at found

pub returns-clause-none : goal.returns-clause-none
returns-clause-none c _ =
    let found : first_past 0 0 c.args.tokens.now ≡ None = grind (arith, common_steps) in
    shallow_at c.args.tokens.now found
