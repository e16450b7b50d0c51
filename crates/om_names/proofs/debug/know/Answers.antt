use Rattle.std.proofs.Common.{◌∙◌}
use Rattle.om_names.proofs.KnownLemmas.{knows}
use Rattle.om_names.proofs.debug.know.Goals as goal

pub returns : goal.returns
returns c =
    λ tables frames lines_are rules_are variables_are.
    knows c.args.units.now c.args.ranges.now tables frames _ _ _ c.args.names.now c.as_slice.result.now c.in_ok-index.index c.in_ok-functions.functions.names c.len.result c.in_ok-functions.functions.count
    c.requires.names (c.as_slice.ensures ∙ c.in_ok-functions.ensures.claims) c.in_ok-index.ensures.index c.in_ok-functions.ensures.names c.len.ensures c.in_ok-functions.ensures.count
    (record { lines_tell = lines_are; rules_tell = rules_are; variables_tell = variables_are })
