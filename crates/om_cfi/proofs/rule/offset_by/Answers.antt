use Rattle.std.proofs.Common.{SFits, w64, rules, sym, ap, ◌∙◌}
use Rattle.om_cfi.specs.Rules.{if_fits, offset_by}
use Rattle.om_cfi.proofs.RuleLemmas.{product_is}
use Rattle.om_cfi.proofs.rule.offset_by.Goals as goal

pub returns-in-Scaled : goal.returns-in-Scaled
returns-in-Scaled c =
    let z_fits : SFits w64 c.in-Scaled.z = search rules in
    let s_fits : SFits w64 c.args.factors.now.data_alignment = search rules in
    c.if_fits-in-Scaled.ensures ∙ ap if_fits (product_is c.in-Scaled.z c.args.factors.now.data_alignment z_fits s_fits) ∙ ap (offset_by c.args.factors.now.data_alignment) (sym c.in-Scaled.is)
