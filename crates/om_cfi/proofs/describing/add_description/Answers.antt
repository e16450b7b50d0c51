use Rattle.std.proofs.Common.{sym, ap, ◌∙◌}
use Rattle.om_cfi.proofs.DescribingLemmas.{added, ruleless}
use Rattle.om_cfi.proofs.describing.add_description.Goals as goal

pub returns-in_default-clause-rows : goal.returns-in_default-clause-rows
returns-in_default-clause-rows c = ruleless c.args.entry.now c.entry.result.now c.args.kept.now c.args.rows.now c.entry.ensures c.in_default.not-Ruled

pub returns-clause-rows : goal.returns-clause-rows
returns-clause-rows c =
    added c.args.entry.now c.args.kept.now c.in-Ok.description _
    (record {
      factors = c.in-Ruled.factors;
      common = c.in-Ruled.common;
      kept_is = sym c.entry.ensures ∙ c.in-Ruled.is;
      it_is = sym c.in-Ok.is ∙ c.description_in.ensures.described ∙ ap (λ b. Rattle.om_cfi.specs.Common.description_in c.in-Ruled.factors c.in-Ruled.common b) c.bytes.ensures;
      factors_are = c.in-Ok.ensures.common.0;
      common_is = c.in-Ok.ensures.common.1;
      begins = c.begin-has_rules.ensures;
    })
    c.args.rows.now c.add.new.self c.in_ok-add.ensures
