use Rattle.std.proofs.Common.{map, ap, ◌∙◌}
use Rattle.om_names.specs.ByName.{held_by, info_by}
use Rattle.om_names.proofs.VariableLemmas.{kept_told}
use Rattle.om_names.proofs.variables.variables_of.Goals as goal

pub returns : goal.returns
returns c =
    kept_told c.args.ranges.now c.args.found.now c.in_ok-names.names.list.items c.in_ok-catalog_of.field-0 c.in_ok-fixed_of.field-0 c.in_ok-claimed.claimed.held c.as_slice.result.now c.in_ok-index.index c.in_ok-names.ensures.list
    (c.in_ok-catalog_of.ensures ∙ ap (map info_by) c.deref.ensures.value) (c.in_ok-fixed_of.ensures ∙ ap (map held_by) c.deref-2.ensures.value) c.in_ok-claimed.ensures.held
    (c.as_slice.ensures ∙ c.in_ok-claimed.ensures.claims) c.in_ok-index.ensures.index
