use Rattle.std.proofs.Common.{sym, ap, ◌∙◌}
use Rattle.std.specs.Ordering.{is_eq}
use Rattle.om_names.specs.NameOrder.{name_ties}
use Rattle.om_names.proofs.name_key.NameKeyPartialEq.eq.Goals as goal

pub returns : goal.returns
returns c = c.is_eq.ensures ∙ ap is_eq c.order.ensures ∙ sym (name_ties c.args.self.now c.args.other.now)
