use Rattle.std.proofs.Common.{sym, ap, ◌∙◌}
use Rattle.om_names.specs.declared.types.Typing.TheVariants as t
use Rattle.om_names.specs.Names.{typing_by}
use Rattle.om_names.proofs.TypeLemmas.{typing_alone, typing_on, typing_over, typing_untyped}
use Rattle.om_names.proofs.names.Names.+typing_through.Goals as goal

pub returns-in-Scalar : goal.returns-in-Scalar
returns-in-Scalar u c =
    typing_alone c.args.links c.args.self.now c.args.told.now (t.Scalar c.in-Scalar.kind) (λ linked. sym (ap (λ shape. typing_by shape linked) c.in-Scalar.is))

pub returns-in-Other : goal.returns-in-Other
returns-in-Other u c = typing_alone c.args.links c.args.self.now c.args.told.now t.Other (λ linked. sym (ap (λ shape. typing_by shape linked) c.in-Other.is))

pub returns-in_default : goal.returns-in_default
returns-in_default u c = typing_untyped c.args.links c.args.self.now c.args.told.now c.in-Link.is (sym c.in_default.ensures)

pub returns-then-links-eq0 : goal.returns-then-links-eq0
returns-then-links-eq0 u c = typing_over c.args.links c.args.self.now c.args.told.now c.in-Some.next.now c.if-links-eq0.true c.in-Link.is (sym c.in-Some.ensures)

pub returns : goal.returns
returns u c =
    c.typing_through.ensures ∙ typing_on c.args.links c.args.self.now c.args.told.now c.in-Some.next.now c.if-links-eq0.false c.in-Link.is (sym c.in-Some.ensures)
