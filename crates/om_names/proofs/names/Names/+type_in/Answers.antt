use Rattle.std.proofs.Common.{◌-◌, ap, sym, ◌∙◌}
use Rattle.std.specs.Option.{option_and_then}
use Rattle.om_names.specs.Names.{find_in, type_told, reached_by}
use Rattle.om_names.proofs.NameLemmas.{next_told, none_told, own_told}
use Rattle.om_names.proofs.names.Names.+type_in.Goals as goal

pub returns-in-Some : goal.returns-in-Some
returns-in-Some t c = own_told type_told c.args.links (find_in c.args.self.now) c.args.told.now c.in-Some.offset c.in-Some.is

pub returns-then-links-eq0 : goal.returns-then-links-eq0
returns-then-links-eq0 t c = none_told type_told c.args.links (find_in c.args.self.now) c.args.told.now c.if-links-eq0.true c.in_default.is

pub returns-in_default-link : goal.returns-in_default-link
returns-in_default-link t c =
    ap (λ link. option_and_then (reached_by type_told (c.args.links - 1) (find_in c.args.self.now)) (option_and_then (find_in c.args.self.now) link)) (sym c.in_default-link.is)
    ∙ next_told type_told c.args.links (find_in c.args.self.now) c.args.told.now c.if-links-eq0.false c.in_default.is

pub returns-in_default-get : goal.returns-in_default-get
returns-in_default-get t c =
    ap (option_and_then (reached_by type_told (c.args.links - 1) (find_in c.args.self.now))) c.in_default-get.ensures.value
    ∙ ap (λ link. option_and_then (reached_by type_told (c.args.links - 1) (find_in c.args.self.now)) (option_and_then (find_in c.args.self.now) link)) (sym c.in-Some-link.is)
    ∙ next_told type_told c.args.links (find_in c.args.self.now) c.args.told.now c.if-links-eq0.false c.in_default.is

pub returns : goal.returns
returns t c =
    c.type_in.ensures
    ∙ ap (option_and_then (reached_by type_told (c.args.links - 1) (find_in c.args.self.now))) c.in-Some-get.ensures.value
    ∙ ap (λ link. option_and_then (reached_by type_told (c.args.links - 1) (find_in c.args.self.now)) (option_and_then (find_in c.args.self.now) link)) (sym c.in-Some-link.is)
    ∙ next_told type_told c.args.links (find_in c.args.self.now) c.args.told.now c.if-links-eq0.false c.in_default.is
