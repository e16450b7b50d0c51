use Rattle.std.proofs.Common.{◌≡◌, ◌++◌, ◌∷◌, [], length, cond, Some, None, sym, ap, ◌∙◌}
use Rattle.std.specs.Prelude.{bytes_eq}
use Rattle.std.specs.BTreeMap.{get}
use Rattle.std.specs.Ordering.{is_eq}
use Rattle.om_names.specs.ByName.{place_in, seen_once}
use Rattle.om_names.specs.NameOrder.{name_cmp, name_ties}
use Rattle.om_names.specs.Variables.{name_of}
use Rattle.om_names.proofs.ByNameLemmas.{names_alike, place_kept, place_new, put_new, put_there}
use Rattle.om_names.proofs.by_name.ByName.add.Goals as goal

pub returns-in-Some-clause-list : goal.returns-in-Some-clause-list
returns-in-Some-clause-list c = λ has.
    let at : Some c.in-Some.place.now ≡ place_in (name_of c.args.variable.now) c.args.self.now.list.items = c.in-Some.ensures.value ∙ ap (λ n. get name_cmp c.args.self.now.places n) (c.of.ensures ∙ c.name.ensures) ∙ has (name_of c.args.variable.now) in
    let there = put_there c.args.self.now.list.items c.args.variable.now c.in-Some.place.now (seen_once c.args.variable.now) (sym at) in
    c.add_again.ensures.list there.0 ∙ there.1

pub returns-in-Some-clause-places : goal.returns-in-Some-clause-places
returns-in-Some-clause-places c = λ has name.
    let at : Some c.in-Some.place.now ≡ place_in (name_of c.args.variable.now) c.args.self.now.list.items = c.in-Some.ensures.value ∙ ap (λ n. get name_cmp c.args.self.now.places n) (c.of.ensures ∙ c.name.ensures) ∙ has (name_of c.args.variable.now) in
    let there = put_there c.args.self.now.list.items c.args.variable.now c.in-Some.place.now (seen_once c.args.variable.now) (sym at) in
    ap (λ places. get name_cmp places name) c.add_again.ensures.places ∙ has name ∙ sym (place_kept c.args.self.now.list.items c.args.variable.now c.in-Some.place.now name (sym at))
    ∙ ap (place_in name) (sym (c.add_again.ensures.list there.0 ∙ there.1))

pub returns-in_ok-add_first-in-None-clause-list : goal.returns-in_ok-add_first-in-None-clause-list
returns-in_ok-add_first-in-None-clause-list c = λ has.
    let none : place_in (name_of c.args.variable.now) c.args.self.now.list.items ≡ None = sym (c.in-None.ensures.value ∙ ap (λ n. get name_cmp c.args.self.now.places n) (c.of.ensures ∙ c.name.ensures) ∙ has (name_of c.args.variable.now)) in
    c.in_ok-add_first-in-None.ensures.list ∙ sym (put_new c.args.self.now.list.items c.args.variable.now none)

pub returns-in_ok-add_first-in-None-clause-places : goal.returns-in_ok-add_first-in-None-clause-places
returns-in_ok-add_first-in-None-clause-places c = λ has name.
    let none : place_in (name_of c.args.variable.now) c.args.self.now.list.items ≡ None = sym (c.in-None.ensures.value ∙ ap (λ n. get name_cmp c.args.self.now.places n) (c.of.ensures ∙ c.name.ensures) ∙ has (name_of c.args.variable.now)) in
    let list : c.add_first.new.self.list.items ≡ c.args.self.now.list.items ++ seen_once c.args.variable.now ∷ [] =
    c.in_ok-add_first-in-None.ensures.list in
    let alike : is_eq (name_cmp (name_of c.args.variable.now) name) ≡ bytes_eq name (name_of c.args.variable.now) =
    sym (name_ties (name_of c.args.variable.now) name) ∙ names_alike (name_of c.args.variable.now) name in
    c.in_ok-add_first-in-None.ensures.places name
    ∙ ap (λ b. cond b (Some (length c.args.self.now.list.items)) (get name_cmp c.args.self.now.places name)) alike
    ∙ ap (λ place. cond (bytes_eq name (name_of c.args.variable.now)) (Some (length c.args.self.now.list.items)) place) (has name)
    ∙ sym (ap (place_in name) list ∙ place_new c.args.self.now.list.items c.args.variable.now name none)
