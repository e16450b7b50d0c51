use Rattle.std.proofs.Common.{◌++◌, map, ap, sym, ◌∙◌, arith}
use Rattle.std.specs.Prelude.{filter_map}
use Rattle.om_names.specs.ByName.{place_in}
use Rattle.om_names.specs.FoundList.{scoped_by}
use Rattle.om_names.specs.Stretches.{claimed_by, claims_of, helds_of, stretch}
use Rattle.om_names.proofs.StretchLemmas.{has_place, no_place, no_scope, nothing_more, place_low}
use Rattle.om_names.proofs.stretches.Claimed.add_found.Goals as goal

pub returns-in_default-clause-claims : goal.returns-in_default-clause-claims
returns-in_default-clause-claims c = nothing_more (λ it. it.claim) c.args.self.now.claims _ (no_scope c.args.names.now.list.items c.args.ranges.now c.args.found.now c.in_default.is)

pub returns-in_default-clause-held : goal.returns-in_default-clause-held
returns-in_default-clause-held c = nothing_more (λ it. it.held) c.args.self.now.held _ (no_scope c.args.names.now.list.items c.args.ranges.now c.args.found.now c.in_default.is)

pub returns-in_default-place_of-clause-claims : goal.returns-in_default-place_of-clause-claims
returns-in_default-place_of-clause-claims c =
    nothing_more (λ it. it.claim) c.args.self.now.claims _
    (no_place c.args.names.now.list.items (scoped_by c.args.ranges.now c.args.found.now) (c.in_default-place_of.ensures c.requires.places ∙ ap (λ n. place_in n c.args.names.now.list.items) c.name.ensures))

pub returns-in_default-place_of-clause-held : goal.returns-in_default-place_of-clause-held
returns-in_default-place_of-clause-held c =
    nothing_more (λ it. it.held) c.args.self.now.held _
    (no_place c.args.names.now.list.items (scoped_by c.args.ranges.now c.args.found.now) (c.in_default-place_of.ensures c.requires.places ∙ ap (λ n. place_in n c.args.names.now.list.items) c.name.ensures))

pub overflow_cast-place : goal.overflow_cast-place
overflow_cast-place c = let low = place_low c.args.names.now.list.items c.name.result c.in-Some-place_of.place (c.in-Some-place_of.ensures c.requires.places) in omega (arith, low, c.requires.few)

pub add-requires : goal.add-requires
add-requires c = let low = place_low c.args.names.now.list.items c.name.result c.in-Some-place_of.place (c.in-Some-place_of.ensures c.requires.places) in omega (arith, low, c.requires.few)

pub returns-clause-claims : goal.returns-clause-claims
returns-clause-claims c =
    c.in_ok-add.ensures.claims ∙ ap (λ spans. c.args.self.now.claims ++ claims_of (map (claimed_by c.args.found.now.variable) (filter_map (stretch c.in-Some-place_of.place) spans))) (c.as_slice.ensures ∙ c.in_ok-spans.ensures)
    ∙ ap (λ cs. c.args.self.now.claims ++ claims_of cs) (sym (has_place c.args.names.now.list.items (scoped_by c.args.ranges.now c.args.found.now) c.in-Some-place_of.place
    (c.in-Some-place_of.ensures c.requires.places ∙ ap (λ n. place_in n c.args.names.now.list.items) c.name.ensures)))

pub returns-clause-held : goal.returns-clause-held
returns-clause-held c =
    c.in_ok-add.ensures.held ∙ ap (λ spans. c.args.self.now.held ++ helds_of (map (claimed_by c.args.found.now.variable) (filter_map (stretch c.in-Some-place_of.place) spans))) (c.as_slice.ensures ∙ c.in_ok-spans.ensures)
    ∙ ap (λ cs. c.args.self.now.held ++ helds_of cs) (sym (has_place c.args.names.now.list.items (scoped_by c.args.ranges.now c.args.found.now) c.in-Some-place_of.place
    (c.in-Some-place_of.ensures c.requires.places ∙ ap (λ n. place_in n c.args.names.now.list.items) c.name.ensures)))
