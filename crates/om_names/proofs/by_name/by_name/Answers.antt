use Rattle.std.proofs.Common.{[], ap, map, refl, ◌∙◌}
use Rattle.std.specs.Prelude.{fold}
use Rattle.std.proofs.lemmas.List.{take_all}
use Rattle.om_names.specs.ByName.{place_in, put}
use Rattle.om_names.proofs.by_name.by_name.Goals as goal

pub returns-clause-list : goal.returns-clause-list
returns-clause-list c = c.loop-one.invariant.list ∙ ap (λ found. fold put [] (map (λ it. it.variable) found)) (take_all c.loop-one.one-index c.args.found.now c.loop-one-test.false)

pub loop-one-init : goal.loop-one-init
unfolding place_in
loop-one-init c = record { list = c.new.ensures.items; places = λ name. rw (c.new-2.ensures.empty, c.new.ensures.items) refl }
