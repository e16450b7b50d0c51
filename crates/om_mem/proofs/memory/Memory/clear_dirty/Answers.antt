use Rattle.std.proofs.Common.{◌≡◌, ◌<◌, true, false, Bool, List, length, replicate, refl, sym, ap, ◌∙◌, arith}
use Rattle.std.proofs.lemmas.List.{with_items_is, length-replicate, get_or-replicate}
use Rattle.om_mem.specs.Pages.{page_count}
use Rattle.om_mem.proofs.PageLemmas.{regions-laid}
use Rattle.om_mem.proofs.memory.Memory.clear_dirty.Goals as goal

pub returns-clause-cleared : goal.returns-clause-cleared
returns-clause-cleared c =
    let flags = c.self.invariant.laid.flags in
    let now : c.clear.new.dirty ≡ replicate (length c.self.inside.dirty.items) false = c.clear.ensures ∙ ap (λ (ds : List Bool). replicate (length ds) false) c.as_mut_slice.ensures.value in
    let long : length c.clear.new.dirty ≡ c.self.inside.dirty.len = ap length now ∙ length-replicate {A = Bool} (length c.self.inside.dirty.items) false ∙ sym c.self.inside.dirty.ok.0 in
    rw (← c.self.view_is, regions-laid, with_items_is c.self.inside.dirty c.clear.new.dirty long, now, flags) refl

pub returns-clause-clean : goal.returns-clause-clean
returns-clause-clean c = λ page below.
    let few : page < page_count c.self.inside.regions.items = rw (regions-laid) at below in
    let flags = c.self.invariant.laid.flags in
    let now : c.clear.new.dirty ≡ replicate (length c.self.inside.dirty.items) false = c.clear.ensures ∙ ap (λ (ds : List Bool). replicate (length ds) false) c.as_mut_slice.ensures.value in
    let long : length c.clear.new.dirty ≡ c.self.inside.dirty.len = ap length now ∙ length-replicate {A = Bool} (length c.self.inside.dirty.items) false ∙ sym c.self.inside.dirty.ok.0 in
    rw (with_items_is c.self.inside.dirty c.clear.new.dirty long, now) (get_or-replicate (length c.self.inside.dirty.items) page false true (omega arith))
