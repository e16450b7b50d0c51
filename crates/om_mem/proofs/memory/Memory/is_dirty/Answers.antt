use Rattle.std.proofs.Common.{◌<◌, true, false, length}
use Rattle.std.proofs.lemmas.List.{get_or_default}
use Rattle.om_mem.specs.Pages.{page_count}
use Rattle.om_mem.proofs.PageLemmas.{regions-laid}
use Rattle.om_mem.proofs.memory.Memory.is_dirty.Goals as goal

pub bounds-as_slice-page : goal.bounds-as_slice-page
bounds-as_slice-page c =
    let few : c.args.page < page_count c.self.inside.regions.items = rw (← c.self.view_is, regions-laid) at c.requires in
    rw (c.as_slice.ensures.value, c.self.invariant.laid.flags) few

pub returns : goal.returns
returns c =
    let few : c.args.page < page_count c.self.inside.regions.items = rw (← c.self.view_is, regions-laid) at c.requires in
    let there : c.args.page < length c.self.inside.dirty.items = rw (c.self.invariant.laid.flags) few in
    rw (← c.self.view_is, c.as_slice.ensures.value) (get_or_default c.self.inside.dirty.items c.args.page false true there)
