use Rattle.std.proofs.Common.{◌<◌, arith, refl}
use Rattle.om_mem.specs.Laid.{piece_of}
use Rattle.om_mem.specs.Pages.{page_count}
use Rattle.om_mem.proofs.PageLemmas.{page-laid, regions-laid}
use Rattle.om_mem.proofs.memory.Memory.page.Goals as goal

pub piece-requires : goal.piece-requires
piece-requires c =
    let few : c.args.page < page_count c.self.inside.regions.items = rw (← c.self.view_is, regions-laid) at c.requires in
    rw (c.as_slice.ensures.value, c.self.invariant.laid.whole) (omega arith)

pub returns : goal.returns
unfolding piece_of
returns c = rw (← c.self.view_is, page-laid _ _ c.args.page c.self.invariant.laid.apart c.self.invariant.laid.whole, c.piece.ensures, c.as_slice.ensures.value) refl
