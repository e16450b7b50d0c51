use Rattle.std.proofs.Common.{◌≡◌, ap, length, sym, ◌∙◌}
use Rattle.std.proofs.lemmas.List.{with_items_is}
use Rattle.om_mem.specs.Laid.{overlaid}
use Rattle.om_mem.proofs.PageLemmas.{kept_from-same, regions-laid}
use Rattle.om_mem.proofs.WriteLemmas.{fill-laid, fill_fits, length-overlaid, mapped_if-laid}
use Rattle.om_mem.proofs.memory.Memory.fill.Goals as goal

pub start_of-start-requires-clause-region : goal.start_of-start-requires-clause-region
start_of-start-requires-clause-region c = rw c.as_slice.ensures.value (rw (← c.self.view_is, regions-laid) at c.requires.region)

pub put_from-requires-clause-fits : goal.put_from-requires-clause-fits
put_from-requires-clause-fits c =
    let laid_so = c.self.invariant.laid in
    let region = rw (← c.self.view_is, regions-laid) at c.requires.region in
    let fits = rw (← c.self.view_is, regions-laid) at c.requires.fits in
    let start = rw c.as_slice.ensures.value at c.start_of-start.ensures in
    rw (c.as_mut_slice.ensures.value, laid_so.whole) (fill_fits _ c.args.region _ _ (mapped_if-laid _ _ _ laid_so) region start fits)

pub returns-clause-contents : goal.returns-clause-contents
returns-clause-contents c =
    let laid_so = c.self.invariant.laid in
    let region = rw (← c.self.view_is, regions-laid) at c.requires.region in
    let fits = rw (← c.self.view_is, regions-laid) at c.requires.fits in
    let start = rw c.as_slice.ensures.value at c.start_of-start.ensures in
    let now : c.put_from.new.bytes ≡ overlaid c.self.inside.bytes.items c.start_of-start.result c.args.bytes.now = c.put_from.ensures.bytes ∙ ap (λ bs. overlaid bs c.start_of-start.result c.args.bytes.now) c.as_mut_slice.ensures.value in
    let long : length c.put_from.new.bytes ≡ c.self.inside.bytes.len = ap length now ∙ length-overlaid c.self.inside.bytes.items c.start_of-start.result c.args.bytes.now ∙ sym c.self.inside.bytes.ok.0 in
    rw (← c.self.view_is, with_items_is c.self.inside.bytes c.put_from.new.bytes long, now) (fill-laid _ _ c.args.region _ _ (mapped_if-laid _ _ _ laid_so) laid_so.whole region start fits)

pub returns-clause-kept : goal.returns-clause-kept
returns-clause-kept c =
    let laid_so = c.self.invariant.laid in
    let same = rw (c.as_mut_slice.ensures.value, c.as_mut_slice-2.ensures.value) at c.put_from.ensures.same in
    let whole : length c.put_from.new.bytes ≡ length c.self.inside.bytes.items = ap length c.put_from.ensures.bytes ∙ length-overlaid c.as_mut_slice.result.now c.start_of-start.result c.args.bytes.now ∙ ap length c.as_mut_slice.ensures.value in
    let long : length c.put_from.new.bytes ≡ c.self.inside.bytes.len = whole ∙ sym c.self.inside.bytes.ok.0 in
    let many : length c.put_from.new.dirty ≡ c.self.inside.dirty.len = c.put_from.ensures.flags ∙ ap length c.as_mut_slice-2.ensures.value ∙ sym c.self.inside.dirty.ok.0 in
    rw (← c.self.view_is, with_items_is c.self.inside.bytes c.put_from.new.bytes long, with_items_is c.self.inside.dirty c.put_from.new.dirty many) (kept_from-same _ _ _ _ _ laid_so.apart laid_so.whole whole same)
