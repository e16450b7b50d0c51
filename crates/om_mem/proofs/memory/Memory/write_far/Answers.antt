use Rattle.std.proofs.Common.{◌≡◌, ap, length, sym, ◌∙◌}
use Rattle.std.proofs.lemmas.List.{with_items_is}
use Rattle.om_mem.proofs.PageLemmas.{kept_from-same, regions-laid}
use Rattle.om_mem.proofs.WriteLemmas.{number-laid}
use Rattle.om_mem.proofs.memory.Memory.write_far.Goals as goal

pub returns-clause-may : goal.returns-clause-may
returns-clause-may c = rw (← c.self.view_is, regions-laid, ← c.as_slice.ensures.value) c.write_in.ensures.may

pub returns-clause-contents : goal.returns-clause-contents
returns-clause-contents c =
    let stored_it = rw (c.as_slice.ensures.value, c.as_mut_slice.ensures.value) at c.write_in.ensures.stored in
    let kept_it = rw (c.as_mut_slice.ensures.value) at c.write_in.ensures.bytes in
    let long : length c.write_in.new.bytes ≡ c.self.inside.bytes.len = c.write_in.ensures.whole ∙ ap length c.as_mut_slice.ensures.value ∙ sym c.self.inside.bytes.ok.0 in
    rw (← c.self.view_is, with_items_is c.self.inside.bytes c.write_in.new.bytes long) (number-laid _ _ _ c.args.address c.args.count c.args.value c.write_in.result stored_it kept_it)

pub returns-clause-kept : goal.returns-clause-kept
returns-clause-kept c =
    let laid_so = c.self.invariant.laid in
    let same = rw (c.as_mut_slice.ensures.value, c.as_mut_slice-2.ensures.value) at c.write_in.ensures.same in
    let whole = c.write_in.ensures.whole ∙ ap length c.as_mut_slice.ensures.value in
    let long : length c.write_in.new.bytes ≡ c.self.inside.bytes.len = whole ∙ sym c.self.inside.bytes.ok.0 in
    let many : length c.write_in.new.dirty ≡ c.self.inside.dirty.len = c.write_in.ensures.flags ∙ ap length c.as_mut_slice-2.ensures.value ∙ sym c.self.inside.dirty.ok.0 in
    rw (← c.self.view_is, with_items_is c.self.inside.bytes c.write_in.new.bytes long, with_items_is c.self.inside.dirty c.write_in.new.dirty many) (kept_from-same _ _ _ _ _ laid_so.apart laid_so.whole whole same)
