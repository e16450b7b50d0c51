use Rattle.std.proofs.Common.{◌≡◌, ap, length, sym, ◌∙◌}
use Rattle.std.proofs.lemmas.List.{with_items_is}
use Rattle.om_mem.proofs.PageLemmas.{kept_from-same, regions-laid}
use Rattle.om_mem.proofs.WriteLemmas.{after-laid}
use Rattle.om_mem.proofs.memory.Memory.write_bytes.Goals as goal

pub returns-in-Some-clause-fault : goal.returns-in-Some-clause-fault
returns-in-Some-clause-fault c = rw (← c.self.view_is, regions-laid, ← c.as_slice.ensures.value) (sym c.in-Some.ensures)

pub returns-clause-done : goal.returns-clause-done
returns-clause-done c = rw (← c.self.view_is, regions-laid, ← c.as_slice.ensures.value) (sym c.in_default.ensures)

pub returns-clause-contents : goal.returns-clause-contents
returns-clause-contents c =
    let stored_it = rw (c.as_slice-2.ensures.value, c.as_mut_slice.ensures.value) at c.put_across.ensures.stored in
    let long : length c.put_across.new.bytes ≡ c.self.inside.bytes.len = c.put_across.ensures.whole ∙ ap length c.as_mut_slice.ensures.value ∙ sym c.self.inside.bytes.ok.0 in
    rw (← c.self.view_is, with_items_is c.self.inside.bytes c.put_across.new.bytes long) (after-laid _ _ _ c.args.address c.args.bytes.now stored_it)

pub returns-clause-kept : goal.returns-clause-kept
returns-clause-kept c =
    let laid_so = c.self.invariant.laid in
    let same = rw (c.as_mut_slice.ensures.value, c.as_mut_slice-2.ensures.value) at c.put_across.ensures.same in
    let whole = c.put_across.ensures.whole ∙ ap length c.as_mut_slice.ensures.value in
    let long : length c.put_across.new.bytes ≡ c.self.inside.bytes.len = whole ∙ sym c.self.inside.bytes.ok.0 in
    let many : length c.put_across.new.dirty ≡ c.self.inside.dirty.len = c.put_across.ensures.flags ∙ ap length c.as_mut_slice-2.ensures.value ∙ sym c.self.inside.dirty.ok.0 in
    rw (← c.self.view_is, with_items_is c.self.inside.bytes c.put_across.new.bytes long, with_items_is c.self.inside.dirty c.put_across.new.dirty many) (kept_from-same _ _ _ _ _ laid_so.apart laid_so.whole whole same)
