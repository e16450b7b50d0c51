use Rattle.std.proofs.Common.{◌≡◌, ◌<◌, ◌*◌, true, length, set, sym, ap, ◌∙◌}
use Rattle.std.proofs.lemmas.List.{with_items_is, length-set}
use Rattle.om_mem.specs.Pages.{page_count}
use Rattle.om_mem.proofs.PageLemmas.{regions-laid}
use Rattle.om_mem.proofs.SetPageLemmas.{put_at, length-put_at, page_given, page_fits, contents-put, page-put, others-put, kept-put}
use Rattle.om_mem.proofs.memory.Memory.set_page.Goals as goal

pub put_at-requires : goal.put_at-requires
put_at-requires c =
    let is = page_given _ _ _ c.args.page c.args.bytes.now c.self.invariant.laid (rw (← c.self.view_is) at c.requires.page) (rw (← c.self.view_is) at c.requires.length) in
    rw c.as_mut_slice.ensures.value (page_fits _ _ _ _ is)

pub bounds-as_mut_slice-page : goal.bounds-as_mut_slice-page
bounds-as_mut_slice-page c =
    let few : c.args.page < page_count c.self.inside.regions.items = rw (← c.self.view_is, regions-laid) at c.requires.page in
    rw (c.as_mut_slice-2.ensures.value, c.self.invariant.laid.flags) few

pub returns-clause-contents : goal.returns-clause-contents
returns-clause-contents c =
    let is = page_given _ _ _ c.args.page c.args.bytes.now c.self.invariant.laid (rw (← c.self.view_is) at c.requires.page) (rw (← c.self.view_is) at c.requires.length) in
    let now : c.put_at.new.bytes ≡ put_at c.self.inside.bytes.items (c.args.page * 4096) c.args.bytes.now = c.put_at.ensures ∙ ap (λ xs. put_at xs (c.args.page * 4096) c.args.bytes.now) c.as_mut_slice.ensures.value in
    let long : length c.put_at.new.bytes ≡ c.self.inside.bytes.len = ap length now ∙ length-put_at _ _ _ (page_fits _ _ _ _ is) ∙ sym c.self.inside.bytes.ok.0 in
    rw (← c.self.view_is, with_items_is c.self.inside.bytes c.put_at.new.bytes long, now) (contents-put _ _ _ _ is)

pub returns-clause-page : goal.returns-clause-page
returns-clause-page c =
    let is = page_given _ _ _ c.args.page c.args.bytes.now c.self.invariant.laid (rw (← c.self.view_is) at c.requires.page) (rw (← c.self.view_is) at c.requires.length) in
    let now : c.put_at.new.bytes ≡ put_at c.self.inside.bytes.items (c.args.page * 4096) c.args.bytes.now = c.put_at.ensures ∙ ap (λ xs. put_at xs (c.args.page * 4096) c.args.bytes.now) c.as_mut_slice.ensures.value in
    let long : length c.put_at.new.bytes ≡ c.self.inside.bytes.len = ap length now ∙ length-put_at _ _ _ (page_fits _ _ _ _ is) ∙ sym c.self.inside.bytes.ok.0 in
    rw (with_items_is c.self.inside.bytes c.put_at.new.bytes long, now) (page-put _ _ _ _ is)

pub returns-clause-others : goal.returns-clause-others
returns-clause-others c = λ other apart.
    let is = page_given _ _ _ c.args.page c.args.bytes.now c.self.invariant.laid (rw (← c.self.view_is) at c.requires.page) (rw (← c.self.view_is) at c.requires.length) in
    let now : c.put_at.new.bytes ≡ put_at c.self.inside.bytes.items (c.args.page * 4096) c.args.bytes.now = c.put_at.ensures ∙ ap (λ xs. put_at xs (c.args.page * 4096) c.args.bytes.now) c.as_mut_slice.ensures.value in
    let long : length c.put_at.new.bytes ≡ c.self.inside.bytes.len = ap length now ∙ length-put_at _ _ _ (page_fits _ _ _ _ is) ∙ sym c.self.inside.bytes.ok.0 in
    rw (← c.self.view_is, with_items_is c.self.inside.bytes c.put_at.new.bytes long, now) (others-put _ _ _ _ other is apart)

pub returns-clause-kept : goal.returns-clause-kept
returns-clause-kept c =
    let is = page_given _ _ _ c.args.page c.args.bytes.now c.self.invariant.laid (rw (← c.self.view_is) at c.requires.page) (rw (← c.self.view_is) at c.requires.length) in
    let now : c.put_at.new.bytes ≡ put_at c.self.inside.bytes.items (c.args.page * 4096) c.args.bytes.now = c.put_at.ensures ∙ ap (λ xs. put_at xs (c.args.page * 4096) c.args.bytes.now) c.as_mut_slice.ensures.value in
    let long : length c.put_at.new.bytes ≡ c.self.inside.bytes.len = ap length now ∙ length-put_at _ _ _ (page_fits _ _ _ _ is) ∙ sym c.self.inside.bytes.ok.0 in
    let flags : set c.as_mut_slice-2.result.now c.args.page true ≡ set c.self.inside.dirty.items c.args.page true = ap (λ ds. set ds c.args.page true) c.as_mut_slice-2.ensures.value in
    let many : length (set c.as_mut_slice-2.result.now c.args.page true) ≡ c.self.inside.dirty.len = ap length flags ∙ length-set c.self.inside.dirty.items c.args.page true ∙ sym c.self.inside.dirty.ok.0 in
    rw (← c.self.view_is, with_items_is c.self.inside.bytes c.put_at.new.bytes long, now, with_items_is c.self.inside.dirty (set c.as_mut_slice-2.result.now c.args.page true) many, flags) (kept-put _ _ _ _ _ is)
