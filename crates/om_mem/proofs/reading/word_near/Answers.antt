use Rattle.std.proofs.Common.{◌≡◌, arith, ap, refl, sym, ◌∙◌, nat_eq, true}
use Rattle.std.specs.Prelude.{Some, bit_and}
use Rattle.om_mem.proofs.PageLemmas.{regions-laid}
use Rattle.om_mem.proofs.SpotLemmas.{fetched-refused, fetched-loaded, loaded-spot, may_at-spot_at, all_may-spot_at, differ}
use Rattle.om_mem.proofs.reading.word_near.Goals as goal

pub returns-then-near-ne-PF_X : goal.returns-then-near-ne-PF_X
returns-then-near-ne-PF_X c =
    let low = c.requires.low in
    let high = c.requires.high in
    sym (fetched-refused _ _ c.args.address (may_at-spot_at _ _ c.requires.near c.args.address 1 low (omega arith) ∙ differ _ 1 c.if-near-ne-PF_X.true))

pub returns : goal.returns
returns c =
    let low = c.requires.low in
    let high = c.requires.high in
    let right : nat_eq (bit_and c.args.near.now.rights 1) 1 ≡ true = rw c.if-near-ne-PF_X.false refl in
    let all = all_may-spot_at _ _ c.requires.near 1 4 c.args.address low high right in
    ap (λ v. Some v) c.number_from.ensures
    ∙ sym (fetched-loaded _ c.args.address (rw (regions-laid c.args._regions.now c.args.bytes.now) all) ∙ loaded-spot _ _ c.requires.near _ c.requires.whole c.args.address 4 low high)
