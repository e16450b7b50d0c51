use Rattle.std.proofs.Common.{arith, refl}
use Rattle.om_mem.proofs.WriteLemmas.{outside-spot, outside-refused, stored-number}
use Rattle.om_mem.proofs.writing.write_near.Goals as goal

pub returns-then-near-ne-PF_W-clause-may : goal.returns-then-near-ne-PF_W-clause-may
returns-then-near-ne-PF_W-clause-may c =
    let low = c.requires.low in
    let high = c.requires.high in
    rw (outside-refused _ _ c.requires.near c.args.address c.args.count (omega arith) low high c.if-near-ne-PF_W.true) refl

pub returns-clause-may : goal.returns-clause-may
returns-clause-may c =
    let low = c.requires.low in
    let high = c.requires.high in
    rw (outside-spot _ _ c.requires.near c.args.address c.args.count low high c.if-near-ne-PF_W.false) refl

pub returns-clause-stored : goal.returns-clause-stored
returns-clause-stored c = λ _.
    let low = c.requires.low in
    let high = c.requires.high in
    rw c.put_number.ensures (stored-number _ _ c.requires.near c.args.bytes.now c.args.address c.args.count c.args.value c.requires.whole low high)
