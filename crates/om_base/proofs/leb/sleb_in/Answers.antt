use Rattle.std.proofs.Common.{◌≡◌, get_or, pos, to_z, w64, sym, ◌∙◌, arith}
use Rattle.std.proofs.lemmas.Int.{ints}
use Rattle.om_base.proofs.LebLemmas.{sleb_by_parts, sleb_byte}
use Rattle.om_base.proofs.leb.sleb_in.Goals as goal

pub returns-then-byte-lt64-clause-value : goal.returns-then-byte-lt64-clause-value
returns-then-byte-lt64-clause-value c =
    let byte = get_or c.args.bytes.now 0 0 in
    let plain : to_z w64 byte ≡ pos byte = omega (arith, ints) in
    rw plain (sym (sleb_byte c.args.bytes.now c.in-len1-up.len_at_least c.if-byte-lt64.true))

pub returns-clause-value : goal.returns-clause-value
returns-clause-value c = c.signed.ensures.value ∙ sleb_by_parts c.in_ok-leb_in.field-0 c.args.bytes.now c.in_ok-leb_in.ensures.parts
