use Rattle.std.proofs.Common.{sym, ◌∙◌}
use Rattle.om_base.proofs.LebLemmas.{uleb_by_parts, uleb_byte}
use Rattle.om_base.proofs.leb.uleb_in.Goals as goal

pub returns-then-byte-lt128-clause-value : goal.returns-then-byte-lt128-clause-value
returns-then-byte-lt128-clause-value c = sym (uleb_byte c.args.bytes.now c.in-len1-up.len_at_least c.if-byte-lt128.true)

pub returns-clause-value : goal.returns-clause-value
returns-clause-value c = c.unsigned.ensures.value ∙ uleb_by_parts c.in_ok-leb_in.field-0 c.args.bytes.now c.in_ok-leb_in.ensures.parts
