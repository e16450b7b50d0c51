use Rattle.std.proofs.Common.{◌+◌, ◌*◌, ◌^◌, ◌<◌, arith, refl}
use Rattle.om_mem.proofs.SpotLemmas.{loaded-zero, loaded-more, byte-more, four-bytes}
use Rattle.om_mem.proofs.reading.+number_across.Goals as goal

pub returns-then-count-eq0-clause-value : goal.returns-then-count-eq0-clause-value
returns-then-count-eq0-clause-value t c = rw (c.if-count-eq0.true, loaded-zero) refl

pub returns-in_default-clause-value : goal.returns-in_default-clause-value
returns-in_default-clause-value t c = rw (loaded-more _ c.args.address c.args.count c.if-count-eq0.false, ← c.in_default.ensures) refl

pub returns-in_default-number_across-clause-value : goal.returns-in_default-number_across-clause-value
returns-in_default-number_across-clause-value t c =
    rw (loaded-more _ c.args.address c.args.count c.if-count-eq0.false, ← c.in-Some.ensures, ← c.in_default-number_across.ensures.value) refl

-- the number with its first byte is as small as its length allows
abbrev Small : {t : _} → goal.After-from t → Type 0
Small c = c.from.result + 256 * c.in-Some-number_across.more < 2 ^ (8 * c.args.count)

small : {t : _} (c : goal.After-from t) → Small c
small c = byte-more c.from.result c.in-Some-number_across.more c.args.count c.requires.count c.if-count-eq0.false (omega arith) c.in-Some-number_across.ensures.small

pub overflow_mul-result : goal.overflow_mul-result
overflow_mul-result t c =
    let bound = small c in
    let most = four-bytes c.args.count c.requires.count in
    omega arith

pub overflow_add-result : goal.overflow_add-result
overflow_add-result t c =
    let bound = small c in
    let most = four-bytes c.args.count c.requires.count in
    omega arith

pub returns-clause-value : goal.returns-clause-value
returns-clause-value t c =
    rw (loaded-more _ c.args.address c.args.count c.if-count-eq0.false, ← c.in-Some.ensures, ← c.in-Some-number_across.ensures.value, c.from.ensures) refl

pub returns-clause-small : goal.returns-clause-small
returns-clause-small t c = small c
