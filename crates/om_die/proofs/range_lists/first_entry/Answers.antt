use Rattle.om_die.proofs.RangeLemmas.{both, no_first, no_second}
use Rattle.om_die.proofs.range_lists.first_entry.Goals as goal

pub returns-in_default : goal.returns-in_default
returns-in_default c = no_first c.args.bytes.now c.in_default.field-0 c.in_default.ensures

pub returns-in_default-first_u32 : goal.returns-in_default-first_u32
returns-in_default-first_u32 c = no_second c.args.bytes.now c.in-Ok.first c.in-Ok.rest.now c.in_default-first_u32.field-0 c.in-Ok.ensures c.in_default-first_u32.ensures

pub returns : goal.returns
returns c =
    both c.args.bytes.now c.in-Ok.first c.in-Ok-first_u32.second c.in-Ok.rest.now c.in-Ok-first_u32.rest.now c.in-Ok.ensures c.in-Ok-first_u32.ensures
