use Rattle.om_die.proofs.TableLaws.{no_code, no_head, no_list, one_entry}
use Rattle.om_die.proofs.declaration.first_declaration.Goals as goal

pub returns-in_default : goal.returns-in_default
returns-in_default c = no_head c.args.bytes.now c.in_default.field-0 c.in_default.ensures

pub returns-then-head-eq0 : goal.returns-then-head-eq0
returns-then-head-eq0 c = no_code c.args.bytes.now c.in-Ok.rest.now c.in-Ok.head c.in-Ok.ensures c.if-head-eq0.true

pub returns-in_default-2 : goal.returns-in_default-2
returns-in_default-2 c =
    no_list c.args.bytes.now c.in-Ok.rest.now c.in-Ok.head c.in-Ok.ensures c.if-head-eq0.false (rw c.in_default-2.is at c.in_ok-attributes.ensures)

pub returns : goal.returns
returns c =
    one_entry c.args.bytes.now c.in-Ok.rest.now c.in-Some.rest.now c.in-Ok.head c.in-Some.attributes c.in-Ok.ensures c.if-head-eq0.false
    (rw c.in-Some.is at c.in_ok-attributes.ensures)
