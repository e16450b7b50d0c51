use Rattle.std.proofs.Common.{◌≢◌, ◌+◌, arith}
use Rattle.om_die.proofs.TableLaws.{breaks, ends, goes_on, shorter}
use Rattle.om_die.proofs.declaration.first_specifications.Goals as goal
use Rattle.om_die.proofs.declaration.first_specifications.Goals.{else-name-eq0-via-then-name-eq0+else-form-eq0, else-name-eq0-via-else-name-eq0}

pub returns-then-form-eq0 : goal.returns-then-form-eq0
returns-then-form-eq0 c =
    ends c.args.bytes.now c.loop-name.list c.loop-name.rest.now c.in-Ok.behind.now (c.in-Ok.name, c.in-Ok.form) c.loop-name.invariant c.in-Ok.ensures (omega arith)

pub loop-name-smaller : goal.loop-name-smaller
loop-name-smaller c = shorter c.loop-name.rest.now c.in-Ok.behind.now (c.in-Ok.name, c.in-Ok.form) c.in-Ok.ensures

pub loop-name-preserved : goal.loop-name-preserved
loop-name-preserved c =
    let some : c.in-Ok.name + c.in-Ok.form ≢ 0 =
    elim c.else-name-eq0.branch [
      | else-name-eq0-via-then-name-eq0+else-form-eq0 w ↦ omega arith
      | else-name-eq0-via-else-name-eq0 w ↦ omega arith
    ] in
    rw (c.in_ok-push.ensures.ok, c.saturated.ensures, c.of.ensures)
    (goes_on c.args.bytes.now c.loop-name.list c.loop-name.rest.now c.in-Ok.behind.now (c.in-Ok.name, c.in-Ok.form) c.loop-name.invariant c.in-Ok.ensures some)

pub returns : goal.returns
returns c = breaks c.args.bytes.now c.loop-name.list c.loop-name.rest.now c.in_default.field-0 c.loop-name.invariant c.in_default.ensures
