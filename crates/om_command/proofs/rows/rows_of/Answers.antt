use Rattle.std.proofs.Common.{◌≡◌, Ok, Err, refl, sym, arith}
use Rattle.om_command.proofs.RowsLemmas.{at_place, finished, first_departure-next, gives_stop, is_end, kept-next, last_of, moves}
use Rattle.om_names.specs.Known.{told_by}
use Rattle.om_run.specs.Replay.{verdict_at}
use Rattle.om_command.proofs.rows.rows_of.Goals as goal

pub loop-rows-preserved-then-pass : goal.loop-rows-preserved-then-pass
loop-rows-preserved-then-pass c =
    let told = c.if-pass.ensures.verdict refl in
    let on = moves c.loop-rows.replay told.0 told.1 in
    let less = on.1 in
    let last = last_of c.loop-rows.replay c.args.replay.now.entries c.loop-rows.invariant.entries in
    let metered = c.loop-rows.invariant.metered in
    let raised = c.if-pass.ensures.meter in
    rw c.if-pass.ensures.position (record {
      entries = c.loop-rows.invariant.entries;
      first = c.loop-rows.invariant.first;
      within = omega arith;
      going = first_departure-next c.args.replay.now.entries c.args.replay.now.first c.loop-rows.replay.step c.loop-rows.invariant.going (at_place c.loop-rows.replay c.args.replay.now.entries c.args.replay.now.first _ c.loop-rows.invariant.entries c.loop-rows.invariant.first on.0);
      kept = kept-next (told_by c.args.debug.now) c.loop-rows.replay c.args.replay.now.entries c.args.replay.now.first c.args.condition.now c.args.outputs.now c.loop-rows.rows _ c.loop-rows.invariant.entries c.loop-rows.invariant.first c.loop-rows.invariant.kept c.in_ok-note.ensures.ok;
      metered = omega arith;
    })

pub loop-rows-smaller-then-pass : goal.loop-rows-smaller-then-pass
loop-rows-smaller-then-pass c =
    let told = c.if-pass.ensures.verdict refl in
    let on = moves c.loop-rows.replay told.0 told.1 in
    let less = on.1 in rw c.if-pass.ensures.position (omega arith)

pub loop-rows-preserved : goal.loop-rows-preserved
loop-rows-preserved c =
    let stays : c.pass.new.self ≡ c.loop-rows.replay = c.if-pass.ensures.position in
    let told : verdict_at c.loop-rows.replay ≡ Ok c.in-Ok.field-0 = rw (← stays) (sym c.in-Ok.ensures.verdict) in
    let on = moves c.loop-rows.replay c.in-Ok.field-0 told in
    let less = on.1 in
    let last = last_of c.loop-rows.replay c.args.replay.now.entries c.loop-rows.invariant.entries in
    let metered = c.loop-rows.invariant.metered in
    let before = c.if-pass.ensures.meter in
    let raised = c.in-Ok.ensures.meter in
    rw (c.in-Ok.ensures.position, stays) (record {
      entries = c.loop-rows.invariant.entries;
      first = c.loop-rows.invariant.first;
      within = omega arith;
      going = first_departure-next c.args.replay.now.entries c.args.replay.now.first c.loop-rows.replay.step c.loop-rows.invariant.going (at_place c.loop-rows.replay c.args.replay.now.entries c.args.replay.now.first _ c.loop-rows.invariant.entries c.loop-rows.invariant.first on.0);
      kept = kept-next (told_by c.args.debug.now) c.loop-rows.replay c.args.replay.now.entries c.args.replay.now.first c.args.condition.now c.args.outputs.now c.loop-rows.rows _ c.loop-rows.invariant.entries c.loop-rows.invariant.first c.loop-rows.invariant.kept c.in_ok-note.ensures.ok;
      metered = omega arith;
    })

pub loop-rows-smaller : goal.loop-rows-smaller
loop-rows-smaller c =
    let stays : c.pass.new.self ≡ c.loop-rows.replay = c.if-pass.ensures.position in
    let told : verdict_at c.loop-rows.replay ≡ Ok c.in-Ok.field-0 = rw (← stays) (sym c.in-Ok.ensures.verdict) in
    let on = moves c.loop-rows.replay c.in-Ok.field-0 told in
    let less = on.1 in rw (c.in-Ok.ensures.position, stays) (omega arith)

pub returns-in-None : goal.returns-in-None
returns-in-None c =
    let stays : c.pass.new.self ≡ c.loop-rows.replay = c.if-pass.ensures.position in
    let end = is_end c.in-Err.halt (sym c.in-None.ensures) in
    let told : verdict_at c.loop-rows.replay ≡ Err c.in-Err.halt = rw (← stays) (sym c.in-Err.ensures.verdict) in
    finished (told_by c.args.debug.now) c.loop-rows.replay c.args.replay.now.entries c.args.replay.now.first c.args.condition.now c.args.outputs.now _ c.loop-rows.invariant.entries c.loop-rows.invariant.first c.loop-rows.invariant.within c.loop-rows.invariant.going
    (kept-next (told_by c.args.debug.now) c.loop-rows.replay c.args.replay.now.entries c.args.replay.now.first c.args.condition.now c.args.outputs.now c.loop-rows.rows _ c.loop-rows.invariant.entries c.loop-rows.invariant.first c.loop-rows.invariant.kept c.in_ok-note.ensures.ok)
    (rw end at told)

pub returns-in-Some : goal.returns-in-Some
returns-in-Some c =
    let stays : c.pass.new.self ≡ c.loop-rows.replay = c.if-pass.ensures.position in
    let told : verdict_at c.loop-rows.replay ≡ Err c.in-Err.halt = rw (← stays) (sym c.in-Err.ensures.verdict) in
    gives_stop (told_by c.args.debug.now) c.loop-rows.replay c.args.replay.now.entries c.args.replay.now.first c.args.condition.now c.args.outputs.now c.in-Err.halt c.in-Some.ending (sym c.in-Some.ensures)
    c.loop-rows.invariant.entries c.loop-rows.invariant.first c.loop-rows.invariant.within c.loop-rows.invariant.going told
