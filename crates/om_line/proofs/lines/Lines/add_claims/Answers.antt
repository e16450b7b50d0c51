use Rattle.om_line.proofs.RowLemmas.{no_more, one_more}
use Rattle.om_line.proofs.lines.Lines.add_claims.Goals as goal

pub loop-row-preserved : goal.loop-row-preserved
loop-row-preserved c =
    one_more _ c.loop-row.claims c.push.new.self c.loop-row.rest.now c.in-Some.rows.now c.in-Some.row.now c.span_of-span.result c.loop-row.invariant c.in-Some.ensures.cases.0 c.span_of-span.ensures c.in_ok-push.ensures.ok

pub returns : goal.returns
returns c = no_more _ c.loop-row.claims c.loop-row.rest.now c.loop-row.invariant c.in_default.ensures.cases
