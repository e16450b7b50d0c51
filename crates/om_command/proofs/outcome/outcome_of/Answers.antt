use Rattle.om_command.proofs.EffectLemmas.{info_refuses, query_refuses, record_refuses}
use Rattle.om_command.proofs.outcome.outcome_of.Goals as goal

pub returns-in-Err-record_run : goal.returns-in-Err-record_run
returns-in-Err-record_run c =
    λ read is.
    rw c.in-Record.is
    (record_refuses c.args.files.now c.in-Record.log.now c.content-in-Record.result.now c.content-in-Record-2.result.now read c.in-Err-record_run.ending
    c.content-in-Record.ensures c.content-in-Record-2.ensures (c.in-Err-record_run.ensures c.in-Record.log.now))

pub returns-in-Err : goal.returns-in-Err
returns-in-Err c =
    λ read is.
    rw c.in-Query.is
    (query_refuses c.args.files.now c.in-Query.sql.now c.content.result.now c.content-in-Query.result.now read c.in-Err.ending
    c.content.ensures c.content-in-Query.ensures c.answer_text.ensures.exe_bytes c.answer_text.ensures.log_bytes
    (λ r debug log query. c.in-Err.ensures.text r debug log (rw c.as_bytes.ensures.value query))
    (rw c.in-Query.is at is))

pub returns-in-Err-told_of : goal.returns-in-Err-told_of
returns-in-Err-told_of c =
    λ read is.
    rw c.in-Info.is
    (info_refuses c.args.files.now c.content-in-Info.result.now read c.in-Err-told_of.ending
    c.content-in-Info.ensures c.told_of.ensures.exe_bytes c.in-Err-told_of.ensures.text
    (rw c.in-Info.is at is))
