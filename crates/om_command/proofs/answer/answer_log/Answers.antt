use Rattle.om_command.proofs.AnswerLemmas.{known_log_fault, log_refused}
use Rattle.om_names.specs.Known.{told_by}
use Rattle.om_command.proofs.answer.answer_log.Goals as goal

pub returns-in-Err : goal.returns-in-Err
returns-in-Err c = record {
  text = λ log_read query log asks.
      rw c.end_by_log.ensures
      (log_refused c.args.elf.now (told_by c.args.debug.now) c.in-Err.fault log_read query (known_log_fault c.args.log.now c.in-Err.fault log_read c.in-Err.ensures.reads c.in-Err.ensures.refuses log));
}
