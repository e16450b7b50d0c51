use Rattle.om_command.proofs.FilesLemmas.{read_prepares, stop_prepares}
use Rattle.om_command.proofs.program.prepare.Goals as goal

pub returns-in-Ok-clause-prepares : goal.returns-in-Ok-clause-prepares
returns-in-Ok-clause-prepares g c =
    read_prepares (record { debug = c.one_meaning.ensures.debug; log = c.one_meaning.ensures.log; query = c.one_meaning.ensures.query }) _ _ _ _ _
    (rw c.as_slice.ensures c.in-Ok.ensures.read) c.outcome_of.ensures

pub returns-in-Err-clause-prepares : goal.returns-in-Err-clause-prepares
returns-in-Err-clause-prepares g c =
    stop_prepares (record { debug = c.one_meaning.ensures.debug; log = c.one_meaning.ensures.log; query = c.one_meaning.ensures.query }) _ _ _ _
    c.in-Err.ensures.read
