use Rattle.om_io.proofs.DirLemmas.{count_rises}
use Rattle.om_io.proofs.dir_shelf.DirShelfShelf.put.Goals as goal

pub returns-clause-cause : goal.returns-clause-cause
returns-clause-cause g c = count_rises _ _ _ _ c.answered.ensures.later c.answered.ensures.count
