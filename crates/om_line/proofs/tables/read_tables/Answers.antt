use Rattle.om_line.specs.Tables.{tables_at}
use Rattle.om_line.proofs.TableLemmas.{gathered_told}
use Rattle.om_line.proofs.tables.read_tables.Goals as goal

pub returns-clause-lines : goal.returns-clause-lines
returns-clause-lines c =
    gathered_told (tables_at c.args.section.now c.args.offsets.now) c.in-Ok.gathered c.as_slice.result.now c.in_ok-index.index c.in-Ok.ensures.tables c.as_slice.ensures c.in_ok-index.ensures.index
