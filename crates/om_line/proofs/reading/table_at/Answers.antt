use Rattle.std.proofs.Common.{◌+◌, take, refl, ap}
use Rattle.om_line.proofs.OpeningLemmas.{opened}
use Rattle.om_line.proofs.reading.table_at.Goals as goal

pub returns-clause-table : goal.returns-clause-table
returns-clause-table c =
    opened c.args.section.now c.from_offset-bytes.result.now (take (4 + c.unit_length.result) c.from_offset-bytes.result.now) c.args.at c.table_of.result c.from_offset-bytes.ensures
    (ap (λ n. take (4 + n) c.from_offset-bytes.result.now) c.unit_length.ensures) c.in_default.ensures.fault (c.in_default.ensures.whole refl)
    c.table_of.ensures.head c.table_of.ensures.range c.table_of.ensures.files c.table_of.ensures.program c.table_of.ensures.begins c.table_of.ensures.end c.table_of.ensures.lawful
