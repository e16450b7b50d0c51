use Rattle.std.proofs.Common.{◌∙◌, arith, sym}
use Rattle.om_log.proofs.FieldLaws.{IsBytes}
use Rattle.om_log.proofs.HeaderLaws.{header_there}
use Rattle.om_log.proofs.header.header_of.Goals as goal

pub returns-clause-header : goal.returns-clause-header
returns-clause-header c =
    let bytes : IsBytes c.args.file.now = λ i. omega (arith, c.type_inv.file i) in
    let none = sym c.fault_of.ensures.fault ∙ c.in_default.is in
    rw (c.start_of.ensures, c.split_at.ensures.back) (header_there c.args.file.now bytes none)
