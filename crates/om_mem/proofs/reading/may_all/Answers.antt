use Rattle.std.proofs.Common.{rules}
use Rattle.om_mem.specs.Contents.{addresses_from, may_at}
use Rattle.om_mem.proofs.AcrossLemmas.{all-refusing}
use Rattle.om_mem.proofs.reading.may_all.Goals as goal

pub returns : goal.returns
returns c =
    rw (all-refusing (λ a. may_at c.args.regions.now a c.args.rights) (addresses_from c.args.address c.args.count), ← c.first_without.ensures) (search rules)
