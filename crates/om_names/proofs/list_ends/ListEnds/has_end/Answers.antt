use Rattle.std.proofs.Common.{None, Some}
use Rattle.om_names.proofs.ListEndLemmas.{kept_end}
use Rattle.om_names.proofs.list_ends.ListEnds.has_end.Goals as goal

pub returns-in-Some-last : goal.returns-in-Some-last
returns-in-Some-last c = λ section base are.
    kept_end section base c.args.offset c.args.self.now.last c.as_slice.result.now c.in-Some.last.now (Some c.in-Some-last.at) are c.as_slice.ensures (c.in-Some.ensures.lookup.3.1 None) c.in-Some-last.is

pub returns-in-None : goal.returns-in-None
returns-in-None c = λ section base are.
    kept_end section base c.args.offset c.args.self.now.last c.as_slice.result.now c.in-Some.last.now None are c.as_slice.ensures (c.in-Some.ensures.lookup.3.1 None) c.in-None.is
