use Rattle.om_grammar.proofs.ParseLaws.{finds, refuses}
use Rattle.om_grammar.proofs.query.parse.Goals as goal

pub returns-clause-finds : goal.returns-clause-finds
returns-clause-finds c = finds c.args.text.now c.read.result c.read.ensures.tree c.read.ensures.fault

pub returns-clause-refuses : goal.returns-clause-refuses
returns-clause-refuses c = refuses c.args.text.now c.read.result c.read.ensures.tree c.read.ensures.fault
