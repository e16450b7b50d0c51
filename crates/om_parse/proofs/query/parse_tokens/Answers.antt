use Rattle.std.proofs.Common.{◌∙◌, ap, sym}
use Rattle.om_parse.specs.Reading as r
use Rattle.om_parse.proofs.ParseLaws.{read_is_tree, read_is_refused}
use Rattle.om_parse.proofs.query.parse_tokens.Goals as goal

pub returns-in-Ok-clause-tree : goal.returns-in-Ok-clause-tree
returns-in-Ok-clause-tree c = read_is_tree c.args.tokens.now c.in-Ok.query c.whole.new.tokens (ap r.whole (sym c.new-cursor.ensures) ∙ c.in-Ok.ensures)

pub returns-in-Err-Wrong-clause-fault : goal.returns-in-Err-Wrong-clause-fault
returns-in-Err-Wrong-clause-fault c =
    let read = rw c.in-Err-Wrong.field-0-is at c.in-Err-Wrong.ensures in
    (c.whole.new.tokens, read_is_refused c.args.tokens.now c.whole.new.tokens (ap r.whole (sym c.new-cursor.ensures) ∙ read), c.place.ensures)
