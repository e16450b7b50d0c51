use Rattle.std.proofs.Common.{length, ◌∙◌, ap, sym, arith}
use Rattle.om_grammar.specs.Reading as r
use Rattle.om_grammar.proofs.ParseLaws.{read_is_tree, read_is_refused, never_deep}
use Rattle.om_grammar.proofs.query.parse_tokens.Goals as goal

pub unreachable-requires : goal.unreachable-requires
unreachable-requires c =
    let read = rw c.in-Err-Deep.field-0-is at c.in-Err-Deep.ensures in
    never_deep (length c.args.tokens.now) c.args.tokens.now c.whole.new.tokens (omega arith) (ap (r.whole (length c.args.tokens.now)) (sym c.new-cursor.ensures) ∙ read)

pub returns-in-Ok-clause-tree : goal.returns-in-Ok-clause-tree
returns-in-Ok-clause-tree c =
    read_is_tree (length c.args.tokens.now) c.args.tokens.now c.in-Ok.query c.whole.new.tokens (ap (r.whole (length c.args.tokens.now)) (sym c.new-cursor.ensures) ∙ c.in-Ok.ensures)

pub returns-in-Err-Wrong-clause-fault : goal.returns-in-Err-Wrong-clause-fault
returns-in-Err-Wrong-clause-fault c =
    let read = rw c.in-Err-Wrong.field-0-is at c.in-Err-Wrong.ensures in
    (c.whole.new.tokens, read_is_refused (length c.args.tokens.now) c.args.tokens.now c.whole.new.tokens (ap (r.whole (length c.args.tokens.now)) (sym c.new-cursor.ensures) ∙ read), c.place.ensures)
