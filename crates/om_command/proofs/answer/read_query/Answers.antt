use Rattle.om_command.proofs.QueryLemmas.{asks_no_tree, asks_typed, asks_unbuilt}
use Rattle.om_command.proofs.answer.read_query.Goals as goal

pub returns-in-Ok-check : goal.returns-in-Ok-check
returns-in-Ok-check c =
    asks_typed c.args.catalog.now c.args.sql.now c.in-Ok.query c.in-Ok-check.typed c.in-Ok.ensures.finds c.in-Ok.ensures.refuses c.in-Ok-check.ensures.finds c.in-Ok-check.ensures.refuses

pub returns-in-Err-Syntax : goal.returns-in-Err-Syntax
returns-in-Err-Syntax c = asks_no_tree c.args.catalog.now c.args.sql.now c.in-Err-Syntax.field-0 (λ e. cc) c.in-Err-Syntax.ensures.finds

pub returns : goal.returns
returns c = asks_unbuilt c.args.catalog.now c.args.sql.now c.in-Ok.query c.in-Err-Unbuilt.field-0 c.in-Err-Unbuilt.field-0-is c.in-Ok.ensures.finds c.in-Err-Unbuilt.ensures.finds
