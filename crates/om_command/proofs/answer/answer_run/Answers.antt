use Rattle.om_command.proofs.NamedLemmas.{named_rows}
use Rattle.om_names.specs.Known.{told_by}
use Rattle.om_command.proofs.answer.answer_run.Goals as goal

pub print_table-requires : goal.print_table-requires
print_table-requires c =
    named_rows (told_by c.args.debug.now) c.args.replay.now.entries c.args.replay.now.first _ c.as_slice-outputs.result.now c.in-Ok-names_of.names c.in-Ok.rows c.in-Ok-names_of.ensures c.in-Ok.ensures.1
