use Rattle.std.proofs.lemmas.List.{take_rest}
use Rattle.om_die.proofs.DieLaws.{code_there, no_code}
use Rattle.om_die.proofs.entries.read_code.Goals as goal

pub returns-in-Ok : goal.returns-in-Ok
returns-in-Ok c =
    rw (take_rest c.args.bytes.now c.in-Ok.size) (code_there c.args.bytes.now c.in-Ok.code c.in-Ok.size c.in-Ok.ensures.value)

pub returns-in-Err : goal.returns-in-Err
returns-in-Err c = no_code c.args.bytes.now c.in-Err.field-0 c.in-Err.ensures.value
