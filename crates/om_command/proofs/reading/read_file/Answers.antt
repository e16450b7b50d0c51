use Rattle.om_command.proofs.ReadLemmas.{took}
use Rattle.om_command.proofs.reading.read_file.Goals as goal

pub returns-in-Err-NoMemory-clause-takes : goal.returns-in-Err-NoMemory-clause-takes
returns-in-Err-NoMemory-clause-takes g c =
    took _ _ _ c.take.ensures.same c.take.ensures.cause.later c.take.ensures.puts c.take.ensures.faultless

pub returns-in-Err-Failed-clause-takes : goal.returns-in-Err-Failed-clause-takes
returns-in-Err-Failed-clause-takes g c =
    took _ _ _ c.take.ensures.same c.take.ensures.cause.later c.take.ensures.puts c.take.ensures.faultless
