use Rattle.om_command.specs.Lines.{line_of}
use Rattle.om_command.proofs.ending.Ending.put.Goals as goal

pub returns-in-NoMemory-clause-line : goal.returns-in-NoMemory-clause-line
unfolding line_of
returns-in-NoMemory-clause-line g c = rw c.in-NoMemory.is c.put_all.ensures

pub returns-in-Unwritten-clause-line : goal.returns-in-Unwritten-clause-line
unfolding line_of
returns-in-Unwritten-clause-line g c = rw c.in-Unwritten.is c.put_all-in-Unwritten.ensures

pub returns-in-Exceeded-clause-line : goal.returns-in-Exceeded-clause-line
unfolding line_of
returns-in-Exceeded-clause-line g c = rw c.in-Exceeded.is c.put_name-in-Exceeded.ensures

pub returns-in-Unput-clause-line : goal.returns-in-Unput-clause-line
unfolding line_of
returns-in-Unput-clause-line g c = rw c.in-Unput.is c.put_name-in-Unput.ensures
