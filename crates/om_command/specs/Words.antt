-- The request that the code's value stands for.
use Rattle.std.specs.Prelude.{map, string_bytes}
use Rattle.om_command.specs.Requests.{Command, Request, informs, queries, records}
use Rattle.om_command.specs.declared.words.Command.{Command as Told}
use Rattle.om_command.specs.declared.words.Command.TheVariants.{Query, Record, Info}
use Rattle.om_command.specs.declared.words.Request.{Request as Words}

-- what is done with the files
abbrev pub command_by : Told → Command
command_by (Query sql) = queries sql.now
command_by (Record log) = records log.now
command_by Info = informs

-- the names of the files, and what is done with them
abbrev pub asked_by : Words → Request
asked_by words = record { files = map string_bytes words.files.now; command = command_by words.command }
