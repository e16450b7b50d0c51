-- A world in memory that is just made.
use Rattle.std.specs.Prelude.{ℕ, List, []}
use Rattle.om_io.specs.MemShelf as shelf
use Rattle.om_io.specs.MemSink as sink
use Rattle.om_command.specs.Delivered.{world}
use Rattle.om_command.specs.Result.{World}

-- a shelf that holds these files and an output that takes so many bytes at a write, of which no call was made yet and none is to fail
abbrev pub just_made : (files : List (List ℕ × List ℕ)) → (most : ℕ) → World
just_made files most =
    world
    (shelf.told_by (record { files = files; failing = []; calls = 0; failed_takes = []; failed_puts = [] }))
    (sink.told_by (record { written = []; most = most; failing = []; calls = 0; faults = 0; refused_growths = 0 }))
