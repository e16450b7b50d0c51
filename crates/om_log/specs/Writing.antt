-- What a writer of a log has written.
use Rattle.std.specs.Prelude.{ℕ, ◌^◌, ◌<◌, List, ◌++◌, length}
use Rattle.std.specs.List.{AllByRecursion}
use Rattle.om_log.specs.Chunk.{Chunk}
use Rattle.om_log.specs.Grammar.{header}
use Rattle.om_log.specs.declared.entry.Entry.{Entry}
use Rattle.om_log.specs.declared.entry.Entry.TheVariants.{Call, Mark, End}
use Rattle.om_log.specs.declared.start.Start.{Start}

-- the regions of the header, and the bytes of the entries behind it
pub record Written : Type 0 where
  pub start : Start
  pub body : List ℕ

-- all bytes: the header, and the entries behind it
abbrev pub file_of : Written → List ℕ
file_of written = header written.start ++ written.body

-- the bytes of a write are so few that their number fits 4 bytes
abbrev pub IsShort : Chunk → Type 0
IsShort chunk = length chunk.bytes < 2 ^ 32

-- the numbers of writes and of their bytes fit the 4 bytes that they have
abbrev pub HasShortWrites : Entry → Type 0
HasShortWrites (Call step number args result writes) = (length writes < 2 ^ 32) × AllByRecursion IsShort writes
HasShortWrites (Mark step pc sum) = Unit {0}
HasShortWrites (End step cause value) = Unit {0}
