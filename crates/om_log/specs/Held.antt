-- The list that held writes stand for.
use Rattle.std.specs.Prelude.{List, [], ◌∷◌}
use Rattle.om_log.specs.Chunk.{Chunk}
use Rattle.om_log.specs.EntryFields.{chunks_in}
use Rattle.om_log.specs.declared.writes.Held.{Held}
use Rattle.om_log.specs.declared.writes.Held.TheVariants.{Empty, One, Spelled}

-- the writes, first to last
abbrev pub writes_of : Held → List Chunk
writes_of Empty = []
writes_of (One chunk) = chunk ∷ []
writes_of (Spelled count bytes) = chunks_in count bytes.now
