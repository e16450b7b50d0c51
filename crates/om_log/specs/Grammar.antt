-- The log OTL1: how it is spelled, and what its entries have to keep.
use Rattle.std.specs.Prelude.{◌≡◌, ℕ, ◌+◌, ◌<◌, ◌≤◌, ◌^◌, List, [], ◌∷◌, ◌++◌, length, ◌⊎◌}
use Rattle.std.specs.List.{flat_map, AllByRecursion}
use Rattle.om_log.specs.Chunk.{Chunk}
use Rattle.om_log.specs.EndCauses.{by_cut, by_stop}
use Rattle.om_log.specs.LittleEndian.{le_bytes}
use Rattle.om_log.specs.Regions.{FitsStart, IsLawfulStart}
use Rattle.om_log.specs.declared.entry.Entry.{Entry}
use Rattle.om_log.specs.declared.entry.Entry.TheVariants.{Call, Mark, End}
use Rattle.om_log.specs.declared.log.Log.{Log}
use Rattle.om_log.specs.declared.start.Start.{Start}

-- ---- spelling

-- a length in 4 bytes, and the bytes
abbrev pub sized : List ℕ → List ℕ
sized bytes = le_bytes 4 (length bytes) ++ bytes

-- the bytes of a write: its address, and its bytes with their length
abbrev pub chunk_spelling : Chunk → List ℕ
chunk_spelling chunk = le_bytes 4 chunk.addr ++ sized chunk.bytes

-- the bytes of a call's writes: how many there are, and each of them
abbrev pub chunks_spelling : List Chunk → List ℕ
chunks_spelling chunks = le_bytes 4 (length chunks) ++ flat_map chunk_spelling chunks

-- the bytes of an entry
unfoldable pub spelling : Entry → List ℕ
spelling (Call step number args result writes) =
    1 ∷ (le_bytes 8 step ++ le_bytes 4 number ++ flat_map (le_bytes 4) args ++ le_bytes 4 result ++ chunks_spelling writes)
spelling (Mark step pc sum) = 2 ∷ (le_bytes 8 step ++ le_bytes 4 pc ++ le_bytes 4 sum)
spelling (End step cause value) = 3 ∷ (le_bytes 8 step ++ le_bytes 1 cause ++ le_bytes 4 value)

-- the bytes of some entries, one after another
unfoldable pub spellings : List Entry → List ℕ
spellings [] = []
spellings (entry ∷ entries) = spelling entry ++ spellings entries

-- the bytes of the header: the letters OTL, the digit 1, and the four numbers
unfoldable pub header : Start → List ℕ
header start =
    79 ∷ 84 ∷ 76 ∷ 49 ∷ (le_bytes 4 start.stack_low ++ le_bytes 4 start.stack_size ++ le_bytes 4 start.heap_low ++ le_bytes 4 start.heap_size)

-- ---- entries

-- the address and the length of a write are numbers of 4 bytes
abbrev pub FitsChunk : Chunk → Type 0
FitsChunk chunk = (chunk.addr < 2 ^ 32) × (length chunk.bytes < 2 ^ 32)

-- each number of an entry fits the bytes that it has, and a CALL has 6 arguments
unfoldable pub Fits : Entry → Type 0
Fits (Call step number args result writes) =
    (step < 2 ^ 64) × (number < 2 ^ 32) × (length args ≡ 6) × AllByRecursion (λ arg. arg < 2 ^ 32) args × (result < 2 ^ 32)
    × (length writes < 2 ^ 32) × AllByRecursion FitsChunk writes
Fits (Mark step pc sum) = (step < 2 ^ 64) × (pc < 2 ^ 32) × (sum < 2 ^ 32)
Fits (End step cause value) = (step < 2 ^ 64) × (cause < 256) × (value < 2 ^ 32)

-- the cause of an END is an exit, a cut or a stop, and a cut has no value
unfoldable pub HasCause : Entry → Type 0
HasCause (Call step number args result writes) = Unit {0}
HasCause (Mark step pc sum) = Unit {0}
HasCause (End step cause value) = (cause ≤ by_stop) × (cause ≡ by_cut → value ≡ 0)

-- the step of an entry
unfoldable pub step_of : Entry → ℕ
step_of (Call step number args result writes) = step
step_of (Mark step pc sum) = step
step_of (End step cause value) = step

-- the least step that may come after an entry
unfoldable pub next_of : Entry → ℕ
next_of (Call step number args result writes) = step + 1
next_of (Mark step pc sum) = step
next_of (End step cause value) = step

-- the entry is an END
unfoldable pub IsEnd : Entry → Type 0
IsEnd (Call step number args result writes) = ⊥
IsEnd (Mark step pc sum) = ⊥
IsEnd (End step cause value) = Unit {0}

-- an entry may stand where no step below this one may
pub record MayStand (least : ℕ) (entry : Entry) : Type 0 where
  pub fits : Fits entry
  pub cause : HasCause entry
  pub step : least ≤ step_of entry

-- entries may stand one after another from this step on, and none stands after an END
unfoldable pub AreLawful : ℕ → List Entry → Type 0
AreLawful least [] = Unit {0}
AreLawful least (entry ∷ entries) = MayStand least entry × (IsEnd entry → entries ≡ []) × AreLawful (next_of entry) entries

-- an END is among some entries
unfoldable pub HasEnd : List Entry → Type 0
HasEnd [] = ⊥
HasEnd (entry ∷ entries) = IsEnd entry ⊎ HasEnd entries

-- the least step that may come after some entries that begin where this one may
unfoldable pub next_after : ℕ → List Entry → ℕ
next_after least [] = least
next_after least (entry ∷ entries) = next_after (next_of entry) entries

-- ---- logs

-- a log keeps the rules of the format: those of its header, and those of its entries, the last of which is its one END
pub record IsLawfulLog (log : Log) : Type 0 where
  pub fits : FitsStart log.start
  pub start : IsLawfulStart log.start
  pub entries : AreLawful 0 log.entries
  pub ended : HasEnd log.entries

-- a file is the spelling of a log
pub record IsLog (file : List ℕ) (log : Log) : Type 0 where
  pub lawful : IsLawfulLog log
  pub spelled : file ≡ header log.start ++ spellings log.entries
