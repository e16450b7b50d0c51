-- Reading a log from left to right.
use Rattle.std.specs.Prelude.{ℕ, zero, suc, List, [], ◌∷◌, Some, None, ◌==◌, if◌then◌else◌}
use Rattle.om_log.specs.Chunk.{Chunk}
use Rattle.om_log.specs.Fields.{Field, number, some_bytes, mapped, both, times, led}
use Rattle.om_log.specs.declared.entry.Entry.{Entry}
use Rattle.om_log.specs.declared.entry.Entry.TheVariants.{Call, Mark, End}

-- an address and counted bytes
unfoldable pub chunk_field : Field Chunk
chunk_field = mapped (λ x. record { addr = x.0; bytes = x.1 }) (both (number 4) (led 4 some_bytes))

-- counted writes
unfoldable pub chunks_field : Field (List Chunk)
chunks_field = led 4 (λ count. times count chunk_field)

-- the writes that some bytes begin with: as many as are whole, at most so many
unfoldable pub chunks_in : ℕ → List ℕ → List Chunk
chunks_in zero bytes = []
chunks_in (suc count) bytes = elim (chunk_field bytes) [ None ↦ [] | Some x ↦ x.0 ∷ chunks_in count x.1 ]

-- six numbers
unfoldable pub args_field : Field (List ℕ)
args_field = times 6 (number 4)

-- a CALL behind its kind
unfoldable pub call_field : Field Entry
call_field =
    mapped (λ x. Call x.0.0.0.0 x.0.0.0.1 x.0.0.1 x.0.1 x.1)
    (both (both (both (both (number 8) (number 4)) args_field) (number 4)) chunks_field)

-- a MARK behind its kind
unfoldable pub mark_field : Field Entry
mark_field = mapped (λ x. Mark x.0.0 x.0.1 x.1) (both (both (number 8) (number 4)) (number 4))

-- an END behind its kind
unfoldable pub end_field : Field Entry
end_field = mapped (λ x. End x.0.0 x.0.1 x.1) (both (both (number 8) (number 1)) (number 4))

-- an entry
unfoldable pub entry_field : Field Entry
entry_field [] = None
entry_field (kind ∷ rest) =
    if kind == 1 then call_field rest else (if kind == 2 then mark_field rest else (if kind == 3 then end_field rest else None))
