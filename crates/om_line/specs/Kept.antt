-- What is kept of line tables that are asked as one, and what it tells.
use Rattle.std.specs.Prelude.{ℕ, List, Option}
use Rattle.std.specs.List.{slice_get}
use Rattle.std.specs.Option.{option_and_then, option_map}
use Rattle.om_claims.specs.Pieces.{IsIndexOf, owner_in}
use Rattle.om_claims.specs.declared.claim.Claim.{Claim}
use Rattle.om_claims.specs.declared.piece.Piece.{Piece}
use Rattle.om_line.specs.Tables.{LineFacts}
use Rattle.om_line.specs.declared.gathering.KeptRow.{KeptRow}

-- the rows of all tables, the names of their files, and whose each address is, by the place of a row
pub record KeptLines : Type 0 where
  pub rows : List KeptRow
  pub files : List (List ℕ)
  pub pieces : List Piece

-- pieces are the index of some claims
abbrev pub AreIndex : List Piece → Type 0
AreIndex pieces = (claims : List Claim) × IsIndexOf claims pieces

-- the row that an address belongs to
abbrev pub kept_at : KeptLines → ℕ → Option KeptRow
kept_at kept pc = option_and_then (slice_get kept.rows) (owner_in kept.pieces pc)

-- what is kept tells
unfoldable pub lines_told_by : KeptLines → LineFacts
lines_told_by kept = record {
  line_at = λ pc. option_map (λ found. found.row) (kept_at kept pc);
  file_at = λ pc. option_and_then (λ found. option_and_then (slice_get kept.files) found.file) (kept_at kept pc);
}
