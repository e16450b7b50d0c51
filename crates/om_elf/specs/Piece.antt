-- What a section holds.
use Rattle.std.specs.Prelude.{ℕ, ◌^◌, ◌<◌, List, length}

-- the number of a section's header, the section's name, and the bytes that the file gives
pub record Piece : Type 0 where
  pub index : ℕ
  pub name : List ℕ
  pub bytes : List ℕ

-- a section has fewer than 2^32 bytes
abbrev pub IsShort : Piece → Type 0
IsShort piece = length piece.bytes < 2 ^ 32
