-- Bytes that are kept in pieces.
use Rattle.std.specs.Prelude.{ℕ, ◌+◌, ◌*◌, List, ◌++◌, length}
use Rattle.om_names.specs.declared.name_pieces.Pieces.{Pieces}

-- the pieces, one behind another
abbrev pub joined : Pieces → List ℕ
joined pieces = pieces.first.now ++ (pieces.second.now ++ pieces.third.now)

-- how much is left: each byte counts as often as its piece has to come first
abbrev pub pieces_left : Pieces → ℕ
pieces_left pieces = length pieces.first.now + 2 * length pieces.second.now + 3 * length pieces.third.now
