-- What is kept of debugging information, and which information that is.
use Rattle.std.specs.Prelude.{◌≡◌, ℕ, List, Option}
use Rattle.std.specs.List.{slice_get}
use Rattle.std.specs.Option.{option_and_then, option_flatten}
use Rattle.om_cfi.specs.Kept.{KeptRules, rules_told_by}
use Rattle.om_claims.specs.Pieces.{owner_in}
use Rattle.om_claims.specs.declared.piece.Piece.{Piece}
use Rattle.om_line.specs.Kept.{KeptLines, lines_told_by}
use Rattle.om_names.specs.Facts.{Facts, facts_of}
use Rattle.om_names.specs.Information.{Information}
use Rattle.om_names.specs.KeptVariables.{KeptVariables, told_in}
use Rattle.om_names.specs.declared.debug_counts.Counts.{Counts}

-- what is kept: the address space in pieces, each with the place of its function's name; the names; the line tables; the rules of frames; the variables; and how much there is
pub record Known : Type 0 where
  pub pieces : List Piece
  pub names : List (Option (List ℕ))
  pub lines : KeptLines
  pub frames : KeptRules
  pub variables : KeptVariables
  pub counts : Counts

-- the name at a place, if there are both
abbrev pub name_at : List (Option (List ℕ)) → Option ℕ → Option (List ℕ)
name_at names place = option_flatten (option_and_then (slice_get names) place)

-- what it tells
unfoldable pub told_by : Known → Facts
told_by known = record { func_at = λ pc. name_at known.names (owner_in known.pieces pc); lines = lines_told_by known.lines; variables = told_in known.variables; cfa = rules_told_by known.frames; counts = known.counts }

-- what is kept is that of some information: it tells what the information does
abbrev pub Knows : Information → Known → Type 0
Knows info known = told_by known ≡ facts_of info
