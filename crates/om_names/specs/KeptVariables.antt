-- What is kept of variables, and what it tells.
use Rattle.std.specs.Prelude.{ℕ, ◌^◌, ◌&&◌, nat_lt, if◌then◌else◌, List, Option, Some, None}
use Rattle.std.specs.List.{slice_get}
use Rattle.std.specs.Option.{option_and_then, option_flatten}
use Rattle.om_claims.specs.Pieces.{IsIndexOf, owner_in}
use Rattle.om_claims.specs.declared.claim.Claim.{Claim}
use Rattle.om_claims.specs.declared.piece.Piece.{Piece}
use Rattle.om_die.specs.declared.die.Die.{Die}
use Rattle.om_eval.specs.declared.catalog.VarInfo.{VarInfo}
use Rattle.om_names.specs.Names.{typing_from}
use Rattle.om_names.specs.Stretches.{in_stretch}
use Rattle.om_names.specs.Types.{is_loop, is_typed}
use Rattle.om_names.specs.Variables.{VariableFacts}
use Rattle.om_names.specs.declared.held.Held.{Held}
use Rattle.om_names.specs.declared.names.Names.{Names}

-- where an entry stands whose type takes too many links, by what entries tell
abbrev pub loop_by : Names → Die → Option ℕ
loop_by names die = if is_typed die && is_loop (typing_from names die) then Some die.at else None

-- what is kept: the catalog; for each name of it where the variable outside functions is that it means; the stretches of all names in pieces, each
-- with the place of a local variable; and where those are
pub record KeptVariables : Type 0 where
  pub catalog : List VarInfo
  pub fixed : List (Option Held)
  pub pieces : List Piece
  pub locals : List (Option Held)

-- the pieces are those of some claims
abbrev pub AreOfClaims : List Piece → Type 0
AreOfClaims pieces = (claims : List Claim) × IsIndexOf claims pieces

-- where the local variable is that a name means at an address of 32 bits
abbrev pub local_told : KeptVariables → ℕ → ℕ → Option Held
local_told kept place pc = if nat_lt pc (2 ^ 32) then option_flatten (option_and_then (slice_get kept.locals) (owner_in kept.pieces (in_stretch place pc))) else None

-- ... and where the one is that a name of the catalog means
abbrev pub held_told : KeptVariables → ℕ → ℕ → Option VarInfo → Option Held
held_told kept place pc None = None
held_told kept place pc (Some info) = if info.fixed then option_flatten (slice_get kept.fixed place) else local_told kept place pc

-- what is kept tells
unfoldable pub told_in : KeptVariables → VariableFacts
told_in kept = record { catalog = kept.catalog; held = λ place pc. held_told kept place pc (slice_get kept.catalog place) }
