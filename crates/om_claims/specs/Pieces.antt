-- The address space in pieces.
use Rattle.std.specs.Prelude.{◌≡◌, ◌≢◌, ℕ, suc, ◌≤◌, nat_lt, if◌then◌else◌, List, [], ◌∷◌, Option, None}
use Rattle.om_claims.specs.Claims.{meant_at}
use Rattle.om_claims.specs.declared.claim.Claim.{Claim}
use Rattle.om_claims.specs.declared.piece.Piece.{Piece}

-- whose an address is by pieces, where the addresses before all of them have an owner
unfoldable pub owner_after : Option ℕ → List Piece → ℕ → Option ℕ
owner_after before [] address = before
owner_after before (piece ∷ pieces) address = if nat_lt address piece.from then before else owner_after piece.owner pieces address

-- ... and where they are nobody's
abbrev pub owner_in : List Piece → ℕ → Option ℕ
owner_in pieces address = owner_after None pieces address

-- pieces begin at an address or above, each above the one before, and of two that touch the owners differ
unfoldable pub AreTidy : ℕ → Option ℕ → List Piece → Type 0
AreTidy from before [] = Unit {0}
AreTidy from before (piece ∷ pieces) = (from ≤ piece.from) × (piece.owner ≢ before) × AreTidy (suc piece.from) piece.owner pieces

-- pieces tell of each address which claim is meant by it
abbrev pub IsIndexOf : List Claim → List Piece → Type 0
IsIndexOf claims pieces = (address : ℕ) → owner_in pieces address ≡ meant_at claims address
