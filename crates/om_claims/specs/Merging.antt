-- How the pieces of some claims are made.
use Rattle.std.specs.Prelude.{◌≡◌, ℕ, ◌≤◌, ◌<◌, ◌*◌, ◌-◌, Bool, true, false, nat_eq, nat_lt, min, if◌then◌else◌, List, [], ◌∷◌, length, Option, Some, None}
use Rattle.std.specs.List.{slice_get}
use Rattle.std.specs.Option.{option_eq}
use Rattle.om_claims.specs.Claims.{holds}
use Rattle.om_claims.specs.Pieces.{AreTidy, owner_in}
use Rattle.om_claims.specs.declared.claim.Claim.{Claim}
use Rattle.om_claims.specs.declared.merging.Left.{Left}
use Rattle.om_claims.specs.declared.merging.Merging.{Merging}
use Rattle.om_claims.specs.declared.piece.Piece.{Piece}

-- ---- the claim at a place

-- the depth of a claim that may not be there
abbrev pub depth_of : Option Claim → ℕ
depth_of None = 0
depth_of (Some claim) = claim.depth

abbrev pub depth_at : List Claim → ℕ → ℕ
depth_at claims place = depth_of (slice_get claims place)

-- what is at a place passes a test
abbrev pub passes : {X : Type 0} → (X → Bool) → Option X → Bool
passes test None = false
passes test (Some x) = test x

abbrev pub passes_at : {X : Type 0} → (X → Bool) → List X → ℕ → Bool
passes_at test xs place = passes test (slice_get xs place)

-- ---- of the claims from a place up to another

-- none holds an address
abbrev pub NoneHolds : List Claim → ℕ → ℕ → ℕ → Type 0
NoneHolds claims low high address = (j : ℕ) → low ≤ j → j < high → passes_at (holds address) claims j ≡ false

-- one holds an address and is the first of the deepest that do
pub record IsBestAt (claims : List Claim) (low high address place : ℕ) : Type 0 where
  pub above : low ≤ place
  pub below : place < high
  pub held : passes_at (holds address) claims place ≡ true
  pub deepest : (j : ℕ) → low ≤ j → j < high → passes_at (holds address) claims j ≡ true → depth_at claims j ≤ depth_at claims place
  pub first : (j : ℕ) → low ≤ j → j < place → passes_at (holds address) claims j ≡ true → depth_at claims j < depth_at claims place

abbrev pub IsBest : List Claim → ℕ → ℕ → ℕ → Option ℕ → Type 0
IsBest claims low high address None = NoneHolds claims low high address
IsBest claims low high address (Some place) = IsBestAt claims low high address place

-- pieces tell which one that is
pub record ArePiecesOf (claims : List Claim) (low high : ℕ) (pieces : List Piece) : Type 0 where
  pub tidy : AreTidy 0 None pieces
  pub tells : (address : ℕ) → IsBest claims low high address (owner_in pieces address)
  pub size : length pieces ≤ 2 * (high - low)

-- ---- merging

-- the deeper of two owners, of equals the first
unfoldable pub deeper : List Claim → Option ℕ → Option ℕ → Option ℕ
deeper claims None second = second
deeper claims (Some one) None = Some one
deeper claims (Some one) (Some other) = if nat_lt (depth_at claims one) (depth_at claims other) then Some other else Some one

-- where the next piece begins
abbrev pub next_from : List Piece → Option ℕ
next_from [] = None
next_from (piece ∷ pieces) = Some piece.from

-- the lower of two addresses that may not be there
abbrev pub least : Option ℕ → Option ℕ → Option ℕ
least None second = second
least (Some one) None = Some one
least (Some one) (Some other) = Some (min one other)

-- pieces, and the owner of the addresses before them
pub record Half : Type 0 where
  pub owner : Option ℕ
  pub pieces : List Piece

abbrev pub half_of : Left → Half
half_of left = record { owner = left.owner; pieces = left.pieces.now }

-- what is left behind an address, if the next piece begins there
abbrev pub passed_by : ℕ → Option ℕ → List Piece → Half
passed_by from owner [] = record { owner = owner; pieces = [] }
passed_by from owner (piece ∷ pieces) =
    if nat_eq piece.from from then record { owner = piece.owner; pieces = pieces } else record { owner = owner; pieces = piece ∷ pieces }

abbrev pub passed : ℕ → Half → Half
passed from half = passed_by from half.owner half.pieces

-- the pieces of two lists, with the owners of the addresses before them
unfoldable pub merged : List Claim → Option ℕ → Option ℕ → List Piece → List Piece → List Piece
merged claims above below [] [] = []
merged claims above below [] (other ∷ others) = record { from = other.from; owner = deeper claims above other.owner } ∷ merged claims above other.owner [] others
merged claims above below (piece ∷ pieces) [] = record { from = piece.from; owner = deeper claims piece.owner below } ∷ merged claims piece.owner below pieces []
merged claims above below (piece ∷ pieces) (other ∷ others) =
    if nat_lt piece.from other.from then record { from = piece.from; owner = deeper claims piece.owner below } ∷ merged claims piece.owner below pieces (other ∷ others)
    else if nat_lt other.from piece.from then record { from = other.from; owner = deeper claims above other.owner } ∷ merged claims above other.owner (piece ∷ pieces) others
    else record { from = piece.from; owner = deeper claims piece.owner other.owner } ∷ merged claims piece.owner other.owner pieces others

-- the pieces that are left to take
abbrev pub left_in : List Claim → Merging → List Piece
left_in claims two = merged claims two.first.owner two.second.owner two.first.pieces.now two.second.pieces.now

-- pieces without those whose owner is that of the addresses before
unfoldable pub joined : Option ℕ → List Piece → List Piece
joined before [] = []
joined before (piece ∷ pieces) = if option_eq nat_eq piece.owner before then joined before pieces else piece ∷ joined piece.owner pieces

-- the pieces of the claim at a place
abbrev pub pieces_of : ℕ → Claim → List Piece
pieces_of place claim =
    if nat_lt claim.span.lo claim.span.hi then record { from = claim.span.lo; owner = Some place } ∷ record { from = claim.span.hi; owner = None } ∷ [] else []
