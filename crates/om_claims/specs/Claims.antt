-- Whose an address is, of some claims.
use Rattle.std.specs.Prelude.{ℕ, Bool, ◌&&◌, nat_le, nat_lt, List, filter, position, Option}
use Rattle.std.specs.List.{list_all}
use Rattle.om_claims.specs.declared.claim.Claim.{Claim}

-- an address is one of those that a claim is to
abbrev pub holds : ℕ → Claim → Bool
holds address claim = nat_le claim.span.lo address && nat_lt address claim.span.hi

-- of some claims, none is deeper than this one
abbrev pub is_deepest : List Claim → Claim → Bool
is_deepest claims claim = list_all (λ other. nat_le other.depth claim.depth) claims

-- of some claims, this one holds an address and none that holds it is deeper
abbrev pub is_meant : List Claim → ℕ → Claim → Bool
is_meant claims address claim = holds address claim && is_deepest (filter (holds address) claims) claim

-- the place of the first claim that is meant by an address, if one holds it
unfoldable pub meant_at : List Claim → ℕ → Option ℕ
meant_at claims address = position (is_meant claims address) claims
