-- The claims of local variables: each name of the catalog has a stretch of addresses of its own, as long as the address space.
use Rattle.std.specs.Prelude.{ℕ, ◌+◌, ◌*◌, ◌^◌, nat_lt, if◌then◌else◌, List, [], filter_map, flat_map, map, Option, None, Some}
use Rattle.om_base.specs.declared.span.Span.{Span}
use Rattle.om_claims.specs.declared.claim.Claim.{Claim}
use Rattle.om_names.specs.ByName.{place_in}
use Rattle.om_names.specs.Variables.{Scoped, depth_of, local_held, name_of}
use Rattle.om_names.specs.declared.by_name.Seen.{Seen}
use Rattle.om_names.specs.declared.held.Held.{Held}
use Rattle.om_names.specs.declared.variable.Variable.{Variable}

-- a claim, and where the variable is that makes it
pub record Claimed : Type 0 where
  pub claim : Claim
  pub held : Option Held

-- the address of a name's stretch that stands for an address
abbrev pub in_stretch : ℕ → ℕ → ℕ
in_stretch place address = 2 ^ 32 * place + address

-- an end, cut at that of the address space
abbrev pub cut : ℕ → ℕ
cut end = if nat_lt (2 ^ 32) end then 2 ^ 32 else end

-- the addresses of a name's stretch that stand for those of a range, if it has some
unfoldable pub stretch : ℕ → Span → Option Span
stretch place span =
    if nat_lt span.lo (cut span.hi) then Some (record { lo = in_stretch place span.lo; hi = in_stretch place (cut span.hi) }) else None

abbrev pub claimed_by : Variable → Span → Claimed
claimed_by variable span = record { claim = record { span = span; depth = depth_of variable }; held = local_held variable }

-- what a variable claims whose name has a place
abbrev pub claimed_at : ℕ → Scoped → List Claimed
claimed_at place it = map (claimed_by it.variable) (filter_map (stretch place) it.scope)

abbrev pub claimed_if : Option ℕ → Scoped → List Claimed
claimed_if None it = []
claimed_if (Some place) it = claimed_at place it

-- ... by what is known of all names
unfoldable pub claimed_in : List Seen → Scoped → List Claimed
claimed_in seen it = claimed_if (place_in (name_of it.variable) seen) it

-- what all variables claim
abbrev pub all_claimed : List Seen → List Scoped → List Claimed
all_claimed seen scoped = flat_map (claimed_in seen) scoped

abbrev pub claims_of : List Claimed → List Claim
claims_of claimed = map (λ it. it.claim) claimed

abbrev pub helds_of : List Claimed → List (Option Held)
helds_of claimed = map (λ it. it.held) claimed
