-- What the laws of memory speak of.
use Rattle.std.specs.Prelude.{◌≡◌, ℕ, ◌+◌, ◌^◌, ◌<◌, ◌≤◌, ◌⊎◌, true, List, [], ◌∷◌, ◌++◌, length, map, get_or}
use Rattle.om_mem.specs.Contents.{Contents, Filled, contents_of, holds, padded, zeros}
use Rattle.om_mem.specs.Pages.{Held, IsKept}
use Rattle.om_mem.specs.declared.region.Region.{Region}

-- the region at a place holds an address; behind the last one is a region of no address
abbrev pub HoldsAt : List Region → (place address : ℕ) → Type 0
HoldsAt regions place address =
    holds (get_or regions place (record { low = 0; size = 0; rights = 0 })) address ≡ true

-- of the pairs of places whose regions hold an address in common, the least: by the first place, then by the second
pub record IsLeastOverlap (regions : List Region) (a b : ℕ) : Type 0 where
  pub order : a < b
  pub common : (address : ℕ) × HoldsAt regions a address × HoldsAt regions b address
  pub least : (c d address : ℕ) → c < d → HoldsAt regions c address → HoldsAt regions d address → (a < c) ⊎ ((a ≡ c) × (b ≤ d))

-- no address is held by regions at two places
abbrev pub HaveNoOverlap : List Region → Type 0
HaveNoOverlap regions =
    (c d address : ℕ) → c < d → HoldsAt regions c address → HoldsAt regions d address → ⊥

-- each memory of a list keeps the one before it, the first one the given
abbrev pub AreKept : Held → List Held → Type 0
AreKept before [] = Unit {0}
AreKept before (now ∷ later) = IsKept before now × AreKept now later

-- the last memory of a list, or the given one where it is empty
abbrev pub last_of : Held → List Held → Held
last_of held [] = held
last_of held (now ∷ later) = last_of now later

-- each region's first bytes fit into it, and it ends in the address space
abbrev pub AreFit : List Filled → Type 0
AreFit [] = Unit {0}
AreFit (f ∷ fs) = (length f.bytes ≤ f.region.size) × (f.region.low + f.region.size ≤ 2 ^ 32) × AreFit fs

-- the regions of some filled ones
abbrev pub regions_of : List Filled → List Region
regions_of fs = map (λ f. f.region) fs

-- memory of some regions: the first ones have their bytes, the others are zeros
abbrev pub part_filled : (done rest : List Filled) → Contents
part_filled done rest = contents_of (map padded done ++ map (λ f. zeros f.region) rest)
