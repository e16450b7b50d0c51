-- How memory is kept: the bytes of all regions, laid end to end in the regions' order. Nobody above needs it.
use Rattle.std.specs.Prelude.{◌≡◌, ℕ, ◌+◌, ◌-◌, ◌*◌, ◌/◌, ◌^◌, ◌≤◌, ◌<◌, Bool, true, false, not, find, replicate, List, [], ◌∷◌, ◌++◌, length, take, drop, set, get_or, sum_by, All, Option, Some, None, if◌then◌else◌}
use Rattle.std.specs.Option.{option_map}
use Rattle.std.specs.FinMap as fin
use Rattle.om_base.specs.Limits.{page_size}
use Rattle.om_mem.specs.Contents.{Contents, addresses_from, holds, may_at, numbered, overlap_of}
use Rattle.om_mem.specs.Pages.{page_count, flag}
use Rattle.om_mem.specs.declared.region.Region.{Region}
use Rattle.om_mem.specs.declared.spot.Spot.{Spot}

-- the addresses of the regions with the bytes laid out for them
abbrev pub cells : List Region → List ℕ → List (ℕ × ℕ)
cells [] bytes = []
cells (r ∷ rs) bytes = numbered r.low (take r.size bytes) ++ cells rs (drop r.size bytes)

-- what regions and the bytes laid out for them are as memory
unfoldable pub laid : List Region → List ℕ → Contents
laid regions bytes = record { regions = regions; bytes = fin.from_entries (cells regions bytes) }

-- a page of the laid out bytes
unfoldable pub piece_of : List ℕ → ℕ → List ℕ
piece_of bytes page = take page_size (drop (page * page_size) bytes)

-- the place of an address among the laid out bytes, and its rights, if a region holds it
abbrev pub place_of : List Region → ℕ → Option (ℕ × ℕ)
place_of [] address = None
place_of (r ∷ rs) address =
    if holds r address
    then Some (address - r.low, r.rights)
    else option_map (λ found. (r.size + found.0, found.1)) (place_of rs address)

-- the first of so many addresses from one on that isn't in a region with each of the rights
abbrev pub refusing : List Region → (address count rights : ℕ) → Option ℕ
refusing regions address count rights = find (λ a. not (may_at regions a rights)) (addresses_from address count)

-- the regions end in the address space and are apart, the bytes are as many as they want, and each page has its flag
pub record IsLaid (regions : List Region) (bytes : List ℕ) (dirty : List Bool) : Type 0 where
  pub ends : All (λ r. r.low + r.size ≤ 2 ^ 32) regions
  pub few : length regions < 2 ^ 32
  pub apart : overlap_of regions ≡ None
  pub whole : length bytes ≡ sum_by (λ r. r.size) regions
  pub small : length bytes ≤ 67108864
  pub flags : length dirty ≡ page_count regions

-- the regions end in the address space, are apart, and want no more bytes than there may be
pub record AreMapped (regions : List Region) : Type 0 where
  pub ends : All (λ r. r.low + r.size ≤ 2 ^ 32) regions
  pub apart : overlap_of regions ≡ None
  pub small : sum_by (λ r. r.size) regions ≤ 67108864

-- each of the spot's addresses has its byte so far from the spot's place as it is from the spot's least address
pub record IsSpot (regions : List Region) (spot : Spot) : Type 0 where
  pub place : (k : ℕ) → k < spot.size → place_of regions (spot.low + k) ≡ Some (spot.at + k, spot.rights)
  pub ends : spot.low + spot.size ≤ 2 ^ 32
  pub within : spot.at + spot.size ≤ sum_by (λ r. r.size) regions

-- how memory is kept, with the spots of the last fetch and of the last load or store
pub record IsHeld (regions : List Region) (bytes : List ℕ) (dirty : List Bool) (near_fetch near_data : Spot) : Type 0 where
  pub laid : IsLaid regions bytes dirty
  pub for_fetch : IsSpot regions near_fetch
  pub for_data : IsSpot regions near_data

-- bytes in the place of those from a place on
abbrev pub overlaid : List ℕ → ℕ → List ℕ → List ℕ
overlaid bytes at [] = bytes
overlaid bytes at (b ∷ new) = overlaid (set bytes at b) (at + 1) new

-- flags of which those from a page on, up to another, are set
abbrev pub marked : List Bool → (first past : ℕ) → List Bool
marked dirty first past = take first dirty ++ (replicate (past - first) true ++ drop past dirty)

-- each byte whose page isn't flagged now is as before, and such a page wasn't flagged then
pub record IsSame (bytes : List ℕ) (dirty : List Bool) (bytes_now : List ℕ) (dirty_now : List Bool) : Type 0 where
  pub byte : (k : ℕ) → flag dirty_now (k / page_size) ≡ false → get_or bytes_now k 0 ≡ get_or bytes k 0
  pub flag : (page : ℕ) → flag dirty_now page ≡ false → flag dirty page ≡ false
