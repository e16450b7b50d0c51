-- Pages: the bytes of all regions, laid end to end, in pieces of one size; and which of them were written.
use Rattle.std.specs.Prelude.{◌≡◌, ℕ, zero, suc, ◌+◌, ◌-◌, ◌*◌, ◌/◌, Bool, false, true, List, [], ◌∷◌, map, flat_map, take, drop, sum_by, replicate, get_or, unwrap_or, refl}
use Rattle.std.specs.FinMap as fin
use Rattle.std.specs.Coded.{Coded, code_by, coded×, coded_bool, coded_list}
use Rattle.om_base.specs.Limits.{page_size}
use Rattle.om_mem.specs.Contents.{Contents, contents_code, stored}
use Rattle.om_mem.specs.declared.region.Region.{Region}

-- so many numbers from one on
abbrev pub counted : ℕ → ℕ → List ℕ
counted low zero = []
counted low (suc n) = low ∷ counted (low + 1) n

-- the addresses of all regions, in their order
abbrev pub addresses_of : List Region → List ℕ
addresses_of regions = flat_map (λ r. counted r.low r.size) regions

-- the addresses of a page; the last page may have fewer than `page_size`
unfoldable pub page_addresses : List Region → ℕ → List ℕ
page_addresses regions page = take page_size (drop (page * page_size) (addresses_of regions))

-- how many pages there are
abbrev pub page_count : List Region → ℕ
page_count regions = (sum_by (λ r. r.size) regions + (page_size - 1)) / page_size

-- the byte at an address that a region holds
abbrev pub byte_in : Contents → ℕ → ℕ
byte_in memory address = unwrap_or (fin.get memory.bytes address) 0

-- the bytes of a page
abbrev pub page_in : Contents → ℕ → List ℕ
page_in memory page = map (byte_in memory) (page_addresses memory.regions page)

-- memory with these bytes for a page
abbrev pub with_page : Contents → ℕ → List ℕ → Contents
with_page memory page new = record memory { bytes = stored memory.bytes (page_addresses memory.regions page) new }

-- memory, and for each page whether it was written since the last clearing
pub record Held : Type 0 where
  pub contents : Contents
  pub dirty : List Bool

-- whether a page counts as written; of a page that isn't there nothing is claimed
abbrev pub flag : List Bool → ℕ → Bool
flag dirty page = get_or dirty page true

-- a page that doesn't count as written now didn't then, and has been as it is since then
pub record IsKept (before now : Held) : Type 0 where
  pub page : (page : ℕ) → flag now.dirty page ≡ false → page_in now.contents page ≡ page_in before.contents page
  pub flag : (page : ℕ) → flag now.dirty page ≡ false → flag before.dirty page ≡ false

-- no page counts as written
abbrev pub cleared : Held → Held
cleared held = record held { dirty = replicate (page_count held.contents.regions) false }

abbrev pub held_code : Coded Held
held_code =
    code_by (Contents × List Bool) (coded× contents_code (coded_list coded_bool)) (λ h. (h.contents, h.dirty)) (λ p. record { contents = p.0; dirty = p.1 }) (λ _. refl)
