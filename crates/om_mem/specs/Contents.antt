-- Memory: regions of addresses, and a byte for each address of a region.
use Rattle.std.specs.Prelude.{◌≡◌, ℕ, zero, suc, ◌+◌, ◌-◌, ◌^◌, ◌%◌, ◌/◌, Bool, false, not, ◌&&◌, nat_eq, nat_lt, nat_le, bit_and, if◌then◌else◌, List, [], ◌∷◌, ◌++◌, length, get_or, map, flat_map, find, replicate, Option, Some, None, is_some, refl}
use Rattle.std.specs.List.{list_all}
use Rattle.std.specs.Option.{option_map, option_map_or, option_and_then}
use Rattle.std.specs.Ordering.{nat_cmp}
use Rattle.std.specs.FinMap as fin
use Rattle.std.specs.Coded.{Coded, code_by, coded×, coded_ℕ, coded_list}
use Rattle.om_base.specs.Numbers.{le}
use Rattle.om_base.specs.Spans as spans
use Rattle.om_base.specs.declared.span.Span.{Span}
use Rattle.om_mem.specs.Rights.{pf_w, pf_x}
use Rattle.om_mem.specs.declared.region.Region.{Region}

-- what memory is: its regions, and the bytes at their addresses
pub record Contents : Type 0 where
  pub regions : List Region
  pub bytes : fin.FinMap nat_cmp ℕ

-- ---- regions

-- a region holds an address
abbrev pub holds : Region → ℕ → Bool
holds r address = nat_le r.low address && nat_lt address (r.low + r.size)

-- the addresses of a region
abbrev pub span_of : Region → Span
span_of r = record { lo = r.low; hi = r.low + r.size }

-- the least pair of places whose regions share an address, or none
abbrev pub overlap_of : List Region → Option (ℕ × ℕ)
overlap_of regions = spans.overlap_of (map span_of regions)

-- the region that holds an address, if one does
abbrev pub region_at : List Region → ℕ → Option Region
region_at regions address = find (λ r. holds r address) regions

-- a region holds the address and gives these rights to it
abbrev pub may_at : List Region → (address rights : ℕ) → Bool
may_at regions address rights =
    option_map_or (λ r. nat_eq (bit_and r.rights rights) rights) (region_at regions address) false

-- a region by its place in the list
abbrev pub region_in : List Region → ℕ → Region
region_in regions place = get_or regions place (record { low = 0; size = 0; rights = 0 })

-- ---- addresses

-- so many addresses from one on; after the greatest address comes address 0
abbrev pub addresses_from : ℕ → ℕ → List ℕ
addresses_from address zero = []
addresses_from address (suc n) = address ∷ addresses_from ((address + 1) % 2 ^ 32) n

-- a region holds each of so many addresses from one on
unfoldable pub are_mapped : List Region → (address count : ℕ) → Bool
are_mapped regions address count = list_all (λ a. is_some (region_at regions a)) (addresses_from address count)

-- ---- reading

-- the bytes at some addresses, if a region holds each of them
abbrev pub bytes_at : Contents → List ℕ → Option (List ℕ)
bytes_at memory [] = Some []
bytes_at memory (a ∷ more) =
    option_and_then (λ b. option_map (λ bs. b ∷ bs) (bytes_at memory more)) (fin.get memory.bytes a)

-- the number of so many bytes from an address on, if a region holds each of them
unfoldable pub loaded : Contents → (address count : ℕ) → Option ℕ
loaded memory address count = option_map le (bytes_at memory (addresses_from address count))

-- the word of four bytes from an address on, if each of them may be fetched
unfoldable pub fetched : Contents → ℕ → Option ℕ
fetched memory address =
    if list_all (λ a. may_at memory.regions a pf_x) (addresses_from address 4) then loaded memory address 4 else None

-- ---- writing

-- the first of so many addresses from one on that may not be written
unfoldable pub outside : List Region → (address count : ℕ) → Option ℕ
outside regions address count = find (λ a. not (may_at regions a pf_w)) (addresses_from address count)

-- a byte each at some addresses
abbrev pub stored : fin.FinMap nat_cmp ℕ → List ℕ → List ℕ → fin.FinMap nat_cmp ℕ
stored bytes [] new = bytes
stored bytes (a ∷ more) [] = bytes
stored bytes (a ∷ more) (b ∷ new) = stored (fin.insert bytes a b) more new

-- memory with these bytes from an address on
unfoldable pub after_write : Contents → ℕ → List ℕ → Contents
after_write memory address new =
    record memory { bytes = stored memory.bytes (addresses_from address (length new)) new }

-- the low bytes of a number, the lowest first
abbrev pub low_bytes : (count value : ℕ) → List ℕ
low_bytes zero value = []
low_bytes (suc n) value = value % 256 ∷ low_bytes n (value / 256)

-- ---- what memory begins with

-- an address each, from one on
abbrev pub numbered : ℕ → List ℕ → List (ℕ × ℕ)
numbered address [] = []
numbered address (b ∷ bs) = (address, b) ∷ numbered (address + 1) bs

-- a region with its bytes, as many as its size
pub record Filled : Type 0 where
  pub region : Region
  pub bytes : List ℕ

-- memory of some regions with their bytes
unfoldable pub contents_of : List Filled → Contents
contents_of filled = record {
  regions = map (λ f. f.region) filled;
  bytes = fin.from_entries (flat_map (λ f. numbered f.region.low f.bytes) filled);
}

-- a region of zeros
abbrev pub zeros : Region → Filled
zeros r = record { region = r; bytes = replicate r.size 0 }

-- a region with its first bytes, and zeros behind them
abbrev pub padded : Filled → Filled
padded f = record { region = f.region; bytes = f.bytes ++ replicate (f.region.size - length f.bytes) 0 }

-- memory of some regions of zeros
abbrev pub all_zeros : List Region → Contents
all_zeros regions = contents_of (map zeros regions)

-- memory has a byte at an address exactly where a region holds it
abbrev pub IsWhole : Contents → Type 0
IsWhole memory = (address : ℕ) → is_some (fin.get memory.bytes address) ≡ is_some (region_at memory.regions address)

-- ---- codes

abbrev pub region_code : Coded Region
region_code =
    code_by (ℕ × (ℕ × ℕ)) (coded× coded_ℕ (coded× coded_ℕ coded_ℕ)) (λ r. (r.low, (r.size, r.rights))) (λ p. record { low = p.0; size = p.1.0; rights = p.1.1 }) (λ _. refl)

abbrev pub contents_code : Coded Contents
contents_code =
    code_by (List Region × fin.FinMap nat_cmp ℕ) (coded× (coded_list region_code) (fin.code coded_ℕ coded_ℕ)) (λ c. (c.regions, c.bytes)) (λ p. record { regions = p.0; bytes = p.1 }) (λ _. refl)
