-- That the pages of memory are pieces of the laid out bytes, and what of them a write changes.
use Rattle.std.proofs.Common.{◌≡◌, ◌≢◌, ℕ, zero, suc, ◌+◌, ◌-◌, ◌*◌, ◌/◌, ◌<◌, ◌≤◌, List, [], ◌∷◌, ◌++◌, length, take, drop, map, set, get_or, sum_by, Bool, true, false, cond, ◌&&◌, nat_lt, nat_le, min, max, refl, sym, ap, ◌∙◌, arith, inl, inr, if◌then◌else◌, add-one}
use Rattle.std.specs.Prelude.{Option, Some, None, is_some, position}
use Rattle.std.specs.Option.{option_map}
use Rattle.std.specs.Ordering.{nat_cmp, eq_by_cmp}
use Rattle.std.specs.FinMap as fin
use Rattle.std.proofs.lemmas.Bool.Decides.{nat_tests}
use Rattle.std.proofs.lemmas.Bool.{cases_lt, cases_eq}
use Rattle.std.proofs.lemmas.Cmp.{nat_cmp_total}
use Rattle.std.proofs.lemmas.List.{ext_get_or, get_or_append_left, get_or-append_right, get_or-map, get_or-set_same, get_or-set_other, get_or-take, get_or-drop, length-append, length-map, length-set, length-take, length-drop, take-map, drop-map, drop_more}
use Rattle.std.proofs.lemmas.List.Edits.{sets}
use Rattle.std.proofs.lemmas.List.Sums.{sum_by-cons}
use Rattle.om_mem.specs.Contents.{holds, region_at, overlap_of, stored}
use Rattle.om_mem.specs.Laid.{laid, place_of, IsSame}
use Rattle.om_mem.specs.Pages.{IsKept, counted, addresses_of, page_addresses, page_in, byte_in, flag}
use Rattle.om_mem.specs.declared.region.Region.{Region}
use Rattle.om_mem.proofs.LaidLemmas.{get-laid, hit, holds-true, miss}
use Rattle.om_mem.proofs.OverlapLemmas.{overlap_from, overlap_of-from, overlap_parts, position_none, shares}

-- ---- regions apart

-- no two of the regions share an address
abbrev pub ShareNone : List Region → Type 0
ShareNone [] = Unit {0}
ShareNone (r ∷ rs) = (position (shares r) rs ≡ None) × ShareNone rs

apart_from : (n : ℕ) (rs : List Region) → overlap_from n rs ≡ None → ShareNone rs
apart_from n [] none = tt
apart_from n (r ∷ rs) none = let parts = overlap_parts n r rs none in (parts.0, apart_from (n + 1) rs parts.1)

pub are_apart : (rs : List Region) → overlap_of rs ≡ None → ShareNone rs
are_apart rs none = apart_from 0 rs (sym (overlap_of-from rs) ∙ none)

holding : (low size k : ℕ) → k < size → (nat_le low (low + k) && nat_lt (low + k) (low + size)) ≡ true
holding low size k less = grind (arith, nat_tests)

-- of two regions that share no address, none holds an address of the other
unshared : (low size low2 size2 q : ℕ) → nat_lt (max low low2) (min (low + size) (low2 + size2)) ≡ false → (nat_le low2 q && nat_lt q (low2 + size2)) ≡ true → (nat_le low q && nat_lt q (low + size)) ≡ false
unshared low size low2 size2 q apart held = grind (arith, nat_tests)

-- a region that shares no address with some others holds none of theirs
unheld : (r : Region) (rs : List Region) (q : ℕ) (f : ℕ × ℕ) → position (shares r) rs ≡ None → place_of rs q ≡ Some f → holds r q ≡ false
unheld r [] q f apart at = absurd (cc)
unheld r (s ∷ rs) q f apart at =
    let none = position_none (shares r) s rs apart in
    elim (holds s q) as (λ b. holds s q ≡ b → (if b then Some (q - s.low, s.rights) else option_map (λ (found : ℕ × ℕ). (s.size + found.0, found.1)) (place_of rs q)) ≡ Some f → holds r q ≡ false) [
      | true ↦ λ is _. unshared r.low r.size s.low s.size q none.0 is
      | false ↦ λ _ found. behind (λ g is. unheld r rs q g none.1 is) (place_of rs q) refl found
    ] refl at
  where
    behind : ((g : ℕ × ℕ) → place_of rs q ≡ Some g → holds r q ≡ false) → (o : Option (ℕ × ℕ)) → place_of rs q ≡ o → option_map (λ (found : ℕ × ℕ). (s.size + found.0, found.1)) o ≡ Some f → holds r q ≡ false
    behind more None is found = absurd (cc)
    behind more (Some g) is found = more g is

-- ---- addresses and places

pub length-counted : (low n : ℕ) → length (counted low n) ≡ n
length-counted low zero = refl
length-counted low (suc n) = ap suc (length-counted (low + 1) n)

get_or-counted : (low n k : ℕ) → k < n → get_or (counted low n) k 0 ≡ low + k
get_or-counted low zero k less = absurd (omega arith)
get_or-counted low (suc n) zero less = omega arith
get_or-counted low (suc n) (suc k) less = get_or-counted (low + 1) n k (omega arith) ∙ (omega arith)

-- there are as many addresses as the regions have
pub length-addresses_of : (rs : List Region) → length (addresses_of rs) ≡ sum_by (λ (r : Region). r.size) rs
length-addresses_of [] = refl
length-addresses_of (r ∷ rs) =
    let rest = length-addresses_of rs in
    let front = length-counted r.low r.size in
    let total = sum_by-cons (λ (s : Region). s.size) r rs in
    rw (length-append) (omega arith)

-- an address that has a place is the one at that place
pub address_at-place : (rs : List Region) (q : ℕ) (f : ℕ × ℕ) → place_of rs q ≡ Some f → (get_or (addresses_of rs) f.0 0 ≡ q) × (f.0 < sum_by (λ (r : Region). r.size) rs)
address_at-place [] q f at = absurd (cc)
address_at-place (r ∷ rs) q f at =
    let total = sum_by-cons (λ (s : Region). s.size) r rs in
    let front = length-counted r.low r.size in
    elim (holds r q) as (λ b. holds r q ≡ b → (if b then Some (q - r.low, r.rights) else option_map (λ (found : ℕ × ℕ). (r.size + found.0, found.1)) (place_of rs q)) ≡ Some f → (get_or (counted r.low r.size ++ addresses_of rs) f.0 0 ≡ q) × (f.0 < sum_by (λ (s : Region). s.size) (r ∷ rs))) [
      | true ↦ λ is found.
          let inside = holds-true r.low r.size q is in
          let place : f.0 ≡ q - r.low = cc in
          rw place (get_or_append_left (counted r.low r.size) (addresses_of rs) 0 (q - r.low) (omega arith) ∙ get_or-counted r.low r.size (q - r.low) (omega arith) ∙ (omega arith), omega arith)
      | false ↦ λ _ found. behind (λ g is. address_at-place rs q g is) (place_of rs q) refl found
    ] refl at
  where
    behind : ((g : ℕ × ℕ) → place_of rs q ≡ Some g → (get_or (addresses_of rs) g.0 0 ≡ q) × (g.0 < sum_by (λ (s : Region). s.size) rs)) → (o : Option (ℕ × ℕ)) → place_of rs q ≡ o → option_map (λ (found : ℕ × ℕ). (r.size + found.0, found.1)) o ≡ Some f → (get_or (counted r.low r.size ++ addresses_of rs) f.0 0 ≡ q) × (f.0 < sum_by (λ (s : Region). s.size) (r ∷ rs))
    behind more None is found = absurd (cc)
    behind more (Some g) is found =
        let total = sum_by-cons (λ (s : Region). s.size) r rs in
        let rest = more g is in
        let place : f.0 ≡ r.size + g.0 = cc in
        let back : r.size + g.0 - r.size ≡ g.0 = omega arith in
        rw place (get_or-append_right (counted r.low r.size) (addresses_of rs) r.size (r.size + g.0) 0 (length-counted r.low r.size) (omega arith) ∙ rw back rest.0, omega arith)

-- the address at a place has that place, where regions are apart
pub place_of-address : (rs : List Region) (k : ℕ) → ShareNone rs → k < sum_by (λ (r : Region). r.size) rs → option_map (λ (f : ℕ × ℕ). f.0) (place_of rs (get_or (addresses_of rs) k 0)) ≡ Some k
place_of-address [] k apart less = absurd (omega arith)
place_of-address (r ∷ rs) k apart less =
    elim (cases_lt k r.size) as (λ _. option_map (λ (f : ℕ × ℕ). f.0) (place_of (r ∷ rs) (get_or (counted r.low r.size ++ addresses_of rs) k 0)) ≡ Some k) [
      | inl low ↦
          let address : get_or (counted r.low r.size ++ addresses_of rs) k 0 ≡ r.low + k = get_or_append_left (counted r.low r.size) (addresses_of rs) 0 k (rw (length-counted r.low r.size) low) ∙ get_or-counted r.low r.size k low in
          let inside : holds r (r.low + k) ≡ true = holding r.low r.size k low in
          let place : r.low + k - r.low ≡ k = omega arith in
          rw (address, inside, place) refl
      | inr high ↦
          let total = sum_by-cons (λ (s : Region). s.size) r rs in
          let rest = place_of-address rs (k - r.size) apart.1 (omega arith) in
          let address : get_or (counted r.low r.size ++ addresses_of rs) k 0 ≡ get_or (addresses_of rs) (k - r.size) 0 = get_or-append_right (counted r.low r.size) (addresses_of rs) r.size k 0 (length-counted r.low r.size) high in
          rw address (behind (get_or (addresses_of rs) (k - r.size) 0) (place_of rs (get_or (addresses_of rs) (k - r.size) 0)) refl rest high)
    ]
  where
    behind : (q : ℕ) (o : Option (ℕ × ℕ)) → place_of rs q ≡ o → option_map (λ (f : ℕ × ℕ). f.0) o ≡ Some (k - r.size) → r.size ≤ k → option_map (λ (f : ℕ × ℕ). f.0) (place_of (r ∷ rs) q) ≡ Some k
    behind q None is found high = absurd (cc)
    behind q (Some g) is found high =
        let outside : holds r q ≡ false = unheld r rs q g apart.0 is in
        let place : g.0 ≡ k - r.size = cc in
        let sum : r.size + (k - r.size) ≡ k = omega arith in
        rw (outside, is, place, sum) refl

-- ---- pages

-- the bytes at all addresses are the bytes that are laid out
pub bytes-laid : (rs : List Region) (bs : List ℕ) → overlap_of rs ≡ None → length bs ≡ sum_by (λ (r : Region). r.size) rs → map (byte_in (laid rs bs)) (addresses_of rs) ≡ bs
bytes-laid rs bs apart whole =
    let many = length-addresses_of rs in
    let same : length (map (byte_in (laid rs bs)) (addresses_of rs)) ≡ length bs = rw length-map (omega arith) in
    ext_get_or 0 (map (byte_in (laid rs bs)) (addresses_of rs)) bs same (λ k below.
    let within : k < length (addresses_of rs) = rw (← length-map (addresses_of rs) (byte_in (laid rs bs))) below in
    let less : k < sum_by (λ (r : Region). r.size) rs = omega arith in
    get_or-map (byte_in (laid rs bs)) (addresses_of rs) k 0 0 within ∙ at k (place_of rs (get_or (addresses_of rs) k 0)) refl (place_of-address rs k (are_apart rs apart) less))
  where
    at : (k : ℕ) (o : Option (ℕ × ℕ)) → place_of rs (get_or (addresses_of rs) k 0) ≡ o → option_map (λ (f : ℕ × ℕ). f.0) o ≡ Some k → byte_in (laid rs bs) (get_or (addresses_of rs) k 0) ≡ get_or bs k 0
    at k None is e = absurd (cc)
    at k (Some f) is e =
        let place : f.0 ≡ k = cc in
        rw (get-laid rs bs (get_or (addresses_of rs) k 0) whole, is, place) refl

-- a page is a piece of the bytes that are laid out
pub page-laid : (rs : List Region) (bs : List ℕ) (page : ℕ) → overlap_of rs ≡ None → length bs ≡ sum_by (λ (r : Region). r.size) rs → page_in (laid rs bs) page ≡ take 4096 (drop (page * 4096) bs)
unfolding page_addresses laid
page-laid rs bs page apart whole =
    piece 4096 (page * 4096) (byte_in (laid rs bs)) (addresses_of rs) bs (bytes-laid rs bs apart whole)
  where
    piece : (n at : ℕ) (f : ℕ → ℕ) (xs ys : List ℕ) → map f xs ≡ ys → map f (take n (drop at xs)) ≡ take n (drop at ys)
    piece n at f xs ys e = sym (take-map f n (drop at xs)) ∙ ap (take n) (sym (drop-map f at xs) ∙ ap (drop at) e)

-- the regions of memory are those for which the bytes are laid out
pub regions-laid : (rs : List Region) (bs : List ℕ) → (laid rs bs).regions ≡ rs
unfolding laid
regions-laid rs bs = refl

-- an address has a place where a region holds it
pub placed : (rs : List Region) (q : ℕ) → is_some {T = ℕ × ℕ} (place_of rs q) ≡ is_some (region_at rs q)
placed [] q = refl
placed (r ∷ rs) q =
    elim (holds r q) as (λ b. is_some {T = ℕ × ℕ} (if b then Some (q - r.low, r.rights) else option_map (λ (found : ℕ × ℕ). (r.size + found.0, found.1)) (place_of rs q)) ≡ is_some (if b then Some r else region_at rs q)) [
      | true ↦ refl
      | false ↦ behind r.size (place_of rs q) ∙ placed rs q
    ]
  where
    behind : (n : ℕ) (o : Option (ℕ × ℕ)) → is_some {T = ℕ × ℕ} (option_map (λ (found : ℕ × ℕ). (n + found.0, found.1)) o) ≡ is_some {T = ℕ × ℕ} o
    behind n None = refl
    behind n (Some f) = refl

-- memory has bytes exactly at the addresses of its regions
pub whole-laid : (rs : List Region) (bs : List ℕ) (q : ℕ) → length bs ≡ sum_by (λ (r : Region). r.size) rs → is_some (fin.get (laid rs bs).bytes q) ≡ is_some (region_at rs q)
whole-laid rs bs q whole = rw (get-laid rs bs q whole) (mapped (place_of rs q) ∙ placed rs q)
  where
    mapped : (o : Option (ℕ × ℕ)) → is_some (option_map (λ (f : ℕ × ℕ). get_or bs f.0 0) o) ≡ is_some {T = ℕ × ℕ} o
    mapped None = refl
    mapped (Some f) = refl

-- ---- writes

-- to write the byte at an address is to set the one at its place
pub insert-laid : (rs : List Region) (bs : List ℕ) (q b : ℕ) (f : ℕ × ℕ) → length bs ≡ sum_by (λ (r : Region). r.size) rs → place_of rs q ≡ Some f → fin.insert (laid rs bs).bytes q b ≡ (laid rs (set bs f.0 b)).bytes
insert-laid rs bs q b f whole at =
    let place = address_at-place rs q f at in
    let still : length (set bs f.0 b) ≡ sum_by (λ (r : Region). r.size) rs = length-set bs f.0 b ∙ whole in
    fin.same_map nat_cmp_total fin.nat_cmp-IsAntisymmetric (fin.insert (laid rs bs).bytes q b) (laid rs (set bs f.0 b)).bytes (λ other.
    fin.get-insert nat_cmp_total (laid rs bs).bytes q b other
    ∙ ap (cond (eq_by_cmp nat_cmp other q) (Some b)) (get-laid rs bs other whole)
    ∙ each other (place_of rs other) refl place.0 (rw whole place.1)
    ∙ sym (get-laid rs (set bs f.0 b) other still))
  where
    elsewhere : (other : ℕ) (o : Option (ℕ × ℕ)) → place_of rs other ≡ o → get_or (addresses_of rs) f.0 0 ≡ q → other ≢ q → option_map (λ (g : ℕ × ℕ). get_or bs g.0 0) o ≡ option_map (λ (g : ℕ × ℕ). get_or (set bs f.0 b) g.0 0) o
    elsewhere other None is here different = refl
    elsewhere other (Some g) is here different =
        let there = address_at-place rs other g is in
        let apart : g.0 ≢ f.0 = λ same. different (sym there.0 ∙ ap (λ k. get_or (addresses_of rs) k 0) same ∙ here) in
        ap (λ x. Some x) (sym (get_or-set_other bs f.0 g.0 b 0 apart))

    each : (other : ℕ) (o : Option (ℕ × ℕ)) → place_of rs other ≡ o → get_or (addresses_of rs) f.0 0 ≡ q → f.0 < length bs → cond (eq_by_cmp nat_cmp other q) (Some b) (option_map (λ (g : ℕ × ℕ). get_or bs g.0 0) o) ≡ option_map (λ (g : ℕ × ℕ). get_or (set bs f.0 b) g.0 0) o
    each other o is here less =
        elim (cases_eq other q) as (λ _. cond (eq_by_cmp nat_cmp other q) (Some b) (option_map (λ (g : ℕ × ℕ). get_or bs g.0 0) o) ≡ option_map (λ (g : ℕ × ℕ). get_or (set bs f.0 b) g.0 0) o) [
          | inl same ↦
              let found : o ≡ Some f = sym is ∙ ap (place_of rs) same ∙ at in
              rw found (hit other q b (Some (get_or bs f.0 0)) same ∙ ap (λ x. Some x) (sym (get_or-set_same bs f.0 b 0 less)))
          | inr different ↦ miss other q b (option_map (λ (g : ℕ × ℕ). get_or bs g.0 0) o) different ∙ elsewhere other o is here different
        ]

-- to write bytes at the addresses from a place on is to set those from this place on
pub stored-laid : (rs : List Region) (new bs : List ℕ) (k : ℕ) → ShareNone rs → length bs ≡ sum_by (λ (r : Region). r.size) rs → k + length new ≤ length bs → stored (laid rs bs).bytes (take (length new) (drop k (addresses_of rs))) new ≡ (laid rs (sets bs k new)).bytes
stored-laid rs [] bs k apart whole fits = refl
stored-laid rs (b ∷ new) bs k apart whole fits =
    let many = length-addresses_of rs in
    let still : length (set bs k b) ≡ sum_by (λ (r : Region). r.size) rs = length-set bs k b ∙ whole in
    let more : k + 1 + length new ≤ length (set bs k b) = rw (length-set bs k b) (omega arith) in
    rw (drop_more (addresses_of rs) k 0 (omega arith)) (
    ap (λ m. stored m (take (length new) (drop (k + 1) (addresses_of rs))) new) (first (place_of rs (get_or (addresses_of rs) k 0)) refl (place_of-address rs k apart (omega arith)))
    ∙ stored-laid rs new (set bs k b) (k + 1) apart still more
    ∙ ap (λ n. (laid rs (sets (set bs k b) n new)).bytes) (add-one k))
  where
    first : (o : Option (ℕ × ℕ)) → place_of rs (get_or (addresses_of rs) k 0) ≡ o → option_map (λ (f : ℕ × ℕ). f.0) o ≡ Some k → fin.insert (laid rs bs).bytes (get_or (addresses_of rs) k 0) b ≡ (laid rs (set bs k b)).bytes
    first None is e = absurd (cc)
    first (Some f) is e =
        let place : f.0 ≡ k = cc in
        insert-laid rs bs (get_or (addresses_of rs) k 0) b f whole is ∙ ap (λ n. (laid rs (set bs n b)).bytes) place

-- ---- pages that are kept

piece-same : (n at : ℕ) (xs ys : List ℕ) → length xs ≡ length ys → ((i : ℕ) → i < n → get_or xs (at + i) 0 ≡ get_or ys (at + i) 0) → take n (drop at xs) ≡ take n (drop at ys)
piece-same n at xs ys long each =
    ext_get_or 0 (take n (drop at xs)) (take n (drop at ys)) (rw (length-take n (drop at xs), length-take n (drop at ys), length-drop at xs, length-drop at ys, long) refl) (λ i below.
    let less : i < n = omega (arith, simp (length-take, length-drop) at below) in
    get_or-take n (drop at xs) i 0 less ∙ get_or-drop at xs i 0 ∙ each i less ∙ sym (get_or-take n (drop at ys) i 0 less ∙ get_or-drop at ys i 0))

-- a page is the same where each of its bytes is
pub page-same : (xs ys : List ℕ) (page : ℕ) → length xs ≡ length ys → ((k : ℕ) → k / 4096 ≡ page → get_or xs k 0 ≡ get_or ys k 0) → take 4096 (drop (page * 4096) xs) ≡ take 4096 (drop (page * 4096) ys)
page-same xs ys page long each = piece-same 4096 (page * 4096) xs ys long (λ i less. each (page * 4096 + i) (omega arith))

pub same_none : (bs : List ℕ) (ds : List Bool) → IsSame bs ds bs ds
same_none bs ds = record { byte = λ k _. refl; flag = λ page is. is }

-- a page that is flagged doesn't count as unwritten
pub set-flag : (ds : List Bool) (page other : ℕ) → flag (set ds page true) other ≡ false → (other ≢ page) × (flag ds other ≡ false)
set-flag [] page other is = absurd (cc)
set-flag (d ∷ ds) zero zero is = absurd (cc)
set-flag (d ∷ ds) zero (suc other) is = (λ same. absurd (omega arith), is)
set-flag (d ∷ ds) (suc page) zero is = (λ same. absurd (omega arith), is)
set-flag (d ∷ ds) (suc page) (suc other) is =
    let rest = set-flag ds page other is in
    (λ same. rest.0 (omega arith), rest.1)

-- after a write within a page, which is flagged
pub same_page : (bs : List ℕ) (ds : List Bool) (bs2 : List ℕ) (ds2 : List Bool) (bs3 : List ℕ) (page : ℕ) → IsSame bs ds bs2 ds2 → ((k : ℕ) → k / 4096 ≢ page → get_or bs3 k 0 ≡ get_or bs2 k 0) → IsSame bs ds bs3 (set ds2 page true)
same_page bs ds bs2 ds2 bs3 page same outside = record {
  byte = λ k clean. let parts = set-flag ds2 page (k / 4096) clean in outside k parts.0 ∙ same.byte k parts.1;
  flag = λ other clean. same.flag other (set-flag ds2 page other clean).1;
}

-- memory whose bytes are so is kept
pub kept_from-same : (rs : List Region) (bs : List ℕ) (ds : List Bool) (bs2 : List ℕ) (ds2 : List Bool) → overlap_of rs ≡ None → length bs ≡ sum_by (λ (r : Region). r.size) rs → length bs2 ≡ length bs → IsSame bs ds bs2 ds2 → IsKept (record { contents = laid rs bs; dirty = ds }) (record { contents = laid rs bs2; dirty = ds2 })
kept_from-same rs bs ds bs2 ds2 apart whole long same = record {
  page = λ page clean.
      page-laid rs bs2 page apart (long ∙ whole)
      ∙ page-same bs2 bs page long (λ k there. same.byte k (rw there clean))
      ∙ sym (page-laid rs bs page apart whole);
  flag = same.flag;
}
