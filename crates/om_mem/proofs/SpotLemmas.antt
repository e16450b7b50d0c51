-- What is known of the addresses of one region.
use Rattle.std.proofs.Common.{◌≡◌, ◌≢◌, ℕ, zero, suc, ◌+◌, ◌-◌, ◌*◌, ◌%◌, ◌^◌, ◌<◌, ◌≤◌, List, [], ◌∷◌, length, take, drop, get_or, sum_by, Bool, true, false, cond, not, ◌&&◌, nat_eq, nat_lt, nat_le, max, min, refl, sym, ap, subst, ◌∙◌, arith, zero-add, add-one, drop-cons, if◌then◌else◌}
use Rattle.std.specs.Prelude.{Option, Some, None, find, bit_and}
use Rattle.std.specs.Option.{option_map, option_map_or, option_and_then}
use Rattle.std.specs.List.{list_all, position, prefix_len}
use Rattle.std.specs.FinMap as fin
use Rattle.std.proofs.lemmas.Bool.Decides.{nat_tests}
use Rattle.std.proofs.lemmas.List.Sums.{sum_by-cons, sum_by-drop_more, sum_by-take-drop}
use Rattle.std.proofs.lemmas.List.Elements.{All-get_or}
use Rattle.om_base.specs.Numbers.{le}
use Rattle.om_mem.specs.Contents.{Contents, loaded, fetched, holds, may_at, addresses_from, bytes_at}
use Rattle.om_mem.specs.Laid.{laid, place_of, AreMapped, IsSpot}
use Rattle.om_mem.specs.declared.region.Region.{Region}
use Rattle.om_mem.specs.declared.spot.Spot.{Spot}
use Rattle.om_mem.proofs.LaidLemmas.{get-laid}
use Rattle.om_mem.proofs.OverlapLemmas.{overlap_from, overlap_of-from, overlap_parts, shares}
use Rattle.om_mem.proofs.PageLemmas.{regions-laid}

-- ---- regions apart

-- of two regions with no address in common the one holds no address of the other
apart-holds : (a m b n k : ℕ) → nat_lt (max a b) (min (a + m) (b + n)) ≡ false → k < n → (nat_le a (b + k) && nat_lt (b + k) (a + m)) ≡ false
apart-holds a m b n k h less = grind (arith, nat_tests)

-- where the first that fails is past the end all pass
all-pass : (p : Region → Bool) (rs : List Region) (i : ℕ) (d : Region) → length rs ≤ prefix_len p rs → i < length rs → p (get_or rs i d) ≡ true
all-pass p [] i d long below = absurd (omega arith)
all-pass p (r ∷ rs) zero d long below =
    elim (p r) as (λ b. suc (length rs) ≤ cond b (1 + prefix_len p rs) 0 → b ≡ true) [
      | true ↦ λ _. refl
      | false ↦ λ l. absurd (omega arith)
    ] long
all-pass p (r ∷ rs) (suc i) d long below =
    all-pass p rs i d (elim (p r) as (λ b. suc (length rs) ≤ cond b (1 + prefix_len p rs) 0 → length rs ≤ prefix_len p rs) [
      | true ↦ λ l. omega arith
      | false ↦ λ l. absurd (omega arith)
    ] long) (omega arith)

none-passes : (p : Region → Bool) (rs : List Region) (i : ℕ) (d : Region) → position p rs ≡ None → i < length rs → p (get_or rs i d) ≡ false
none-passes p rs i d none below =
    let long : length rs ≤ prefix_len (λ r. not (p r)) rs = grind (arith, nat_tests) in
    let passes = all-pass (λ r. not (p r)) rs i d long below in
    elim (p (get_or rs i d)) as (λ b. not b ≡ true → b ≡ false) [
      | true ↦ λ e. absurd (cc)
      | false ↦ λ e. refl
    ] passes

-- the place of a region's address
pub place_of-region : (n : ℕ) (rs : List Region) (i k : ℕ) (d : Region) → overlap_from n rs ≡ None → i < length rs → k < (get_or rs i d).size → place_of rs ((get_or rs i d).low + k) ≡ Some (sum_by (λ r. r.size) (take i rs) + k, (get_or rs i d).rights)
place_of-region n [] i k d apart below less = absurd (omega arith)
place_of-region n (r ∷ rs) zero k d apart below less =
    let inside : holds r (r.low + k) ≡ true = grind (arith, nat_tests) in
    let back : (r.low + k) - r.low ≡ k = omega arith in
    rw (inside, back, zero-add) refl
place_of-region n (r ∷ rs) (suc i) k d apart below less =
    let parts = overlap_parts n r rs apart in
    let s = get_or rs i d in
    let unshared = none-passes (shares r) rs i d parts.0 (omega arith) in
    let outside : holds r (s.low + k) ≡ false = apart-holds r.low r.size s.low s.size k unshared less in
    let rest = place_of-region (n + 1) rs i k d parts.1 (omega arith) less in
    let sum = sum_by-cons (λ (x : Region). x.size) r (take i rs) in
    let more : r.size + (sum_by (λ x. x.size) (take i rs) + k) ≡ sum_by (λ x. x.size) (r ∷ take i rs) + k = omega arith in
    rw (outside, rest) (ap (λ x. Some (x, s.rights)) more)

-- a region with the place of its bytes
pub region-spot : (rs : List Region) (i at : ℕ) (d : Region) → AreMapped rs → i < length rs → at + sum_by (λ r. r.size) (drop i rs) ≡ sum_by (λ r. r.size) rs → IsSpot rs (record { low = (get_or rs i d).low; size = (get_or rs i d).size; at = at; rights = (get_or rs i d).rights })
region-spot rs i at d mapped below place =
    let split = sum_by-take-drop (λ (r : Region). r.size) rs i in
    let more = sum_by-drop_more (λ (r : Region). r.size) rs i d below in
    let start : sum_by (λ (r : Region). r.size) (take i rs) ≡ at = omega arith in
    record {
      place = λ k less. rw (← start) (place_of-region 0 rs i k d (sym (overlap_of-from rs) ∙ mapped.apart) below less);
      ends = All-get_or (λ (r : Region). r.low + r.size ≤ 2 ^ 32) rs i d below mapped.ends;
      within = omega arith;
    }

-- ---- addresses of a spot

-- after an address that isn't the greatest comes the next number
pub next-addresses : (a n : ℕ) → a + n < 2 ^ 32 → addresses_from ((a + 1) % 2 ^ 32) n ≡ addresses_from (a + 1) n
next-addresses a zero h = refl
next-addresses a (suc n) h = ap (λ x. addresses_from x (suc n)) (omega arith)

-- the rights that a place gives
abbrev pub gives : ℕ → Option (ℕ × ℕ) → Bool
gives right found = option_map_or (λ (f : ℕ × ℕ). nat_eq (bit_and f.1 right) right) found false

-- the right to an address is that of its place
pub may_at-place : (rs : List Region) (q right : ℕ) → may_at rs q right ≡ gives right (place_of rs q)
may_at-place [] q right = refl
may_at-place (r ∷ rs) q right =
    elim (holds r q) as (λ b. option_map_or (λ s. nat_eq (bit_and s.rights right) right) (if b then Some r else find (λ s. holds s q) rs) false ≡ gives right (if b then Some (q - r.low, r.rights) else option_map (λ (found : ℕ × ℕ). (r.size + found.0, found.1)) (place_of rs q))) [
      | true ↦ refl
      | false ↦ may_at-place rs q right ∙ same_rights r.size (place_of rs q)
    ]
  where
    same_rights : (n : ℕ) (found : Option (ℕ × ℕ)) → gives right found ≡ gives right (option_map (λ (f : ℕ × ℕ). (n + f.0, f.1)) found)
    same_rights n None = refl
    same_rights n (Some f) = refl

module _ (rs : List Region) (spot : Spot) (is : IsSpot rs spot) where
  -- the right to an address of the spot is the spot's
  pub may_at-spot : (k right : ℕ) → k < spot.size → may_at rs (spot.low + k) right ≡ nat_eq (bit_and spot.rights right) right
  may_at-spot k right less = rw (may_at-place rs (spot.low + k) right, is.place k less) refl

  pub may_at-spot_at : (q right : ℕ) → spot.low ≤ q → q < spot.low + spot.size → may_at rs q right ≡ nat_eq (bit_and spot.rights right) right
  may_at-spot_at q right low high =
      let same : spot.low + (q - spot.low) ≡ q = omega arith in
      subst (λ x. may_at rs x right ≡ nat_eq (bit_and spot.rights right) right) same (may_at-spot (q - spot.low) right (omega arith))

  -- each of some addresses of the spot gives the rights that the spot gives
  pub all_may-spot : (right n k : ℕ) → k + n ≤ spot.size → nat_eq (bit_and spot.rights right) right ≡ true → list_all (λ a. may_at rs a right) (addresses_from (spot.low + k) n) ≡ true
  all_may-spot right zero k fits gives_it = refl
  all_may-spot right (suc n) k fits gives_it =
      let ends = is.ends in
      let next : addresses_from ((spot.low + k + 1) % 2 ^ 32) n ≡ addresses_from (spot.low + (k + 1)) n = next-addresses (spot.low + k) n (omega arith) ∙ ap (λ x. addresses_from x n) (omega arith) in
      rw (may_at-spot k right (omega arith), gives_it, next) (all_may-spot right n (k + 1) (omega arith) gives_it)

  pub all_may-spot_at : (right n q : ℕ) → spot.low ≤ q → q + n ≤ spot.low + spot.size → nat_eq (bit_and spot.rights right) right ≡ true → list_all (λ a. may_at rs a right) (addresses_from q n) ≡ true
  all_may-spot_at right n q low high gives_it =
      let same : spot.low + (q - spot.low) ≡ q = omega arith in
      subst (λ x. list_all (λ a. may_at rs a right) (addresses_from x n) ≡ true) same (all_may-spot right n (q - spot.low) (omega arith) gives_it)

  -- of the spot's addresses the first that may not be written, where the spot gives the right to write
  pub none_outside-spot : (right n k : ℕ) → k + n ≤ spot.size → nat_eq (bit_and spot.rights right) right ≡ true → find (λ a. not (may_at rs a right)) (addresses_from (spot.low + k) n) ≡ None
  none_outside-spot right zero k fits gives_it = refl
  none_outside-spot right (suc n) k fits gives_it =
      let ends = is.ends in
      let next : addresses_from ((spot.low + k + 1) % 2 ^ 32) n ≡ addresses_from (spot.low + (k + 1)) n = next-addresses (spot.low + k) n (omega arith) ∙ ap (λ x. addresses_from x n) (omega arith) in
      rw (may_at-spot k right (omega arith), gives_it, next) (none_outside-spot right n (k + 1) (omega arith) gives_it)

  module _ (bs : List ℕ) (whole : length bs ≡ sum_by (λ r. r.size) rs) where
    -- the byte at an address of the spot
    pub get-spot : (k : ℕ) → k < spot.size → fin.get (laid rs bs).bytes (spot.low + k) ≡ Some (get_or bs (spot.at + k) 0)
    get-spot k less = rw (get-laid rs bs (spot.low + k) whole, is.place k less) refl

    -- the bytes at some addresses of the spot lie end to end
    pub bytes_at-spot : (n k : ℕ) → k + n ≤ spot.size → bytes_at (laid rs bs) (addresses_from (spot.low + k) n) ≡ Some (take n (drop (spot.at + k) bs))
    bytes_at-spot zero k fits = refl
    bytes_at-spot (suc n) k fits =
        let ends = is.ends in
        let within = is.within in
        let next : addresses_from ((spot.low + k + 1) % 2 ^ 32) n ≡ addresses_from (spot.low + (k + 1)) n = next-addresses (spot.low + k) n (omega arith) ∙ ap (λ x. addresses_from x n) (omega arith) in
        let more = bytes_at-spot n (k + 1) (omega arith) in
        let front : drop (spot.at + k) bs ≡ get_or bs (spot.at + k) 0 ∷ drop (suc (spot.at + k)) bs = drop-cons bs (spot.at + k) 0 (omega arith) in
        let after : spot.at + (k + 1) ≡ suc (spot.at + k) = omega arith in
        rw (get-spot k (omega arith), next, more, front, after) refl

    pub get-spot_at : (q : ℕ) → spot.low ≤ q → q < spot.low + spot.size → fin.get (laid rs bs).bytes q ≡ Some (get_or bs (spot.at + (q - spot.low)) 0)
    get-spot_at q low high =
        let same : spot.low + (q - spot.low) ≡ q = omega arith in
        subst (λ x. fin.get (laid rs bs).bytes x ≡ Some (get_or bs (spot.at + (q - spot.low)) 0)) same (get-spot (q - spot.low) (omega arith))

    at_address : (q n : ℕ) → spot.low ≤ q → q + n ≤ spot.low + spot.size → bytes_at (laid rs bs) (addresses_from q n) ≡ Some (take n (drop (spot.at + (q - spot.low)) bs))
    at_address q n low high =
        let same : spot.low + (q - spot.low) ≡ q = omega arith in
        subst (λ x. bytes_at (laid rs bs) (addresses_from x n) ≡ Some (take n (drop (spot.at + (q - spot.low)) bs))) same (bytes_at-spot n (q - spot.low) (omega arith))

    -- the number at an address of the spot
    pub loaded-spot : (q n : ℕ) → spot.low ≤ q → q + n ≤ spot.low + spot.size → loaded (laid rs bs) q n ≡ Some (le (take n (drop (spot.at + (q - spot.low)) bs)))
    unfolding loaded
    loaded-spot q n low high = rw (at_address q n low high) refl

-- ---- numbers byte by byte

-- no bytes are the number 0
pub loaded-zero : (m : Contents) (q : ℕ) → loaded m q 0 ≡ Some 0
unfolding loaded le
loaded-zero m q = refl

loaded-suc : (m : Contents) (q n : ℕ) → loaded m q (suc n) ≡ option_and_then (λ b. option_map (λ v. b + 256 * v) (loaded m ((q + 1) % 2 ^ 32) n)) (fin.get m.bytes q)
unfolding loaded le
loaded-suc m q n =
    elim (fin.get m.bytes q) as (λ o. option_map le (option_and_then (λ b. option_map (λ bs. b ∷ bs) (bytes_at m (addresses_from ((q + 1) % 2 ^ 32) n))) o) ≡ option_and_then (λ b. option_map (λ v. b + 256 * v) (option_map le (bytes_at m (addresses_from ((q + 1) % 2 ^ 32) n)))) o) [
      | None ↦ refl
      | Some b ↦ inner b (bytes_at m (addresses_from ((q + 1) % 2 ^ 32) n))
    ]
  where
    inner : (b : ℕ) (o : Option (List ℕ)) → option_map le (option_map (λ bs. b ∷ bs) o) ≡ option_map (λ v. b + 256 * v) (option_map le o)
    inner b None = refl
    inner b (Some bs) = refl

-- a number is its first byte and the number of the others
pub loaded-more : (m : Contents) (q n : ℕ) → n ≢ 0 → loaded m q n ≡ option_and_then (λ b. option_map (λ v. b + 256 * v) (loaded m ((q + 1) % 2 ^ 32) (n - 1))) (fin.get m.bytes q)
loaded-more m q zero some = absurd (some refl)
loaded-more m q (suc n) some = let less : suc n - 1 ≡ n = omega arith in rw less (loaded-suc m q n)

-- a byte more
pub byte-more : (b v n : ℕ) → n ≤ 4 → n ≢ 0 → b < 256 → v < 2 ^ (8 * (n - 1)) → b + 256 * v < 2 ^ (8 * n)
byte-more b v zero few some byte less = absurd (some refl)
byte-more b v (suc zero) few some byte less = omega arith
byte-more b v (suc (suc zero)) few some byte less = omega arith
byte-more b v (suc (suc (suc zero))) few some byte less = omega arith
byte-more b v (suc (suc (suc (suc zero)))) few some byte less = omega arith
byte-more b v (suc (suc (suc (suc (suc n))))) few some byte less = absurd (omega arith)

pub four-bytes : (n : ℕ) → n ≤ 4 → 2 ^ (8 * n) ≤ 4294967296
four-bytes zero few = omega arith
four-bytes (suc zero) few = omega arith
four-bytes (suc (suc zero)) few = omega arith
four-bytes (suc (suc (suc zero))) few = omega arith
four-bytes (suc (suc (suc (suc zero)))) few = omega arith
four-bytes (suc (suc (suc (suc (suc n))))) few = absurd (omega arith)

-- the first of some bytes from a place
pub taken : (bs : List ℕ) (at n : ℕ) → at < length bs → take (suc n) (drop at bs) ≡ get_or bs at 0 ∷ take n (drop (at + 1) bs)
taken bs at n below = rw (add-one, drop-cons bs at 0 below) refl

pub two_taken : (bs : List ℕ) (at : ℕ) → at + 2 ≤ length bs → take 2 (drop at bs) ≡ get_or bs at 0 ∷ get_or bs (at + 1) 0 ∷ []
two_taken bs at fits = rw (taken bs at 1 (omega arith), taken bs (at + 1) 0 (omega arith)) refl

pub four_taken : (bs : List ℕ) (at : ℕ) → at + 4 ≤ length bs → take 4 (drop at bs) ≡ get_or bs at 0 ∷ get_or bs (at + 1) 0 ∷ get_or bs (at + 2) 0 ∷ get_or bs (at + 3) 0 ∷ []
four_taken bs at fits =
    let two : at + 1 + 1 ≡ at + 2 = omega arith in
    let three : at + 2 + 1 ≡ at + 3 = omega arith in
    rw (taken bs at 3 (omega arith), taken bs (at + 1) 2 (omega arith), two, taken bs (at + 2) 1 (omega arith), three, taken bs (at + 3) 0 (omega arith)) refl

pub differ : (x y : ℕ) → x ≢ y → nat_eq x y ≡ false
differ x y ne = grind (arith, nat_tests)

-- ---- words

pub fetched-none : (m : Contents) (q : ℕ) → list_all (λ a. may_at m.regions a 1) (addresses_from q 4) ≡ false → fetched m q ≡ None
unfolding fetched
fetched-none m q e = rw e refl

pub fetched-loaded : (m : Contents) (q : ℕ) → list_all (λ a. may_at m.regions a 1) (addresses_from q 4) ≡ true → fetched m q ≡ loaded m q 4
unfolding fetched
fetched-loaded m q e = rw e refl

-- nothing is fetched where the first byte may not be
pub fetched-refused : (rs : List Region) (bs : List ℕ) (q : ℕ) → may_at rs q 1 ≡ false → fetched (laid rs bs) q ≡ None
fetched-refused rs bs q e = fetched-none (laid rs bs) q (rw (regions-laid rs bs, e) refl)
