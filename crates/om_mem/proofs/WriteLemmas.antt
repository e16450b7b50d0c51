-- That a write into the laid out bytes is a write into memory, and marks the pages that it changes.
use Rattle.std.proofs.Common.{◌≡◌, ◌≢◌, ◌⊎◌, ℕ, zero, suc, ◌+◌, ◌-◌, ◌/◌, ◌%◌, ◌^◌, ◌<◌, ◌≤◌, List, [], ◌∷◌, length, drop, set, get_or, sum_by, Bool, true, false, cond, not, nat_eq, refl, sym, ap, subst, ◌∙◌, arith, inl, inr, if◌then◌else◌}
use Rattle.std.specs.Prelude.{Some, None, find, bit_and}
use Rattle.std.specs.Ordering.{nat_cmp}
use Rattle.std.specs.FinMap as fin
use Rattle.std.proofs.lemmas.List.{get_or-set_other, length-set}
use Rattle.om_mem.specs.Contents.{Contents, addresses_from, after_write, low_bytes, may_at, outside, region_in, stored}
use Rattle.om_mem.specs.Laid.{laid, AreMapped, IsLaid, IsSame, IsSpot, overlaid}
use Rattle.om_mem.specs.declared.region.Region.{Region}
use Rattle.om_mem.specs.declared.spot.Spot.{Spot}
use Rattle.om_mem.proofs.PageLemmas.{insert-laid, regions-laid}
use Rattle.om_mem.proofs.SpotLemmas.{differ, may_at-spot_at, next-addresses, none_outside-spot, region-spot}

-- ---- the first address that may not be written

outside-suc : (rs : List Region) (q n : ℕ) → outside rs q (suc n) ≡ (if may_at rs q 2 then outside rs ((q + 1) % 2 ^ 32) n else Some q)
unfolding outside
outside-suc rs q n =
    elim (may_at rs q 2) as (λ b. cond (not b) (Some q) (find (λ a. not (may_at rs a 2)) (addresses_from ((q + 1) % 2 ^ 32) n)) ≡ (if b then find (λ a. not (may_at rs a 2)) (addresses_from ((q + 1) % 2 ^ 32) n) else Some q)) [
      | true ↦ refl
      | false ↦ refl
    ]

-- of some addresses the first that may not be written is the first of all, or one of the others
pub outside-more : (rs : List Region) (q n : ℕ) → 0 < n → outside rs q n ≡ (if may_at rs q 2 then outside rs ((q + 1) % 2 ^ 32) (n - 1) else Some q)
outside-more rs q zero some = absurd (omega arith)
outside-more rs q (suc n) some = let less : suc n - 1 ≡ n = omega arith in rw less (outside-suc rs q n)

-- ---- bytes one by one

-- ---- bytes from a place on

pub length-overlaid : (bs : List ℕ) (at : ℕ) (new : List ℕ) → length (overlaid bs at new) ≡ length bs
length-overlaid bs at [] = refl
length-overlaid bs at (b ∷ new) = length-overlaid (set bs at b) (at + 1) new ∙ length-set bs at b

-- the bytes elsewhere stay
pub get_or-overlaid : (bs : List ℕ) (at : ℕ) (new : List ℕ) (k : ℕ) → (k < at) ⊎ (at + length new ≤ k) → get_or (overlaid bs at new) k 0 ≡ get_or bs k 0
get_or-overlaid bs at [] k away = refl
get_or-overlaid bs at (b ∷ new) k away =
    let off : k ≢ at = elim away as (λ _. k ≢ at) [ inl low ↦ omega arith | inr high ↦ omega arith ] in
    let further : (k < at + 1) ⊎ (at + 1 + length new ≤ k) = elim away as (λ _. (k < at + 1) ⊎ (at + 1 + length new ≤ k)) [ inl low ↦ inl (omega arith) | inr high ↦ inr (omega arith) ] in
    get_or-overlaid (set bs at b) (at + 1) new k further ∙ get_or-set_other bs at k b 0 off

-- what is the same after one call and after another is so after both
pub same_then : (bs bs2 bs3 : List ℕ) (ds ds2 ds3 : List Bool) → IsSame bs ds bs2 ds2 → IsSame bs2 ds2 bs3 ds3 → IsSame bs ds bs3 ds3
same_then bs bs2 bs3 ds ds2 ds3 first second = record {
  byte = λ k clean. second.byte k clean ∙ first.byte k (second.flag (k / 4096) clean);
  flag = λ page clean. first.flag page (second.flag page clean);
}

-- ---- the low bytes of a number

pub length-low_bytes : (count value : ℕ) → length (low_bytes count value) ≡ count
length-low_bytes zero value = refl
length-low_bytes (suc n) value = ap suc (length-low_bytes n (value / 256))

-- ---- into memory

-- bytes that are stored make the memory after a write
pub after-laid : (rs : List Region) (bs bs2 : List ℕ) (q : ℕ) (new : List ℕ) → (laid rs bs2).bytes ≡ stored (laid rs bs).bytes (addresses_from q (length new)) new → laid rs bs2 ≡ after_write (laid rs bs) q new
unfolding laid after_write
after-laid rs bs bs2 q new e = ap (λ (x : fin.FinMap nat_cmp ℕ). let m : Contents = record { regions = rs; bytes = x } in m) e

-- memory after a write of a number, or as it was where it may not be written
pub number-laid : (rs : List Region) (bs bs2 : List ℕ) (q count value : ℕ) (result : Bool) → (result ≡ true → (laid rs bs2).bytes ≡ stored (laid rs bs).bytes (addresses_from q count) (low_bytes count value)) → (result ≡ false → bs2 ≡ bs) → laid rs bs2 ≡ (if result then after_write (laid rs bs) q (low_bytes count value) else laid rs bs)
number-laid rs bs bs2 q count value true stored_it kept_it =
    after-laid rs bs bs2 q (low_bytes count value) (rw (length-low_bytes count value) (stored_it refl))
number-laid rs bs bs2 q count value false stored_it kept_it = ap (laid rs) (kept_it refl)

module _ (rs : List Region) (spot : Spot) (is : IsSpot rs spot) where
  stored-place : (new bs : List ℕ) (k : ℕ) → length bs ≡ sum_by (λ r. r.size) rs → k + length new ≤ spot.size → stored (laid rs bs).bytes (addresses_from (spot.low + k) (length new)) new ≡ (laid rs (overlaid bs (spot.at + k) new)).bytes
  stored-place [] bs k whole fits = refl
  stored-place (b ∷ new) bs k whole fits =
      let ends = is.ends in
      let first : fin.insert (laid rs bs).bytes (spot.low + k) b ≡ (laid rs (set bs (spot.at + k) b)).bytes = insert-laid rs bs (spot.low + k) b (spot.at + k, spot.rights) whole (is.place k (omega arith)) in
      let next : addresses_from ((spot.low + k + 1) % 2 ^ 32) (length new) ≡ addresses_from (spot.low + (k + 1)) (length new) = next-addresses (spot.low + k) (length new) (omega arith) ∙ ap (λ x. addresses_from x (length new)) (omega arith) in
      let at : spot.at + (k + 1) ≡ spot.at + k + 1 = omega arith in
      let more = stored-place new (set bs (spot.at + k) b) (k + 1) (length-set bs (spot.at + k) b ∙ whole) (omega arith) in
      ap (λ m. stored m (addresses_from ((spot.low + k + 1) % 2 ^ 32) (length new)) new) first
      ∙ ap (λ addresses. stored (laid rs (set bs (spot.at + k) b)).bytes addresses new) next
      ∙ more
      ∙ ap (λ n. (laid rs (overlaid (set bs (spot.at + k) b) n new)).bytes) at

  -- bytes written to addresses of a spot lie end to end
  pub stored-spot : (new bs : List ℕ) (q : ℕ) → length bs ≡ sum_by (λ r. r.size) rs → spot.low ≤ q → q + length new ≤ spot.low + spot.size → stored (laid rs bs).bytes (addresses_from q (length new)) new ≡ (laid rs (overlaid bs (spot.at + (q - spot.low)) new)).bytes
  stored-spot new bs q whole low high =
      let same : spot.low + (q - spot.low) ≡ q = omega arith in
      subst (λ x. stored (laid rs bs).bytes (addresses_from x (length new)) new ≡ (laid rs (overlaid bs (spot.at + (q - spot.low)) new)).bytes) same (stored-place new bs (q - spot.low) whole (omega arith))

  -- a number written to addresses of a spot
  pub stored-number : (bs : List ℕ) (q count value : ℕ) → length bs ≡ sum_by (λ r. r.size) rs → spot.low ≤ q → q + count ≤ spot.low + spot.size → (laid rs (overlaid bs (spot.at + (q - spot.low)) (low_bytes count value))).bytes ≡ stored (laid rs bs).bytes (addresses_from q count) (low_bytes count value)
  stored-number bs q count value whole low high =
      let long = length-low_bytes count value in
      let all = stored-spot (low_bytes count value) bs q whole low (omega arith) in
      sym (rw long at all)

  -- each of some addresses of a spot may be written, where the spot gives the right
  pub outside-spot : (q n : ℕ) → spot.low ≤ q → q + n ≤ spot.low + spot.size → bit_and spot.rights 2 ≡ 2 → outside rs q n ≡ None
  unfolding outside
  outside-spot q n low high right =
      let same : spot.low + (q - spot.low) ≡ q = omega arith in
      let gives : nat_eq (bit_and spot.rights 2) 2 ≡ true = rw right refl in
      subst (λ x. find (λ a. not (may_at rs a 2)) (addresses_from x n) ≡ None) same (none_outside-spot rs spot is 2 n (q - spot.low) (omega arith) gives)

  -- the first address may not be written where the spot doesn't give the right
  pub outside-refused : (q n : ℕ) → 0 < n → spot.low ≤ q → q + n ≤ spot.low + spot.size → bit_and spot.rights 2 ≢ 2 → outside rs q n ≡ Some q
  outside-refused q n some low high wrong =
      let refused = may_at-spot_at rs spot is q 2 low (omega arith) ∙ differ (bit_and spot.rights 2) 2 wrong in
      outside-more rs q n some ∙ rw refused refl

-- the first bytes of a region
pub fill-laid : (rs : List Region) (bs : List ℕ) (place start : ℕ) (new : List ℕ) → AreMapped rs → length bs ≡ sum_by (λ r. r.size) rs → place < length rs → start + sum_by (λ r. r.size) (drop place rs) ≡ sum_by (λ r. r.size) rs → length new ≤ (region_in rs place).size → laid rs (overlaid bs start new) ≡ after_write (laid rs bs) (region_in (laid rs bs).regions place).low new
fill-laid rs bs place start new mapped whole below at fits =
    let r = region_in rs place in
    let is = region-spot rs place start (record { low = 0; size = 0; rights = 0 }) mapped below at in
    let here : start + (r.low - r.low) ≡ start = omega arith in
    after-laid rs bs (overlaid bs start new) r.low new (sym (rw here at (stored-spot rs (record { low = r.low; size = r.size; at = start; rights = r.rights }) is new bs r.low whole (omega arith) (omega arith))))
    ∙ ap (λ regions. after_write (laid rs bs) (region_in regions place).low new) (sym (regions-laid rs bs))

pub fill_fits : (rs : List Region) (place start n : ℕ) → AreMapped rs → place < length rs → start + sum_by (λ r. r.size) (drop place rs) ≡ sum_by (λ r. r.size) rs → n ≤ (region_in rs place).size → start + n ≤ sum_by (λ r. r.size) rs
fill_fits rs place start n mapped below at fits =
    let is = region-spot rs place start (record { low = 0; size = 0; rights = 0 }) mapped below at in
    let within = is.within in
    omega arith

-- the regions of memory are lawful
pub mapped_if-laid : (rs : List Region) (bs : List ℕ) (ds : List Bool) → IsLaid rs bs ds → AreMapped rs
mapped_if-laid rs bs ds is = record { ends = is.ends; apart = is.apart; small = rw (← is.whole) is.small }
