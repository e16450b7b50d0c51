-- What is known of many addresses, one region's after another's.
use Rattle.std.proofs.Common.{◌≡◌, ◌⊎◌, ℕ, zero, suc, ◌+◌, ◌-◌, ◌*◌, ◌/◌, ◌%◌, ◌^◌, ◌<◌, ◌≤◌, List, [], ◌∷◌, ◌++◌, length, take, drop, set, get_or, sum_by, Bool, true, false, cond, not, ◌&&◌, nat_eq, min, refl, sym, ap, ◌∙◌, arith, inl, inr, add-one, append_assoc, length-take}
use Rattle.std.specs.Prelude.{Option, Some, None, is_none, is_some, find, bit_and, replicate}
use Rattle.std.specs.Int.Bits.{and_zero_r}
use Rattle.std.specs.Option.{option_map_or}
use Rattle.std.specs.List.{list_all}
use Rattle.std.specs.FinMap as fin
use Rattle.std.specs.Ordering.{nat_cmp}
use Rattle.std.proofs.lemmas.Bool.Decides.{nat_tests}
use Rattle.std.proofs.lemmas.Bool.{cases_lt}
use Rattle.std.proofs.lemmas.List.{get_or_append_left, get_or-append_right, get_or-take, get_or-drop, length-drop, length-replicate, get_or-replicate}
use Rattle.std.proofs.lemmas.List.Edits.{sets, sets-eq}
use Rattle.om_mem.specs.Contents.{addresses_from, are_mapped, may_at, outside, region_at, stored}
use Rattle.om_mem.specs.Laid.{laid, place_of, IsSame, IsSpot, marked, overlaid, refusing}
use Rattle.om_mem.specs.Pages.{flag}
use Rattle.om_mem.specs.declared.region.Region.{Region}
use Rattle.om_mem.specs.declared.spot.Spot.{Spot}
use Rattle.om_mem.proofs.SpotLemmas.{may_at-place, none_outside-spot}
use Rattle.om_mem.proofs.WriteLemmas.{get_or-overlaid, stored-spot}

-- ---- the first address that doesn't give some rights

pub refusing-first : (rs : List Region) (q n right : ℕ) → 0 < n → may_at rs q right ≡ false → refusing rs q n right ≡ Some q
refusing-first rs q zero right some refused = absurd (omega arith)
refusing-first rs q (suc n) right some refused = rw refused refl

-- where some first addresses give the rights, it is that of the others
pub refusing-skip : (rs : List Region) (q m n right : ℕ) → q < 2 ^ 32 → m ≤ n → refusing rs q m right ≡ None → refusing rs q n right ≡ refusing rs ((q + m) % 2 ^ 32) (n - m) right
refusing-skip rs q zero n right low fits none =
    let here : (q + 0) % 2 ^ 32 ≡ q = omega arith in
    let all : n - 0 ≡ n = omega arith in
    rw (here, all) refl
refusing-skip rs q (suc m) zero right low fits none = absurd (omega arith)
refusing-skip rs q (suc m) (suc n) right low fits none =
    elim (may_at rs q right) as (λ b. cond (not b) (Some q) (refusing rs ((q + 1) % 2 ^ 32) m right) ≡ None → cond (not b) (Some q) (refusing rs ((q + 1) % 2 ^ 32) n right) ≡ refusing rs ((q + suc m) % 2 ^ 32) (suc n - suc m) right) [
      | true ↦ λ rest.
          let at : ((q + 1) % 2 ^ 32 + m) % 2 ^ 32 ≡ (q + suc m) % 2 ^ 32 = omega arith in
          let left : suc n - suc m ≡ n - m = omega arith in
          rw (← at, left) (refusing-skip rs ((q + 1) % 2 ^ 32) m n right (omega arith) (omega arith) rest)
      | false ↦ λ rest. absurd (cc)
    ] none

equal : (x y : ℕ) → x ≡ y → nat_eq x y ≡ true
equal x y e = grind (arith, nat_tests)

-- how many of some addresses come before the end of a spot
abbrev pub reach : Spot → (address count : ℕ) → ℕ
reach spot address count = min count (spot.low + spot.size - address)

module _ (rs : List Region) (spot : Spot) (is : IsSpot rs spot) where
  -- where the spot gives the rights, it is that of the addresses behind the spot
  pub refusing-spot : (q n right : ℕ) → spot.low ≤ q → q < spot.low + spot.size → bit_and spot.rights right ≡ right → refusing rs q n right ≡ refusing rs ((q + reach spot q n) % 2 ^ 32) (n - reach spot q n) right
  refusing-spot q n right low high may =
      let ends = is.ends in
      let gives = equal (bit_and spot.rights right) right may in
      let same : spot.low + (q - spot.low) ≡ q = omega arith in
      let none = none_outside-spot rs spot is right (reach spot q n) (q - spot.low) (omega arith) gives in
      refusing-skip rs q (reach spot q n) n right (omega arith) (omega arith) (rw same at none)

-- ---- whether all of some addresses give some rights

pub all-refusing : (p : ℕ → Bool) (xs : List ℕ) → list_all p xs ≡ is_none (find (λ a. not (p a)) xs)
all-refusing p [] = refl
all-refusing p (x ∷ xs) =
    elim (p x) as (λ b. (b && list_all p xs) ≡ is_none (cond (not b) (Some x) (find (λ a. not (p a)) xs))) [
      | true ↦ all-refusing p xs
      | false ↦ refl
    ]

-- an address gives no right at all where a region holds it
mapped-at : (rs : List Region) (q : ℕ) → may_at rs q 0 ≡ is_some (region_at rs q)
mapped-at rs q = held (region_at rs q)
  where
    held : (o : Option Region) → option_map_or (λ r. nat_eq (bit_and r.rights 0) 0) o false ≡ is_some o
    held None = refl
    held (Some r) = rw (and_zero_r r.rights) refl

pub all-mapped : (rs : List Region) (q n : ℕ) → list_all (λ a. may_at rs a 0) (addresses_from q n) ≡ are_mapped rs q n
unfolding are_mapped
all-mapped rs q n = λ i. list_all (λ a. mapped-at rs a i) (addresses_from q n)

-- ---- writing

-- where all of some addresses give the rights, those behind the first ones do
refusing-rest : (rs : List Region) (q m n right : ℕ) → q < 2 ^ 32 → m ≤ n → refusing rs q n right ≡ None → refusing rs ((q + m) % 2 ^ 32) (n - m) right ≡ None
refusing-rest rs q zero n right low fits none =
    let here : (q + 0) % 2 ^ 32 ≡ q = omega arith in
    let all : n - 0 ≡ n = omega arith in
    rw (here, all) none
refusing-rest rs q (suc m) zero right low fits none = absurd (omega arith)
refusing-rest rs q (suc m) (suc n) right low fits none =
    elim (may_at rs q right) as (λ b. cond (not b) (Some q) (refusing rs ((q + 1) % 2 ^ 32) n right) ≡ None → refusing rs ((q + suc m) % 2 ^ 32) (suc n - suc m) right ≡ None) [
      | true ↦ λ rest.
          let at : ((q + 1) % 2 ^ 32 + m) % 2 ^ 32 ≡ (q + suc m) % 2 ^ 32 = omega arith in
          let left : suc n - suc m ≡ n - m = omega arith in
          rw (← at, left) (refusing-rest rs ((q + 1) % 2 ^ 32) m n right (omega arith) (omega arith) rest)
      | false ↦ λ rest. absurd (cc)
    ] none

-- what may be written has its first address in a region
pub outside-mapped : (rs : List Region) (q n : ℕ) → 0 < n → outside rs q n ≡ None → place_of rs q ≡ None → ⊥
unfolding outside
outside-mapped rs q n some inside nowhere =
    let refused : may_at rs q 2 ≡ false = rw (may_at-place rs q 2, nowhere) refl in
    let told = refusing-first rs q n 2 some refused in
    absurd (cc)

-- the bytes behind the first ones may be written, if all may
pub outside-rest : (rs : List Region) (q m : ℕ) (new : List ℕ) → q < 2 ^ 32 → m ≤ length new → outside rs q (length new) ≡ None → outside rs ((q + m) % 2 ^ 32) (length (drop m new)) ≡ None
unfolding outside
outside-rest rs q m new low fits inside =
    rw (length-drop m new) (refusing-rest rs q m (length new) 2 low fits inside)

-- bytes are written as the first ones are, and then the others
stored-split : (m : fin.FinMap nat_cmp ℕ) (q n : ℕ) (new : List ℕ) → q < 2 ^ 32 → n ≤ length new → stored m (addresses_from q (length new)) new ≡ stored (stored m (addresses_from q (length (take n new))) (take n new)) (addresses_from ((q + n) % 2 ^ 32) (length (drop n new))) (drop n new)
stored-split m q zero new low fits = let here : (q + 0) % 2 ^ 32 ≡ q = omega arith in rw here refl
stored-split m q (suc n) [] low fits = absurd (omega arith)
stored-split m q (suc n) (b ∷ new) low fits =
    let at : ((q + 1) % 2 ^ 32 + n) % 2 ^ 32 ≡ (q + suc n) % 2 ^ 32 = omega arith in
    rw (← at) (stored-split (fin.insert m q b) ((q + 1) % 2 ^ 32) n new (omega arith) (omega arith))

-- the first bytes are written to a spot, and then the others
pub stored-piece : (rs : List Region) (spot : Spot) → IsSpot rs spot → (new bs : List ℕ) (q n : ℕ) → length bs ≡ sum_by (λ r. r.size) rs → spot.low ≤ q → q < 2 ^ 32 → n ≤ length new → q + n ≤ spot.low + spot.size → stored (laid rs (overlaid bs (spot.at + (q - spot.low)) (take n new))).bytes (addresses_from ((q + n) % 2 ^ 32) (length (drop n new))) (drop n new) ≡ stored (laid rs bs).bytes (addresses_from q (length new)) new
stored-piece rs spot is new bs q n whole low small fits high =
    let long : length (take n new) ≡ n = length-take n new ∙ (omega arith) in
    let here = stored-spot rs spot is (take n new) bs q whole low (omega arith) in
    sym (stored-split (laid rs bs).bytes q n new small fits ∙ ap (λ m. stored m (addresses_from ((q + n) % 2 ^ 32) (length (drop n new))) (drop n new)) here)

-- ---- one copy, and one marking

overlaid-sets : (bs : List ℕ) (at : ℕ) (new : List ℕ) → overlaid bs at new ≡ sets bs at new
overlaid-sets bs at [] = refl
overlaid-sets bs at (b ∷ new) = overlaid-sets (set bs at b) (at + 1) new ∙ ap (λ n. sets (set bs at b) n new) (add-one at)

-- to put bytes one by one is to put them at once
pub put-overlaid : (bs : List ℕ) (at : ℕ) (new : List ℕ) → at + length new ≤ length bs → take at bs ++ (new ++ drop (at + length new) bs) ≡ overlaid bs at new
put-overlaid bs at new fits =
    sym (overlaid-sets bs at new ∙ sets-eq new bs at fits ∙ append_assoc (take at bs) new (drop (at + length new) bs))

-- a page that isn't flagged then is none of those that were set, and wasn't flagged before
marked-flag : (ds : List Bool) (first past page : ℕ) → first ≤ past → past ≤ length ds → flag (marked ds first past) page ≡ false → ((page < first) ⊎ (past ≤ page)) × (flag ds page ≡ false)
marked-flag ds first past page order fits clean =
    elim (cases_lt page first) as (λ _. ((page < first) ⊎ (past ≤ page)) × (flag ds page ≡ false)) [
      | inl less ↦ (inl less, sym (get_or_append_left (take first ds) behind true page (omega (arith, front)) ∙ get_or-take first ds page true less) ∙ clean)
      | inr more ↦ elim (cases_lt page past) as (λ _. ((page < first) ⊎ (past ≤ page)) × (flag ds page ≡ false)) [
        | inl inside ↦ absurd (wrong more inside)
        | inr above ↦ (inr above, sym (past_front more ∙ get_or-append_right set_flags (drop past ds) (past - first) (page - first) true many (omega arith) ∙ get_or-drop past ds (page - first - (past - first)) true ∙ ap (λ n. get_or ds n true) (same above)) ∙ clean)
      ]
    ]
  where
    set_flags : List Bool
    set_flags = replicate (past - first) true

    behind : List Bool
    behind = replicate (past - first) true ++ drop past ds

    front : length (take first ds) ≡ first
    front = length-take first ds ∙ (omega arith)

    many : length (replicate (past - first) true) ≡ past - first
    many = length-replicate {A = Bool} (past - first) true

    past_front : first ≤ page → flag (marked ds first past) page ≡ get_or (replicate (past - first) true ++ drop past ds) (page - first) true
    past_front more = get_or-append_right (take first ds) (replicate (past - first) true ++ drop past ds) first page true front more

    wrong : first ≤ page → page < past → ⊥
    wrong more inside =
        let is_set = past_front more ∙ get_or_append_left (replicate (past - first) true) (drop past ds) true (page - first) (omega (arith, many)) ∙ get_or-replicate (past - first) (page - first) true true (omega arith) in
        absurd (cc)

    same : past ≤ page → past + (page - first - (past - first)) ≡ page
    same above = omega arith

-- what is written counts as written
pub same-marked : (bs : List ℕ) (ds : List Bool) (at : ℕ) (new : List ℕ) → 0 < length new → at + length new ≤ 4096 * length ds → IsSame bs ds (overlaid bs at new) (marked ds (at / 4096) ((at + length new + 4095) / 4096))
same-marked bs ds at new some fits = record {
  byte = λ k clean. get_or-overlaid bs at new k (elsewhere k (marked-flag ds (at / 4096) ((at + length new + 4095) / 4096) (k / 4096) (omega arith) (omega arith) clean).0);
  flag = λ page clean. (marked-flag ds (at / 4096) ((at + length new + 4095) / 4096) page (omega arith) (omega arith) clean).1;
}
  where
    elsewhere : (k : ℕ) → (k / 4096 < at / 4096) ⊎ ((at + length new + 4095) / 4096 ≤ k / 4096) → (k < at) ⊎ (at + length new ≤ k)
    elsewhere k away = elim away as (λ _. (k < at) ⊎ (at + length new ≤ k)) [ inl low ↦ inl (omega arith) | inr high ↦ inr (omega arith) ]
