-- That memory kept as laid out bytes is the memory that contracts see.
use Rattle.std.proofs.Common.{◌≡◌, ◌≢◌, ◌⊎◌, ℕ, zero, suc, ◌+◌, ◌-◌, ◌<◌, ◌≤◌, List, [], ◌∷◌, ◌++◌, length, take, drop, get_or, sum_by, true, false, cond, ◌&&◌, nat_lt, nat_le, refl, ap, ◌∙◌, arith, inl, inr, length-take, length-drop, if◌then◌else◌}
use Rattle.std.specs.Prelude.{Option, Some, None}
use Rattle.std.specs.Option.{option_map, option_or}
use Rattle.std.specs.Ordering.{nat_cmp, eq_by_cmp}
use Rattle.std.specs.FinMap as fin
use Rattle.std.proofs.lemmas.Bool.Decides.{nat_tests}
use Rattle.std.proofs.lemmas.List.{get_or-take, get_or-drop}
use Rattle.std.proofs.lemmas.List.Sums.{sum_by-cons}
use Rattle.std.proofs.lemmas.Cmp.{nat_cmp_total}
use Rattle.om_mem.specs.Contents.{holds, numbered}
use Rattle.om_mem.specs.Laid.{cells, laid, place_of}
use Rattle.om_mem.specs.declared.region.Region.{Region}

-- an entry whose key is sought is found
pub hit : (q a b : ℕ) (rest : Option ℕ) → q ≡ a → cond (eq_by_cmp nat_cmp q a) (Some b) rest ≡ Some b
hit q a b rest e = grind (arith, nat_tests)

-- an entry of another key is passed
pub miss : (q a b : ℕ) (rest : Option ℕ) → q ≢ a → cond (eq_by_cmp nat_cmp q a) (Some b) rest ≡ rest
miss q a b rest ne = grind (arith, nat_tests)

pub holds-true : (low size q : ℕ) → (nat_le low q && nat_lt q (low + size)) ≡ true → (low ≤ q) × (q < low + size)
holds-true low size q h = grind (arith, nat_tests)

holds-false : (low size q : ℕ) → (nat_le low q && nat_lt q (low + size)) ≡ false → (q < low) ⊎ (low + size ≤ q)
holds-false low size q h = grind (arith, nat_tests)

-- no byte of a piece stands below its first address
find-numbered_below : (low : ℕ) (bs : List ℕ) (q : ℕ) → q < low → fin.find nat_cmp q (numbered low bs) ≡ None
find-numbered_below low [] q h = refl
find-numbered_below low (b ∷ bs) q h =
    let ne : q ≢ low = omega arith in
    miss q low b (fin.find nat_cmp q (numbered (low + 1) bs)) ne ∙ find-numbered_below (low + 1) bs q (omega arith)

-- no byte of a piece stands past its last address
find-numbered_above : (low : ℕ) (bs : List ℕ) (q : ℕ) → low + length bs ≤ q → fin.find nat_cmp q (numbered low bs) ≡ None
find-numbered_above low [] q h = refl
find-numbered_above low (b ∷ bs) q h =
    let ne : q ≢ low = omega arith in
    miss q low b (fin.find nat_cmp q (numbered (low + 1) bs)) ne ∙ find-numbered_above (low + 1) bs q (omega arith)

-- the byte at each address of a piece
find-numbered_at : (low : ℕ) (bs : List ℕ) (k q : ℕ) → q ≡ low + k → k < length bs → fin.find nat_cmp q (numbered low bs) ≡ Some (get_or bs k 0)
find-numbered_at low [] k q e h = absurd (omega arith)
find-numbered_at low (b ∷ bs) zero q e h =
    let same : q ≡ low = omega arith in hit q low b (fin.find nat_cmp q (numbered (low + 1) bs)) same
find-numbered_at low (b ∷ bs) (suc k) q e h =
    let ne : q ≢ low = omega arith in
    let more : q ≡ (low + 1) + k = omega arith in
    miss q low b (fin.find nat_cmp q (numbered (low + 1) bs)) ne ∙ find-numbered_at (low + 1) bs k q more (omega arith)

-- entries one after another are searched one after another
find-append : (q : ℕ) (xs ys : List (ℕ × ℕ)) → fin.find nat_cmp q (xs ++ ys) ≡ option_or (fin.find nat_cmp q xs) (fin.find nat_cmp q ys)
find-append q [] ys = refl
find-append q (x ∷ xs) ys =
    elim (eq_by_cmp nat_cmp q x.0) as (λ b. cond b (Some x.1) (fin.find nat_cmp q (xs ++ ys)) ≡ option_or (cond b (Some x.1) (fin.find nat_cmp q xs)) (fin.find nat_cmp q ys)) [
      | true ↦ refl
      | false ↦ find-append q xs ys
    ]

-- a byte among those that follow a region's
later : (n : ℕ) (bs : List ℕ) (found : Option (ℕ × ℕ)) → option_map (λ (f : ℕ × ℕ). get_or (drop n bs) f.0 0) found ≡ option_map (λ (f : ℕ × ℕ). get_or bs f.0 0) (option_map (λ (f : ℕ × ℕ). (n + f.0, f.1)) found)
later n bs None = refl
later n bs (Some f) = ap (λ x. Some x) (get_or-drop n bs f.0 0)

-- the entry of an address is the byte at its place
find-cells : (rs : List Region) (bs : List ℕ) (q : ℕ) → length bs ≡ sum_by (λ r. r.size) rs → fin.find nat_cmp q (cells rs bs) ≡ option_map (λ (f : ℕ × ℕ). get_or bs f.0 0) (place_of rs q)
find-cells [] bs q whole = refl
find-cells (r ∷ rs) bs q whole =
    let total = sum_by-cons (λ (s : Region). s.size) r rs in
    let front : length (take r.size bs) ≡ r.size = rw (length-take) (omega arith) in
    let back : length (drop r.size bs) ≡ sum_by (λ s. s.size) rs = rw (length-drop) (omega arith) in
    let rest = find-cells rs (drop r.size bs) q back ∙ later r.size bs (place_of rs q) in
    find-append q (numbered r.low (take r.size bs)) (cells rs (drop r.size bs))
    ∙ elim (holds r q) as (λ b. holds r q ≡ b → option_or (fin.find nat_cmp q (numbered r.low (take r.size bs))) (fin.find nat_cmp q (cells rs (drop r.size bs))) ≡ option_map (λ (f : ℕ × ℕ). get_or bs f.0 0) (if b then Some (q - r.low, r.rights) else option_map (λ (found : ℕ × ℕ). (r.size + found.0, found.1)) (place_of rs q))) [
      | true ↦ λ is.
          let inside = holds-true r.low r.size q is in
          let k : q - r.low < length (take r.size bs) = omega arith in
          let at = find-numbered_at r.low (take r.size bs) (q - r.low) q (omega arith) k in
          rw at (ap (λ x. Some x) (get_or-take r.size bs (q - r.low) 0 (omega arith)))
      | false ↦ λ is. elim (holds-false r.low r.size q is) as (λ _. option_or (fin.find nat_cmp q (numbered r.low (take r.size bs))) (fin.find nat_cmp q (cells rs (drop r.size bs))) ≡ option_map (λ (f : ℕ × ℕ). get_or bs f.0 0) (option_map (λ (found : ℕ × ℕ). (r.size + found.0, found.1)) (place_of rs q))) [
        | inl below ↦ rw (find-numbered_below r.low (take r.size bs) q below) rest
        | inr above ↦ rw (find-numbered_above r.low (take r.size bs) q (omega arith)) rest
      ]
    ] refl

-- the byte at an address of memory is the one at its place
pub get-laid : (rs : List Region) (bs : List ℕ) (q : ℕ) → length bs ≡ sum_by (λ r. r.size) rs → fin.get (laid rs bs).bytes q ≡ option_map (λ (f : ℕ × ℕ). get_or bs f.0 0) (place_of rs q)
unfolding laid
get-laid rs bs q whole = fin.get-from_entries nat_cmp_total (cells rs bs) q ∙ find-cells rs bs q whole
