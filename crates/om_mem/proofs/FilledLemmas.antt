-- That memory of zeros, into which each region's first bytes are written, one region after another, becomes
-- memory of these bytes.
use Rattle.std.proofs.Common.{◌≡◌, ℕ, zero, suc, ◌+◌, ◌-◌, ◌%◌, ◌^◌, ◌≤◌, List, [], ◌∷◌, ◌++◌, length, take, drop, map, flat_map, sum_by, replicate, refl, sym, ap, ◌∙◌, arith}
use Rattle.std.specs.Prelude.{None}
use Rattle.std.proofs.Math.Seq.{take-append_seam, drop-append_seam}
use Rattle.std.proofs.lemmas.List.{append-nil, append_assoc, length-append, length-replicate, map-append, take_at, drop_at, drop-append-le, drop-drop, drop-replicate, take-append-le}
use Rattle.std.proofs.lemmas.Grind.{flat_map-append}
use Rattle.std.proofs.lemmas.List.Edits.{sets, sets-eq}
use Rattle.std.proofs.lemmas.List.Sums.{sum_by-cons}
use Rattle.om_mem.specs.Contents.{Filled, numbered, contents_of, padded, zeros, all_zeros, addresses_from, after_write, stored, overlap_of}
use Rattle.om_mem.specs.Laid.{cells, laid}
use Rattle.om_mem.specs.Laws.{AreFit, regions_of, part_filled}
use Rattle.om_mem.specs.Pages.{counted, addresses_of}
use Rattle.om_mem.specs.declared.region.Region.{Region}
use Rattle.om_mem.proofs.PageLemmas.{are_apart, length-counted, length-addresses_of, stored-laid}

-- a region of zeros in the place of a filled one
abbrev pub emptied : Filled → Filled
emptied f = zeros f.region

-- the bytes of filled regions, end to end
abbrev bytes_of : List Filled → List ℕ
bytes_of fs = flat_map (λ (f : Filled). f.bytes) fs

-- ---- filled regions as laid out bytes

-- each region has as many bytes as its size
abbrev AreSized : List Filled → Type 0
AreSized [] = Unit {0}
AreSized (f ∷ fs) = (length f.bytes ≡ f.region.size) × AreSized fs

cells-filled : (fs : List Filled) → AreSized fs → cells (regions_of fs) (bytes_of fs) ≡ flat_map (λ (f : Filled). numbered f.region.low f.bytes) fs
cells-filled [] sized = refl
cells-filled (f ∷ fs) sized =
    let rest = bytes_of fs in
    let front : take f.region.size (f.bytes ++ rest) ≡ f.bytes = rw (← sized.0) (take-append_seam f.bytes rest) in
    let back : drop f.region.size (f.bytes ++ rest) ≡ rest = rw (← sized.0) (drop-append_seam f.bytes rest) in
    rw (front, back, cells-filled fs sized.1) refl

laid-filled : (fs : List Filled) → AreSized fs → laid (regions_of fs) (bytes_of fs) ≡ contents_of fs
unfolding laid contents_of
laid-filled fs sized = rw (cells-filled fs sized) refl

-- there are as many bytes as addresses
length-filled : (fs : List Filled) → AreSized fs → length (bytes_of fs) ≡ sum_by (λ (r : Region). r.size) (regions_of fs)
length-filled [] sized = refl
length-filled (f ∷ fs) sized =
    let rest = length-filled fs sized.1 in
    let total = sum_by-cons (λ (r : Region). r.size) f.region (regions_of fs) in
    let both = length-append f.bytes (bytes_of fs) in
    omega (arith, sized.0)

bytes-append : (fs gs : List Filled) → bytes_of (fs ++ gs) ≡ bytes_of fs ++ bytes_of gs
bytes-append [] gs = refl
bytes-append (f ∷ fs) gs = rw (bytes-append fs gs) (sym (append_assoc f.bytes (bytes_of fs) (bytes_of gs)))

-- ---- so far padded, from there on zeros

abbrev mixed : List Filled → Filled → List Filled → List Filled
mixed done now rest = map padded done ++ now ∷ map emptied rest

regions-padded : (fs : List Filled) → regions_of (map padded fs) ≡ regions_of fs
regions-padded [] = refl
regions-padded (f ∷ fs) = ap (λ more. f.region ∷ more) (regions-padded fs)

regions-emptied : (fs : List Filled) → regions_of (map emptied fs) ≡ regions_of fs
regions-emptied [] = refl
regions-emptied (f ∷ fs) = ap (λ more. f.region ∷ more) (regions-emptied fs)

regions-mixed : (done : List Filled) (now f : Filled) (rest : List Filled) → now.region ≡ f.region → regions_of (mixed done now rest) ≡ regions_of (done ++ f ∷ rest)
regions-mixed [] now f rest same = λ i. same i ∷ regions-emptied rest i
regions-mixed (d ∷ done) now f rest same = ap (λ more. d.region ∷ more) (regions-mixed done now f rest same)

length-padded : (f : Filled) → length f.bytes ≤ f.region.size → length (f.bytes ++ replicate (f.region.size - length f.bytes) 0) ≡ f.region.size
length-padded f fits = rw (length-append f.bytes (replicate (f.region.size - length f.bytes) 0), length-replicate {A = ℕ} (f.region.size - length f.bytes) 0) (omega arith)

sized-emptied : (fs : List Filled) → AreSized (map emptied fs)
sized-emptied [] = tt
sized-emptied (f ∷ fs) = (length-replicate {A = ℕ} f.region.size 0, sized-emptied fs)

sized-mixed : (done : List Filled) (now f : Filled) (rest : List Filled) → AreFit (done ++ f ∷ rest) → length now.bytes ≡ now.region.size → AreSized (mixed done now rest)
sized-mixed [] now f rest fit here = (here, sized-emptied rest)
sized-mixed (d ∷ done) now f rest fit here = (length-padded d fit.0, sized-mixed done now f rest fit.2 here)

fit-here : (done : List Filled) (f : Filled) (rest : List Filled) → AreFit (done ++ f ∷ rest) → (length f.bytes ≤ f.region.size) × (f.region.low + f.region.size ≤ 2 ^ 32)
fit-here [] f rest fit = (fit.0, fit.1)
fit-here (d ∷ done) f rest fit = fit-here done f rest fit.2

-- ---- the addresses of a region

addresses_from-counted : (low n : ℕ) → low + n ≤ 2 ^ 32 → addresses_from low n ≡ counted low n
addresses_from-counted low zero ends = refl
addresses_from-counted low (suc zero) ends = refl
addresses_from-counted low (suc (suc n)) ends =
    let next : (low + 1) % 2 ^ 32 ≡ low + 1 = omega arith in
    rw next (ap (λ more. low ∷ more) (addresses_from-counted (low + 1) (suc n) (omega arith)))

take-counted : (low n m : ℕ) → n ≤ m → take n (counted low m) ≡ counted low n
take-counted low zero m less = refl
take-counted low (suc n) zero less = absurd (omega arith)
take-counted low (suc n) (suc m) less = ap (λ more. low ∷ more) (take-counted (low + 1) n m (omega arith))

sized-padded : (done : List Filled) (f : Filled) (rest : List Filled) → AreFit (done ++ f ∷ rest) → AreSized (map padded done)
sized-padded [] f rest fit = tt
sized-padded (d ∷ done) f rest fit = (length-padded d fit.0, sized-padded done f rest fit.2)

-- the bytes of the regions that are done are as many as their addresses
length-done : (done : List Filled) (f : Filled) (rest : List Filled) → AreFit (done ++ f ∷ rest) → length (addresses_of (regions_of done)) ≡ length (bytes_of (map padded done))
length-done done f rest fit =
    length-addresses_of (regions_of done)
    ∙ sym (length-filled (map padded done) (sized-padded done f rest fit) ∙ ap (sum_by (λ (r : Region). r.size)) (regions-padded done))

-- a region's first addresses stand behind those of the regions before it
region_addresses : (done : List Filled) (f : Filled) (rest : List Filled) (k n : ℕ) → length (addresses_of (regions_of done)) ≡ k → n ≤ f.region.size → take n (drop k (addresses_of (regions_of (done ++ f ∷ rest)))) ≡ counted f.region.low n
region_addresses done f rest k n place fits =
    let size : length (counted f.region.low f.region.size) ≡ f.region.size = length-counted f.region.low f.region.size in
    let all : addresses_of (regions_of (done ++ f ∷ rest)) ≡ addresses_of (regions_of done) ++ (counted f.region.low f.region.size ++ addresses_of (regions_of rest)) =
    ap addresses_of (map-append (λ (g : Filled). g.region) done (f ∷ rest)) ∙ flat_map-append (λ (r : Region). counted r.low r.size) (regions_of done) (regions_of (f ∷ rest)) in
    rw (all, drop_at (addresses_of (regions_of done)) (counted f.region.low f.region.size ++ addresses_of (regions_of rest)) k place)
    (take-append-le n (counted f.region.low f.region.size) (addresses_of (regions_of rest)) (omega arith) ∙ take-counted f.region.low n f.region.size fits)

-- ---- a region is filled

-- bytes in the place of the first zeros between two pieces
sets-middle : (before new behind : List ℕ) (size : ℕ) → length new ≤ size → sets (before ++ (replicate size 0 ++ behind)) (length before) new ≡ before ++ ((new ++ replicate (size - length new) 0) ++ behind)
sets-middle before new behind size less =
    let zeros_long : length (replicate {A = ℕ} size 0) ≡ size = length-replicate {A = ℕ} size 0 in
    let all : length (before ++ (replicate size 0 ++ behind)) ≡ length before + (size + length behind) = rw (length-append, length-append, zeros_long) refl in
    let front : take (length before) (before ++ (replicate size 0 ++ behind)) ≡ before = take_at before (replicate size 0 ++ behind) (length before) refl in
    let back : drop (length before + length new) (before ++ (replicate size 0 ++ behind)) ≡ replicate (size - length new) 0 ++ behind =
    sym (drop-drop (length new) (length before) (before ++ (replicate size 0 ++ behind)))
    ∙ ap (drop (length new)) (drop_at before (replicate size 0 ++ behind) (length before) refl)
    ∙ drop-append-le (length new) (replicate size 0) behind (omega arith)
    ∙ ap (λ more. more ++ behind) (drop-replicate (length new) size 0) in
    sets-eq new (before ++ (replicate size 0 ++ behind)) (length before) (omega arith)
    ∙ rw (front, back) (append_assoc before new (replicate (size - length new) 0 ++ behind) ∙ ap (λ more. before ++ more) (sym (append_assoc new (replicate (size - length new) 0) behind)))

-- to write bytes at a region's first addresses is to set those at their places
written : (rs : List Region) (bs : List ℕ) (low k : ℕ) (new : List ℕ) → overlap_of rs ≡ None → length bs ≡ sum_by (λ (r : Region). r.size) rs → k + length new ≤ length bs → addresses_from low (length new) ≡ take (length new) (drop k (addresses_of rs)) → after_write (laid rs bs) low new ≡ laid rs (sets bs k new)
unfolding after_write laid
written rs bs low k new apart whole fits addresses =
    ap (λ m. record { regions = rs; bytes = m })
    (ap (λ xs. stored (laid rs bs).bytes xs new) addresses ∙ stored-laid rs new bs k (are_apart rs apart) whole fits)

-- regions with their bytes, so far padded and from there on zeros, as laid out bytes
laid-mixed : (done : List Filled) (now f : Filled) (rest : List Filled) → AreFit (done ++ f ∷ rest) → now.region ≡ f.region → length now.bytes ≡ now.region.size → contents_of (mixed done now rest) ≡ laid (regions_of (done ++ f ∷ rest)) (bytes_of (map padded done) ++ (now.bytes ++ bytes_of (map emptied rest)))
laid-mixed done now f rest fit same here =
    sym (laid-filled (mixed done now rest) (sized-mixed done now f rest fit here))
    ∙ (λ i. laid (regions-mixed done now f rest same i) (bytes-append (map padded done) (now ∷ map emptied rest) i))

-- memory of zeros from a region on becomes, by writing the region's first bytes, memory of zeros from the next one on
pub filled-more : (done : List Filled) (f : Filled) (rest : List Filled) → overlap_of (regions_of (done ++ f ∷ rest)) ≡ None → AreFit (done ++ f ∷ rest) → after_write (part_filled done (f ∷ rest)) f.region.low f.bytes ≡ part_filled (done ++ f ∷ []) rest
filled-more done f rest apart fit =
    let here = fit-here done f rest fit in
    let size = length-replicate {A = ℕ} f.region.size 0 in
    let whole : length (bytes_of (map padded done) ++ (replicate f.region.size 0 ++ bytes_of (map emptied rest))) ≡ sum_by (λ (r : Region). r.size) (regions_of (done ++ f ∷ rest)) =
    ap length (sym (bytes-append (map padded done) (emptied f ∷ map emptied rest)))
    ∙ length-filled (mixed done (emptied f) rest) (sized-mixed done (emptied f) f rest fit size)
    ∙ ap (sum_by (λ (r : Region). r.size)) (regions-mixed done (emptied f) f rest refl) in
    let fits : length (bytes_of (map padded done)) + length f.bytes ≤ length (bytes_of (map padded done) ++ (replicate f.region.size 0 ++ bytes_of (map emptied rest))) =
    rw (length-append (bytes_of (map padded done)) (replicate f.region.size 0 ++ bytes_of (map emptied rest)), length-append (replicate f.region.size 0) (bytes_of (map emptied rest)), size) (omega (arith, here.0)) in
    let addresses : addresses_from f.region.low (length f.bytes) ≡ take (length f.bytes) (drop (length (bytes_of (map padded done))) (addresses_of (regions_of (done ++ f ∷ rest)))) =
    addresses_from-counted f.region.low (length f.bytes) (omega (arith, here.0, here.1))
    ∙ sym (region_addresses done f rest (length (bytes_of (map padded done))) (length f.bytes) (length-done done f rest fit) here.0) in
    ap (λ m. after_write m f.region.low f.bytes) (laid-mixed done (emptied f) f rest fit refl size)
    ∙ written (regions_of (done ++ f ∷ rest)) (bytes_of (map padded done) ++ (replicate f.region.size 0 ++ bytes_of (map emptied rest))) f.region.low (length (bytes_of (map padded done))) f.bytes apart whole fits addresses
    ∙ ap (laid (regions_of (done ++ f ∷ rest))) (sets-middle (bytes_of (map padded done)) f.bytes (bytes_of (map emptied rest)) f.region.size here.0)
    ∙ sym (laid-mixed done (padded f) f rest fit refl (length-padded f here.0))
    ∙ ap contents_of (moved done)
  where
    moved : (ds : List Filled) → mixed ds (padded f) rest ≡ map padded (ds ++ f ∷ []) ++ map emptied rest
    moved [] = refl
    moved (d ∷ ds) = ap (λ more. padded d ∷ more) (moved ds)

-- memory of zeros, before the first region is filled
pub filled_none : (fs : List Filled) → all_zeros (regions_of fs) ≡ part_filled [] fs
filled_none fs = ap contents_of (none fs)
  where
    none : (gs : List Filled) → map zeros (regions_of gs) ≡ map emptied gs
    none [] = refl
    none (g ∷ gs) = ap (λ more. zeros g.region ∷ more) (none gs)

-- memory of the regions' bytes, when the last one is filled
pub filled_all : (fs : List Filled) → part_filled fs [] ≡ contents_of (map padded fs)
filled_all fs = ap contents_of (append-nil (map padded fs))

pub ruleset filled = (filled_none, filled-more, filled_all)
