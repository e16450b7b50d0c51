-- That zeros laid out for regions that are apart are memory of these regions, all zeros.
use Rattle.std.proofs.Common.{◌≡◌, ℕ, ◌+◌, ◌-◌, ◌^◌, ◌<◌, ◌≤◌, List, [], ◌∷◌, length, take, drop, map, flat_map, sum_by, replicate, All, false, refl, ap, ◌∙◌, arith}
use Rattle.std.specs.Prelude.{None}
use Rattle.std.proofs.lemmas.List.{length-replicate, take-replicate, drop-replicate}
use Rattle.std.proofs.lemmas.List.Sums.{sum_by-cons}
use Rattle.om_mem.specs.Contents.{Filled, numbered, contents_of, zeros, all_zeros, overlap_of}
use Rattle.om_mem.specs.Laid.{cells, laid, IsLaid}
use Rattle.om_mem.specs.Pages.{page_count}
use Rattle.om_mem.specs.declared.region.Region.{Region}

-- how many bytes regions have
abbrev pub total : List Region → ℕ
total rs = sum_by (λ (r : Region). r.size) rs

cells-zeros : (rs : List Region) → cells rs (replicate (total rs) 0) ≡ flat_map (λ (f : Filled). numbered f.region.low f.bytes) (map zeros rs)
cells-zeros [] = refl
cells-zeros (r ∷ rs) =
    let all : total (r ∷ rs) ≡ r.size + total rs = sum_by-cons (λ (s : Region). s.size) r rs in
    let front : take {A = ℕ} r.size (replicate (r.size + total rs) 0) ≡ replicate r.size 0 = take-replicate r.size (r.size + total rs) 0 (omega arith) in
    let count : r.size + total rs - r.size ≡ total rs = omega arith in
    let back : drop {A = ℕ} r.size (replicate (r.size + total rs) 0) ≡ replicate (total rs) 0 = drop-replicate r.size (r.size + total rs) 0 ∙ ap (λ n. replicate n 0) count in
    rw (all, front, back, cells-zeros rs) refl

regions-zeros : (rs : List Region) → map (λ (f : Filled). f.region) (map zeros rs) ≡ rs
regions-zeros [] = refl
regions-zeros (r ∷ rs) = ap (λ more. r ∷ more) (regions-zeros rs)

pub laid-zeros : (rs : List Region) → laid rs (replicate (total rs) 0) ≡ all_zeros rs
unfolding laid contents_of
laid-zeros rs = rw (cells-zeros rs, regions-zeros rs) refl

pub laid_zeros : (rs : List Region) → All (λ (r : Region). r.low + r.size ≤ 2 ^ 32) rs → length rs < 2 ^ 32 → overlap_of rs ≡ None → total rs ≤ 67108864 → IsLaid rs (replicate (total rs) 0) (replicate (page_count rs) false)
laid_zeros rs ends few apart small = record {
  ends = ends;
  few = few;
  apart = apart;
  whole = length-replicate {A = ℕ} (total rs) 0;
  small = rw (length-replicate {A = ℕ} (total rs) 0) small;
  flags = length-replicate (page_count rs) false;
}

pub ruleset mapped = (laid-zeros, laid_zeros)

-- memory of zeros has the regions that were asked for
pub regions_of_zeros : (rs : List Region) → (all_zeros rs).regions ≡ rs
unfolding contents_of
regions_of_zeros rs = regions-zeros rs
