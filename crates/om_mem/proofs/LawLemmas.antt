-- The laws of memory.
use Rattle.std.proofs.Common.{◌≡◌, ◌⊎◌, ℕ, zero, suc, ◌+◌, ◌*◌, ◌/◌, ◌%◌, ◌<◌, ◌≤◌, List, [], ◌∷◌, length, take, drop, map, get_or, true, false, ◌&&◌, nat_lt, nat_le, max, min, refl, sym, ap, ◌∙◌, arith, inl, inr}
use Rattle.std.specs.Prelude.{Option, Some, None, is_some, position, unwrap_or}
use Rattle.std.specs.Option.{option_map, option_or}
use Rattle.std.specs.FinMap as fin
use Rattle.std.proofs.lemmas.Bool.Decides.{nat_tests}
use Rattle.std.proofs.lemmas.Bool.{cases_lt}
use Rattle.std.proofs.lemmas.Cmp.{nat_cmp_total}
use Rattle.std.proofs.lemmas.List.{get_or-map, get_or-take, get_or-drop, length-take, length-drop}
use Rattle.std.proofs.lemmas.List.Quantifiers.{position-Some}
use Rattle.om_mem.specs.Contents.{Contents, IsWhole, region_at, overlap_of}
use Rattle.om_mem.specs.Laid.{place_of}
use Rattle.om_mem.specs.Laws.{HoldsAt, IsLeastOverlap, HaveNoOverlap, AreKept, last_of}
use Rattle.om_mem.specs.Pages.{Held, IsKept, cleared, flag, addresses_of, page_addresses, page_count, page_in, byte_in}
use Rattle.om_mem.specs.declared.region.Region.{Region}
use Rattle.om_mem.proofs.OverlapLemmas.{overlap_from, overlap_of-from, overlap_parts, position_none, shares}
use Rattle.om_mem.proofs.PageLemmas.{address_at-place, length-addresses_of, placed}

-- ---- overlaps

-- a region of no address
abbrev nowhere : Region
nowhere = record { low = 0; size = 0; rights = 0 }

-- regions that hold an address in common share it
shared : (low size low2 size2 q : ℕ) → (nat_le low q && nat_lt q (low + size)) ≡ true → (nat_le low2 q && nat_lt q (low2 + size2)) ≡ true → nat_lt (max low low2) (min (low + size) (low2 + size2)) ≡ true
shared low size low2 size2 q one two = grind (arith, nat_tests)

-- regions that share an address hold the greater of their least addresses
holds-first : (low size low2 size2 : ℕ) → nat_lt (max low low2) (min (low + size) (low2 + size2)) ≡ true → (nat_le low (max low low2) && nat_lt (max low low2) (low + size)) ≡ true
holds-first low size low2 size2 is = grind (arith, nat_tests)

holds-second : (low size low2 size2 : ℕ) → nat_lt (max low low2) (min (low + size) (low2 + size2)) ≡ true → (nat_le low2 (max low low2) && nat_lt (max low low2) (low2 + size2)) ≡ true
holds-second low size low2 size2 is = grind (arith, nat_tests)

-- what isn't found is at no place
none_at : (r : Region) (rs : List Region) (k : ℕ) → position (shares r) rs ≡ None → shares r (get_or rs k nowhere) ≡ false
none_at r [] k none = empty r.low r.size
  where
    empty : (low size : ℕ) → nat_lt (max low 0) (min (low + size) 0) ≡ false
    empty low size = grind (arith, nat_tests)
none_at r (s ∷ rs) zero none = (position_none (shares r) s rs none).0
none_at r (s ∷ rs) (suc k) none = none_at r rs k (position_none (shares r) s rs none).1

-- the first region shares an address with none of the others: no pair begins with it
alone : (r : Region) (rs : List Region) (k q : ℕ) → position (shares r) rs ≡ None → HoldsAt (r ∷ rs) 0 q → HoldsAt rs k q → ⊥
alone r rs k q none one two =
    let s = get_or rs k nowhere in
    let yes = shared r.low r.size s.low s.size q one two in
    let no = none_at r rs k none in
    absurd (cc)

have_none : (n : ℕ) (rs : List Region) → overlap_from n rs ≡ None → HaveNoOverlap rs
have_none n [] none c d q less one two = nothing q one
  where
    nothing : (q : ℕ) → (nat_le 0 q && nat_lt q (0 + 0)) ≡ true → ⊥
    nothing q is = grind (arith, nat_tests)
have_none n (r ∷ rs) none zero zero q less one two = omega arith
have_none n (r ∷ rs) none zero (suc d) q less one two = alone r rs d q (overlap_parts n r rs none).0 one two
have_none n (r ∷ rs) none (suc c) zero q less one two = omega arith
have_none n (r ∷ rs) none (suc c) (suc d) q less one two = have_none (n + 1) rs (overlap_parts n r rs none).1 c d q (omega arith) one two

-- the least pair that begins with the first region
least_first : (r : Region) (rs : List Region) (k : ℕ) → position (shares r) rs ≡ Some k → (c d q : ℕ) → c < d → HoldsAt (r ∷ rs) c q → HoldsAt (r ∷ rs) d q → (0 < c) ⊎ ((0 ≡ c) × (suc k ≤ d))
least_first r rs k found (suc c) d q less one two = inl (omega arith)
least_first r rs k found zero zero q less one two = absurd (omega arith)
least_first r rs k found zero (suc d) q less one two =
    elim (cases_lt d k) as (λ _. (0 < 0) ⊎ (◌≡◌ {A = ℕ} 0 0 × (suc k ≤ suc d))) [
      | inl before ↦
          let s = get_or rs d nowhere in
          let no = (position-Some (shares r) rs k nowhere found).2 d before in
          let yes = shared r.low r.size s.low s.size q one two in
          absurd (cc)
      | inr behind ↦ inr (refl, omega arith)
    ]

is_first : (r : Region) (rs : List Region) (k : ℕ) → position (shares r) rs ≡ Some k → IsLeastOverlap (r ∷ rs) 0 (suc k)
is_first r rs k found =
    let s = get_or rs k nowhere in
    let meets = (position-Some (shares r) rs k nowhere found).1 in
    record {
      order = omega arith;
      common = (max r.low s.low, holds-first r.low r.size s.low s.size meets, holds-second r.low r.size s.low s.size meets);
      least = least_first r rs k found;
    }

-- a least pair behind the first region
least_later : (r : Region) (rs : List Region) (i j : ℕ) → position (shares r) rs ≡ None → IsLeastOverlap rs i j → (c d q : ℕ) → c < d → HoldsAt (r ∷ rs) c q → HoldsAt (r ∷ rs) d q → (suc i < c) ⊎ ((suc i ≡ c) × (suc j ≤ d))
least_later r rs i j none is zero zero q less one two = absurd (omega arith)
least_later r rs i j none is zero (suc d) q less one two = absurd (alone r rs d q none one two)
least_later r rs i j none is (suc c) zero q less one two = absurd (omega arith)
least_later r rs i j none is (suc c) (suc d) q less one two =
    elim (is.least c d q (omega arith) one two) as (λ _. (suc i < suc c) ⊎ ((suc i ≡ suc c) × (suc j ≤ suc d))) [
      | inl before ↦ inl (omega arith)
      | inr at ↦ inr (ap suc at.0, omega (arith, at.1))
    ]

is_later : (r : Region) (rs : List Region) (i j : ℕ) → position (shares r) rs ≡ None → IsLeastOverlap rs i j → IsLeastOverlap (r ∷ rs) (suc i) (suc j)
is_later r rs i j none is =
    let before = is.order in
    record { order = omega arith; common = is.common; least = least_later r rs i j none is }

-- the parts of a pair that is there
pair_parts : (x y a b : ℕ) → ◌≡◌ {A = Option (ℕ × ℕ)} (Some (x, y)) (Some (a, b)) → (x ≡ a) × (y ≡ b)
pair_parts x y a b e = (ap (λ (o : Option (ℕ × ℕ)). (unwrap_or o (0, 0)).0) e, ap (λ (o : Option (ℕ × ℕ)). (unwrap_or o (0, 0)).1) e)

-- what is told from a place on
pub record IsTold (n : ℕ) (rs : List Region) (a b : ℕ) : Type 0 where
  pub i : ℕ
  pub j : ℕ
  pub first : a ≡ n + i
  pub second : b ≡ n + j
  pub least : IsLeastOverlap rs i j

told_from : (n : ℕ) (rs : List Region) (a b : ℕ) → overlap_from n rs ≡ Some (a, b) → IsTold n rs a b
told_from n [] a b told = absurd (cc)
told_from n (r ∷ rs) a b told =
    elim (position (shares r) rs) as (λ p. position (shares r) rs ≡ p → option_or (option_map (λ k. (n, n + 1 + k)) p) (overlap_from (n + 1) rs) ≡ Some (a, b) → IsTold n (r ∷ rs) a b) [
      | None ↦ λ none more.
          let rest = told_from (n + 1) rs a b more in
          let one = rest.first in
          let two = rest.second in
          record { i = suc rest.i; j = suc rest.j; first = omega arith; second = omega arith; least = is_later r rs rest.i rest.j none rest.least }
      | Some k ↦ λ found is.
          let both = pair_parts n (n + 1 + k) a b is in
          record { i = 0; j = suc k; first = omega (arith, both.0); second = omega (arith, both.1); least = is_first r rs k found }
    ] refl told

least_told : (rs : List Region) (a b : ℕ) → IsTold 0 rs a b → IsLeastOverlap rs a b
least_told rs a b is =
    let one : a ≡ is.i = omega (arith, is.first) in
    let two : b ≡ is.j = omega (arith, is.second) in
    rw (one, two) is.least

pub told_least : (rs : List Region) (a b : ℕ) → overlap_of rs ≡ Some (a, b) → IsLeastOverlap rs a b
told_least rs a b told = least_told rs a b (told_from 0 rs a b (sym (overlap_of-from rs) ∙ told))

pub none_told : (rs : List Region) → overlap_of rs ≡ None → HaveNoOverlap rs
none_told rs none = have_none 0 rs (sym (overlap_of-from rs) ∙ none)

pub ruleset overlaps = (told_least, none_told)

-- ---- pages

-- what a page has at a place
in_piece : (g : ℕ → ℕ) (xs : List ℕ) (n at i : ℕ) → i < n → at + i < length xs → get_or (map g (take n (drop at xs))) i 0 ≡ g (get_or xs (at + i) 0)
in_piece g xs n at i less within =
    let there : i < length (take n (drop at xs)) = rw (length-take n (drop at xs), length-drop at xs) (omega arith) in
    get_or-map g (take n (drop at xs)) i 0 0 there ∙ ap g (get_or-take n (drop at xs) i 0 less ∙ get_or-drop at xs i 0)

-- the byte at an address stands on the page of its place
byte_of_page : (memory : Contents) (rs : List Region) (q : ℕ) (f : ℕ × ℕ) → memory.regions ≡ rs → place_of rs q ≡ Some f → get_or (page_in memory (f.0 / 4096)) (f.0 % 4096) 0 ≡ byte_in memory q
unfolding page_addresses
byte_of_page memory rs q f same at =
    let place = address_at-place rs q f at in
    let many = length-addresses_of rs in
    let sum : f.0 / 4096 * 4096 + f.0 % 4096 ≡ f.0 = omega arith in
    let within : f.0 / 4096 * 4096 + f.0 % 4096 < length (addresses_of rs) = omega (arith, place.1) in
    rw same (in_piece (byte_in memory) (addresses_of rs) 4096 (f.0 / 4096 * 4096) (f.0 % 4096) (omega arith) within ∙ ap (λ k. byte_in memory (get_or (addresses_of rs) k 0)) sum ∙ ap (byte_in memory) place.0)

same_some : (x y : Option ℕ) → is_some x ≡ is_some y → unwrap_or x 0 ≡ unwrap_or y 0 → x ≡ y
same_some None None is e = refl
same_some None (Some y) is e = absurd (cc)
same_some (Some x) None is e = absurd (cc)
same_some (Some x) (Some y) is e = ap (λ n. Some n) e

no_byte : (x : Option ℕ) → is_some x ≡ false → x ≡ None
no_byte None is = refl
no_byte (Some x) is = absurd (cc)

same_byte : (a b : Contents) → IsWhole a → IsWhole b → a.regions ≡ b.regions → ((page : ℕ) → page < page_count a.regions → page_in a page ≡ page_in b page) → (q : ℕ) → fin.get a.bytes q ≡ fin.get b.bytes q
same_byte a b whole_a whole_b same pages q = at (place_of a.regions q) refl
  where
    held : is_some (fin.get b.bytes q) ≡ is_some {T = ℕ × ℕ} (place_of a.regions q)
    held = whole_b q ∙ ap (λ rs. is_some (region_at rs q)) (sym same) ∙ sym (placed a.regions q)

    at : (o : Option (ℕ × ℕ)) → place_of a.regions q ≡ o → fin.get a.bytes q ≡ fin.get b.bytes q
    at None is =
        no_byte (fin.get a.bytes q) (whole_a q ∙ sym (placed a.regions q) ∙ ap (is_some {T = ℕ × ℕ}) is)
        ∙ sym (no_byte (fin.get b.bytes q) (held ∙ ap (is_some {T = ℕ × ℕ}) is))
    at (Some f) is =
        let less = (address_at-place a.regions q f is).1 in
        let byte : byte_in a q ≡ byte_in b q =
        sym (byte_of_page a a.regions q f refl is)
        ∙ ap (λ bytes. get_or bytes (f.0 % 4096) 0) (pages (f.0 / 4096) (omega arith))
        ∙ byte_of_page b a.regions q f (sym same) is in
        same_some (fin.get a.bytes q) (fin.get b.bytes q) (whole_a q ∙ sym (placed a.regions q) ∙ sym held) byte

pub same_pages : (a b : Contents) → IsWhole a → IsWhole b → a.regions ≡ b.regions → ((page : ℕ) → page < page_count a.regions → page_in a page ≡ page_in b page) → a ≡ b
same_pages a b whole_a whole_b same pages =
    let bytes = fin.same_map nat_cmp_total fin.nat_cmp-IsAntisymmetric a.bytes b.bytes (same_byte a b whole_a whole_b same pages) in
    λ i. record { regions = same i; bytes = bytes i }

-- ---- what is kept

pub kept_same : (a : Held) → IsKept a a
kept_same a = record { page = λ page _. refl; flag = λ page is. is }

pub kept_joined : (a b c : Held) → IsKept a b → IsKept b c → IsKept a c
kept_joined a b c one two = record {
  page = λ page clean. two.page page clean ∙ one.page page (two.flag page clean);
  flag = λ page clean. one.flag page (two.flag page clean);
}

kept_last : (held : Held) (later : List Held) → AreKept held later → IsKept held (last_of held later)
kept_last held [] are = kept_same held
kept_last held (now ∷ later) are = kept_joined held now (last_of now later) are.0 (kept_last now later are.1)

pub kept_page : (held : Held) (later : List Held) (page : ℕ) → AreKept (cleared held) later → flag (last_of (cleared held) later).dirty page ≡ false → page_in (last_of (cleared held) later).contents page ≡ page_in held.contents page
kept_page held later page are clean = (kept_last (cleared held) later are).page page clean

pub ruleset kept = (kept_same, kept_joined, kept_page)
