-- What putting bytes in the place of a page does to memory.
use Rattle.std.proofs.Common.{◌≡◌, ◌≢◌, ℕ, ◌+◌, ◌-◌, ◌*◌, ◌/◌, ◌<◌, ◌≤◌, List, ◌++◌, length, take, drop, set, get_or, sum_by, Bool, true, min, refl, sym, ap, ◌∙◌, arith, inl, inr}
use Rattle.std.specs.Prelude.{None}
use Rattle.std.proofs.lemmas.List.{ext_get_or, append_assoc, length-append, length-take, length-drop, drop_at, take_min, get_or_append_left, get_or-append_right, get_or-take, get_or-drop}
use Rattle.std.proofs.lemmas.List.Edits.{sets-eq}
use Rattle.std.proofs.lemmas.Bool.{cases_lt}
use Rattle.om_mem.specs.Contents.{overlap_of, stored}
use Rattle.om_mem.specs.Laid.{laid, IsLaid}
use Rattle.om_mem.specs.Pages.{IsKept, addresses_of, page_addresses, page_count, page_in, with_page}
use Rattle.om_mem.specs.declared.region.Region.{Region}
use Rattle.om_mem.proofs.PageLemmas.{are_apart, length-addresses_of, page-laid, page-same, stored-laid, same_none, same_page, kept_from-same}

-- bytes with others in the place of as many from a place on
abbrev pub put_at : List ℕ → ℕ → List ℕ → List ℕ
put_at bs at new = take at bs ++ (new ++ drop (at + length new) bs)

pub length-put_at : (bs : List ℕ) (at : ℕ) (new : List ℕ) → at + length new ≤ length bs → length (put_at bs at new) ≡ length bs
length-put_at bs at new fits = simp (length-append, length-take, length-drop) (omega arith)

-- the bytes before and behind stay
get_or-put_below : (bs : List ℕ) (at : ℕ) (new : List ℕ) (k : ℕ) → at + length new ≤ length bs → k < at → get_or (put_at bs at new) k 0 ≡ get_or bs k 0
get_or-put_below bs at new k fits less =
    get_or_append_left (take at bs) (new ++ drop (at + length new) bs) 0 k (rw (length-take at bs) (omega arith)) ∙ get_or-take at bs k 0 less

get_or-put_above : (bs : List ℕ) (at : ℕ) (new : List ℕ) (k : ℕ) → at + length new ≤ length bs → at + length new ≤ k → get_or (put_at bs at new) k 0 ≡ get_or bs k 0
get_or-put_above bs at new k fits more =
    let front : length (take at bs) ≡ at = rw (length-take at bs) (omega arith) in
    let place : at + length new + (k - at - length new) ≡ k = omega arith in
    get_or-append_right (take at bs) (new ++ drop (at + length new) bs) at k 0 front (omega arith)
    ∙ get_or-append_right new (drop (at + length new) bs) (length new) (k - at) 0 refl (omega arith)
    ∙ get_or-drop (at + length new) bs (k - at - length new) 0
    ∙ ap (λ n. get_or bs n 0) place

-- the new bytes are those at the place
put-piece : (n : ℕ) (bs : List ℕ) (at : ℕ) (new : List ℕ) → at + length new ≤ length bs → length new ≡ min n (length bs - at) → take n (drop at (put_at bs at new)) ≡ new
put-piece n bs at new fits long =
    let front : length (take at bs) ≡ at = rw (length-take at bs) (omega arith) in
    let rest : length (drop (at + length new) bs) ≡ length bs - (at + length new) = length-drop (at + length new) bs in
    rw (drop_at (take at bs) (new ++ drop (at + length new) bs) at front) (
    ext_get_or 0 (take n (new ++ drop (at + length new) bs)) new (rw (length-take, length-append) (omega arith)) (λ i below.
    let less : i < length new = omega (arith, simp (length-take, length-append) at below) in
    get_or-take n (new ++ drop (at + length new) bs) i 0 (omega arith) ∙ get_or_append_left new (drop (at + length new) bs) 0 i less))

-- ---- pages

-- how many bytes a page has
pub length-page_addresses : (rs : List Region) (page : ℕ) → length (page_addresses rs page) ≡ min 4096 (sum_by (λ (r : Region). r.size) rs - page * 4096)
unfolding page_addresses
length-page_addresses rs page =
    long 4096 (page * 4096) (addresses_of rs) (sum_by (λ (r : Region). r.size) rs) (length-addresses_of rs)
  where
    long : (n at : ℕ) (xs : List ℕ) (all : ℕ) → length xs ≡ all → length (take n (drop at xs)) ≡ min n (all - at)
    long n at xs all e = rw (length-take, length-drop, e) refl

-- bytes for a page of memory that is laid out
pub record IsPage (rs : List Region) (bs : List ℕ) (page : ℕ) (new : List ℕ) : Type 0 where
  pub apart : overlap_of rs ≡ None
  pub whole : length bs ≡ sum_by (λ (r : Region). r.size) rs
  pub within : page < page_count rs
  pub long : length new ≡ length (page_addresses rs page)

pub page_given : (rs : List Region) (bs : List ℕ) (ds : List Bool) (page : ℕ) (new : List ℕ) → IsLaid rs bs ds → page < page_count (laid rs bs).regions → length new ≡ length (page_addresses (laid rs bs).regions page) → IsPage rs bs page new
unfolding laid
page_given rs bs ds page new is within long = record { apart = is.apart; whole = is.whole; within = within; long = long }

pub page_size : (rs : List Region) (bs : List ℕ) (page : ℕ) (new : List ℕ) → IsPage rs bs page new → length new ≡ min 4096 (length bs - page * 4096)
page_size rs bs page new is = is.long ∙ length-page_addresses rs page ∙ ap (λ n. min 4096 (n - page * 4096)) (sym is.whole)

pub page_fits : (rs : List Region) (bs : List ℕ) (page : ℕ) (new : List ℕ) → IsPage rs bs page new → page * 4096 + length new ≤ length bs
page_fits rs bs page new is =
    let size = page_size rs bs page new is in
    let whole = is.whole in
    let within = is.within in
    omega arith

-- to put bytes in the place of a page is to give memory this page
pub contents-put : (rs : List Region) (bs : List ℕ) (page : ℕ) (new : List ℕ) → IsPage rs bs page new → laid rs (put_at bs (page * 4096) new) ≡ with_page (laid rs bs) page new
unfolding laid page_addresses
contents-put rs bs page new is =
    ap (λ m. record { regions = rs; bytes = m }) (
    ap (λ xs. (laid rs xs).bytes) (sym (sets-eq new bs (page * 4096) fits ∙ append_assoc (take (page * 4096) bs) new (drop (page * 4096 + length new) bs)))
    ∙ sym (stored-laid rs new bs (page * 4096) (are_apart rs is.apart) is.whole fits)
    ∙ ap (λ xs. stored (laid rs bs).bytes xs new) (ap (λ n. take n (drop (page * 4096) (addresses_of rs))) is.long ∙ cut 4096 (drop (page * 4096) (addresses_of rs))))
  where
    fits : page * 4096 + length new ≤ length bs
    fits = page_fits rs bs page new is

    cut : (n : ℕ) (xs : List ℕ) → take (length (take n xs)) xs ≡ take n xs
    cut n xs = rw (length-take n xs) (take_min n xs)

-- the page is these bytes
pub page-put : (rs : List Region) (bs : List ℕ) (page : ℕ) (new : List ℕ) → IsPage rs bs page new → page_in (laid rs (put_at bs (page * 4096) new)) page ≡ new
page-put rs bs page new is =
    let fits = page_fits rs bs page new is in
    page-laid rs (put_at bs (page * 4096) new) page is.apart (length-put_at bs (page * 4096) new fits ∙ is.whole)
    ∙ put-piece 4096 bs (page * 4096) new fits (page_size rs bs page new is)

-- each byte of another page stays
elsewhere : (bs : List ℕ) (page : ℕ) (new : List ℕ) (k : ℕ) → page * 4096 + length new ≤ length bs → length new ≡ min 4096 (length bs - page * 4096) → k / 4096 ≢ page → get_or (put_at bs (page * 4096) new) k 0 ≡ get_or bs k 0
elsewhere bs page new k fits long other =
    elim (cases_lt k (page * 4096)) as (λ _. get_or (put_at bs (page * 4096) new) k 0 ≡ get_or bs k 0) [
      | inl less ↦ get_or-put_below bs (page * 4096) new k fits less
      | inr more ↦ elim (cases_lt k (page * 4096 + length new)) as (λ _. get_or (put_at bs (page * 4096) new) k 0 ≡ get_or bs k 0) [
        | inl less ↦ absurd (other (omega arith))
        | inr above ↦ get_or-put_above bs (page * 4096) new k fits above
      ]
    ]

-- the other pages stay
pub others-put : (rs : List Region) (bs : List ℕ) (page : ℕ) (new : List ℕ) (other : ℕ) → IsPage rs bs page new → other ≢ page → page_in (laid rs (put_at bs (page * 4096) new)) other ≡ page_in (laid rs bs) other
others-put rs bs page new other is apart =
    let fits = page_fits rs bs page new is in
    let long = length-put_at bs (page * 4096) new fits in
    page-laid rs (put_at bs (page * 4096) new) other is.apart (long ∙ is.whole)
    ∙ page-same (put_at bs (page * 4096) new) bs other long (λ k there. elsewhere bs page new k fits (page_size rs bs page new is) (λ here. apart (sym there ∙ here)))
    ∙ sym (page-laid rs bs other is.apart is.whole)

-- memory is kept but for this page, which is flagged
pub kept-put : (rs : List Region) (bs : List ℕ) (ds : List Bool) (page : ℕ) (new : List ℕ) → IsPage rs bs page new → IsKept (record { contents = laid rs bs; dirty = ds }) (record { contents = laid rs (put_at bs (page * 4096) new); dirty = set ds page true })
kept-put rs bs ds page new is =
    let fits = page_fits rs bs page new is in
    kept_from-same rs bs ds (put_at bs (page * 4096) new) (set ds page true) is.apart is.whole (length-put_at bs (page * 4096) new fits)
    (same_page bs ds bs ds (put_at bs (page * 4096) new) page (same_none bs ds) (λ k other. elsewhere bs page new k fits (page_size rs bs page new is) other))
