-- The first row that has an address, by what rows claim.
use Rattle.std.proofs.Common.{◌≡◌, ℕ, suc, ◌+◌, Bool, true, false, cond, leb, ltb, ◌&&◌, List, [], ◌∷◌, map, filter, Option, Some, None, refl, sym, ap, ◌∙◌, arith}
use Rattle.std.specs.Prelude.{ℤ, find, position}
use Rattle.std.specs.List.{list_all, slice_get}
use Rattle.std.specs.Option.{option_and_then, option_map}
use Rattle.std.proofs.lemmas.Option.{slice_get-map}
use Rattle.om_base.specs.declared.span.Span.{Span}
use Rattle.om_base.proofs.PlaceLemmas.{position_cons}
use Rattle.om_claims.specs.Claims.{holds, is_meant, meant_at}
use Rattle.om_claims.specs.declared.claim.Claim.{Claim}
use Rattle.om_cfi.specs.Rows.{Row, claims_in}

-- an address is one of those of a row
abbrev pub has_row : ℕ → Row → Bool
has_row address r = leb r.1.lo address && ltb address r.1.hi

-- of some claims none is deeper than 0
none_deeper : (rows : List Row) (address : ℕ) → list_all (λ other. leb other.depth 0) (filter (holds address) (claims_in rows)) ≡ true
none_deeper [] address = refl
none_deeper (r ∷ rows) address =
    elim (leb r.1.lo address && ltb address r.1.hi) as (λ b. list_all (λ other. leb other.depth 0) (cond b (record { span = r.1; depth = 0 } ∷ filter (holds address) (claims_in rows)) (filter (holds address) (claims_in rows))) ≡ true) [
      | true ↦ none_deeper rows address
      | false ↦ none_deeper rows address
    ]

and_true : (b c : Bool) → c ≡ true → (b && c) ≡ b
and_true true c is = is
and_true false c is = refl

-- the first that passes one of two tests that agree on claims of depth 0
same_place : (test : Claim → Bool) (address : ℕ) (rows : List Row) → ((span : Span) → test (record { span = span; depth = 0 }) ≡ holds address (record { span = span; depth = 0 }))
    → position test (claims_in rows) ≡ position (holds address) (claims_in rows)
same_place test address [] same = refl
same_place test address (r ∷ rows) same =
    position_cons test (record { span = r.1; depth = 0 }) (claims_in rows)
    ∙ ap (λ b. cond b (Some 0) (option_map (λ k. k + 1) (position test (claims_in rows)))) (same r.1)
    ∙ ap (λ o. cond (holds address (record { span = r.1; depth = 0 })) (Some 0) (option_map (λ k. k + 1) o)) (same_place test address rows same)
    ∙ sym (position_cons (holds address) (record { span = r.1; depth = 0 }) (claims_in rows))

first_meant : (rows : List Row) (address : ℕ) → meant_at (claims_in rows) address ≡ position (holds address) (claims_in rows)
unfolding meant_at
first_meant rows address =
    same_place (is_meant (claims_in rows) address) address rows (λ span. and_true (holds address (record { span = span; depth = 0 })) _ (none_deeper rows address))

-- the thing at a place
row_in : List Row → ℕ → Option (Option (ℕ × ℤ))
row_in rows place = option_map (λ r. r.0) (slice_get rows place)

next_by : (passes : Bool) (r : Row) (rows : List Row) (place : Option ℕ) (found : Option (Option (ℕ × ℤ))) → option_and_then (row_in rows) place ≡ found
    → option_and_then (row_in (r ∷ rows)) (cond passes (Some 0) (option_map (λ k. k + 1) place)) ≡ cond passes (Some r.0) found
unfolding row_in
next_by true r rows place found is = refl
next_by false r rows None found is = is
next_by false r rows (Some k) found is = let next : k + 1 ≡ suc k = omega arith in rw next is

find_map : (b : Bool) (r : Row) (o : Option Row) → cond b (Some r.0) (option_map (λ x. x.0) o) ≡ option_map (λ x. x.0) (cond b (Some r) o)
find_map true r o = refl
find_map false r o = refl

found : (rows : List Row) (address : ℕ) → option_and_then (row_in rows) (position (holds address) (claims_in rows)) ≡ option_map (λ r. r.0) (find (has_row address) rows)
found [] address = refl
found (r ∷ rows) address =
    ap (option_and_then (row_in (r ∷ rows))) (position_cons (holds address) (record { span = r.1; depth = 0 }) (claims_in rows))
    ∙ next_by (leb r.1.lo address && ltb address r.1.hi) r rows (position (holds address) (claims_in rows)) _ (found rows address)
    ∙ find_map (leb r.1.lo address && ltb address r.1.hi) r (find (has_row address) rows)

-- the things alone
place_alone : (rows : List Row) (place : Option ℕ) → option_and_then (slice_get (map (λ r. r.0) rows)) place ≡ option_and_then (row_in rows) place
unfolding row_in
place_alone rows None = refl
place_alone rows (Some place) = slice_get-map (λ r. r.0) rows place

-- the thing whose claim is meant is the first that has the address
pub thing_meant : (rows : List Row) (address : ℕ) → option_and_then (slice_get (map (λ r. r.0) rows)) (meant_at (claims_in rows) address) ≡ option_map (λ r. r.0) (find (has_row address) rows)
thing_meant rows address =
    place_alone rows (meant_at (claims_in rows) address)
    ∙ ap (option_and_then (row_in rows)) (first_meant rows address)
    ∙ found rows address
