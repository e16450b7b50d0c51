-- The first row that has an address, by what rows claim.
use Rattle.std.proofs.Common.{◌≡◌, ℕ, suc, ◌+◌, Bool, true, false, cond, leb, ltb, ◌&&◌, List, [], ◌∷◌, ◌++◌, length, append_assoc, map, filter, Option, Some, None, Bor, refl, sym, ap, ◌∙◌, arith}
use Rattle.std.specs.Prelude.{find, position}
use Rattle.std.specs.List.{list_all, slice_get}
use Rattle.std.proofs.lemmas.List.{append-nil}
use Rattle.std.specs.Option.{option_and_then, option_copied, option_map}
use Rattle.std.specs.Slice.{IsItemAt}
use Rattle.std.proofs.lemmas.Option.{slice_get-get_or, slice_get-map, slice_get_past}
use Rattle.om_base.specs.declared.span.Span.{Span}
use Rattle.om_base.proofs.PlaceLemmas.{position_cons}
use Rattle.om_claims.specs.Claims.{holds, is_meant, meant_at}
use Rattle.om_claims.specs.declared.claim.Claim.{Claim}
use Rattle.om_line.specs.Claims.{claims_of}
use Rattle.om_line.specs.Lines.{ranged, row_at, span_of}
use Rattle.om_line.specs.declared.row.LineRow.{LineRow}

-- things with their addresses, as claims
abbrev pub claims_in : {X : Type 0} → List (X × Span) → List Claim
claims_in rows = map (λ r. record { span = r.1; depth = 0 }) rows

-- an address is one of those of a thing
abbrev pub has : {X : Type 0} → ℕ → X × Span → Bool
has address r = leb r.1.lo address && ltb address r.1.hi

-- of some claims none is deeper than 0
none_deeper : {X : Type 0} (rows : List (X × Span)) (address : ℕ) → list_all (λ other. leb other.depth 0) (filter (holds address) (claims_in rows)) ≡ true
none_deeper [] address = refl
none_deeper (r ∷ rows) address =
    elim (leb r.1.lo address && ltb address r.1.hi) as (λ b. list_all (λ other. leb other.depth 0) (cond b (record { span = r.1; depth = 0 } ∷ filter (holds address) (claims_in rows)) (filter (holds address) (claims_in rows))) ≡ true) [
      | true ↦ none_deeper rows address
      | false ↦ none_deeper rows address
    ]

and_true : (b c : Bool) → c ≡ true → (b && c) ≡ b
and_true true c is = is
and_true false c is = refl

-- the first that passes one of two tests that agree on claims of depth 0
same_place : {X : Type 0} (test : Claim → Bool) (address : ℕ) (rows : List (X × Span)) → ((span : Span) → test (record { span = span; depth = 0 }) ≡ holds address (record { span = span; depth = 0 }))
    → position test (claims_in rows) ≡ position (holds address) (claims_in rows)
same_place test address [] same = refl
same_place test address (r ∷ rows) same =
    position_cons test (record { span = r.1; depth = 0 }) (claims_in rows)
    ∙ ap (λ b. cond b (Some 0) (option_map (λ k. k + 1) (position test (claims_in rows)))) (same r.1)
    ∙ ap (λ o. cond (holds address (record { span = r.1; depth = 0 })) (Some 0) (option_map (λ k. k + 1) o)) (same_place test address rows same)
    ∙ sym (position_cons (holds address) (record { span = r.1; depth = 0 }) (claims_in rows))

first_meant : {X : Type 0} (rows : List (X × Span)) (address : ℕ) → meant_at (claims_in rows) address ≡ position (holds address) (claims_in rows)
unfolding meant_at
first_meant rows address =
    same_place (is_meant (claims_in rows) address) address rows (λ span. and_true (holds address (record { span = span; depth = 0 })) _ (none_deeper rows address))

-- the thing at a place
row_in : {X : Type 0} → List (X × Span) → ℕ → Option X
row_in rows place = option_map (λ r. r.0) (slice_get rows place)

next_by : {X : Type 0} (passes : Bool) (r : X × Span) (rows : List (X × Span)) (place : Option ℕ) (found : Option X) → option_and_then (row_in rows) place ≡ found
    → option_and_then (row_in (r ∷ rows)) (cond passes (Some 0) (option_map (λ k. k + 1) place)) ≡ cond passes (Some r.0) found
unfolding row_in
next_by true r rows place found is = refl
next_by false r rows None found is = is
next_by false r rows (Some k) found is = let next : k + 1 ≡ suc k = omega arith in rw next is

find_map : {X : Type 0} (b : Bool) (r : X × Span) (o : Option (X × Span)) → cond b (Some r.0) (option_map (λ x. x.0) o) ≡ option_map (λ x. x.0) (cond b (Some r) o)
find_map true r o = refl
find_map false r o = refl

found : {X : Type 0} (rows : List (X × Span)) (address : ℕ) → option_and_then (row_in rows) (position (holds address) (claims_in rows)) ≡ option_map (λ r. r.0) (find (has address) rows)
found [] address = refl
found (r ∷ rows) address =
    ap (option_and_then (row_in (r ∷ rows))) (position_cons (holds address) (record { span = r.1; depth = 0 }) (claims_in rows))
    ∙ next_by (leb r.1.lo address && ltb address r.1.hi) r rows (position (holds address) (claims_in rows)) _ (found rows address)
    ∙ find_map (leb r.1.lo address && ltb address r.1.hi) r (find (has address) rows)

-- the things alone
place_alone : {X : Type 0} (rows : List (X × Span)) (place : Option ℕ) → option_and_then (slice_get (map (λ r. r.0) rows)) place ≡ option_and_then (row_in rows) place
unfolding row_in
place_alone rows None = refl
place_alone rows (Some place) = slice_get-map (λ r. r.0) rows place

-- the thing whose claim is meant is the first that has the address
pub thing_meant : {X : Type 0} (rows : List (X × Span)) (address : ℕ) → option_and_then (slice_get (map (λ r. r.0) rows)) (meant_at (claims_in rows) address) ≡ option_map (λ r. r.0) (find (has address) rows)
thing_meant rows address =
    place_alone rows (meant_at (claims_in rows) address)
    ∙ ap (option_and_then (row_in rows)) (first_meant rows address)
    ∙ found rows address

-- rows with their addresses are these rows
pub rows_alone : (rows : List LineRow) → map (λ r. r.0) (ranged rows) ≡ rows
unfolding ranged
rows_alone [] = refl
rows_alone (row ∷ rows) = ap (λ rs. row ∷ rs) (rows_alone rows)

pub row_meant : (rows : List LineRow) (address : ℕ) → option_and_then (slice_get rows) (meant_at (claims_of rows) address) ≡ row_at rows address
row_meant rows address =
    ap (λ rs. option_and_then (slice_get rs) (meant_at (claims_of rows) address)) (sym (rows_alone rows))
    ∙ thing_meant (ranged rows) address

-- ---- claims so far

pub claim_first : (row : LineRow) (rows : List LineRow) → claims_of (row ∷ rows) ≡ record { span = span_of row rows; depth = 0 } ∷ claims_of rows
unfolding ranged
claim_first row rows = refl

pub one_more : (all claims more : List Claim) (rest rows : List LineRow) (row : LineRow) (span : Span) → all ≡ claims ++ claims_of rest → rest ≡ row ∷ rows → span ≡ span_of row rows
    → more ≡ claims ++ record { span = span; depth = 0 } ∷ [] → all ≡ more ++ claims_of rows
one_more all claims more rest rows row span so_far next is pushed =
    so_far ∙ ap (λ rs. claims ++ claims_of rs) next ∙ ap (λ cs. claims ++ cs) (claim_first row rows)
    ∙ sym (append_assoc claims (record { span = span_of row rows; depth = 0 } ∷ []) (claims_of rows))
    ∙ ap (λ s. (claims ++ record { span = s; depth = 0 } ∷ []) ++ claims_of rows) (sym is)
    ∙ ap (λ cs. cs ++ claims_of rows) (sym pushed)

pub no_more : (all claims : List Claim) (rest : List LineRow) → all ≡ claims ++ claims_of rest → length rest ≡ 0 → claims ≡ all
unfolding ranged
no_more all claims [] so_far none = sym (so_far ∙ append-nil claims)
no_more all claims (row ∷ rest) so_far none = absurd (omega (arith, none))

-- ---- rows by their places

-- an element that is lent
pub lent : {X : Type 0} (rows : List X) (place : ℕ) (r : Option (Bor X)) → IsItemAt rows place r → option_copied r ≡ slice_get rows place
lent rows place None is = sym (slice_get_past rows place is.3)
lent rows place (Some row) is = ap Some is.1 ∙ sym (slice_get-get_or rows place row.now is.3.0)

pub row_by_place : (rows : List LineRow) (pc address : ℕ) (owner : Option ℕ) (row : Option LineRow) → address ≡ pc → owner ≡ meant_at (claims_of rows) address → row ≡ option_and_then (slice_get rows) owner → row ≡ row_at rows pc
row_by_place rows pc address owner row same is found_is = found_is ∙ ap (option_and_then (slice_get rows)) is ∙ row_meant rows address ∙ ap (row_at rows) same
