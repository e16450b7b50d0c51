-- What local variables claim, one after another.
use Rattle.std.proofs.Common.{◌≡◌, ℕ, suc, ◌+◌, ◌<◌, ◌≤◌, Bool, true, false, cond, Some, None, refl, arith, List, [], ◌∷◌, ◌++◌, Option, length, get_or, map, take, sym, ap, ◌∙◌, append_assoc, append-nil}
use Rattle.std.specs.Prelude.{bytes_eq, filter_map}
use Rattle.std.specs.Option.{option_map}
use Rattle.std.proofs.lemmas.Grind.{flat_map-append}
use Rattle.std.proofs.lemmas.List.{map-append, take_all, take_more}
use Rattle.std.proofs.lemmas.List.Elements.{filter_map-append}
use Rattle.om_base.specs.declared.span.Span.{Span}
use Rattle.om_claims.specs.declared.claim.Claim.{Claim}
use Rattle.om_names.specs.Around.{spans_by}
use Rattle.om_names.specs.ByName.{place_in}
use Rattle.om_names.specs.FoundList.{scoped_by}
use Rattle.om_names.specs.Stretches.{Claimed, all_claimed, claimed_by, claimed_if, claimed_in, claims_of, helds_of, stretch}
use Rattle.om_names.specs.Variables.{Scoped, name_of}
use Rattle.om_names.specs.declared.by_name.Seen.{Seen}
use Rattle.om_names.specs.declared.found.Found.{Found}
use Rattle.om_names.specs.declared.held.Held.{Held}
use Rattle.om_names.specs.declared.variable.Variable.{Variable}

-- what is made of elements, where it is made of lists end to end
module _ {X A : Type 0} (make : List X → List A) (joins : (xs ys : List X) → make (xs ++ ys) ≡ make xs ++ make ys) where
  one_more : (items : List X) (i : ℕ) (item d : X) (before old new : List A) → i < length items → item ≡ get_or items i d → old ≡ before ++ make (take i items) → new ≡ old ++ make (item ∷ []) → new ≡ before ++ make (take (i + 1) items)
  one_more items i item d before old new within at so_far more =
      more ∙ ap (λ xs. xs ++ make (item ∷ [])) so_far ∙ append_assoc before (make (take i items)) (make (item ∷ []))
      ∙ ap (λ xs. before ++ xs) (sym (joins (take i items) (item ∷ [])) ∙ ap (λ x. make (take i items ++ x ∷ [])) at ∙ ap make (sym (take_more items i d within)))

  all_made : (items : List X) (i : ℕ) (before old : List A) → length items ≤ i → old ≡ before ++ make (take i items) → old ≡ before ++ make items
  all_made items i before old past so_far = so_far ∙ ap (λ xs. before ++ make xs) (take_all i items past)

-- ---- ranges

claimed_of : (place : ℕ) (v : Variable) → List Span → List Claimed
claimed_of place v spans = map (claimed_by v) (filter_map (stretch place) spans)

claimed_joins : (place : ℕ) (v : Variable) (xs ys : List Span) → claimed_of place v (xs ++ ys) ≡ claimed_of place v xs ++ claimed_of place v ys
unfolding claimed_of
claimed_joins place v xs ys = ap (map (claimed_by v)) (filter_map-append (stretch place) xs ys) ∙ map-append (claimed_by v) (filter_map (stretch place) xs) (filter_map (stretch place) ys)

module _ (place : ℕ) (v : Variable) where
  claims_made : List Span → List Claim
  claims_made spans = claims_of (claimed_of place v spans)

  claims_join : (xs ys : List Span) → claims_made (xs ++ ys) ≡ claims_made xs ++ claims_made ys
  unfolding claims_made
  claims_join xs ys = ap claims_of (claimed_joins place v xs ys) ∙ map-append (λ (it : Claimed). it.claim) (claimed_of place v xs) (claimed_of place v ys)

  helds_made : List Span → List (Option Held)
  helds_made spans = helds_of (claimed_of place v spans)

  helds_join : (xs ys : List Span) → helds_made (xs ++ ys) ≡ helds_made xs ++ helds_made ys
  unfolding helds_made
  helds_join xs ys = ap helds_of (claimed_joins place v xs ys) ∙ map-append (λ (it : Claimed). it.held) (claimed_of place v xs) (claimed_of place v ys)

  pub claims_more : (spans : List Span) (i : ℕ) (span d : Span) (before old new : List Claim) → i < length spans → span ≡ get_or spans i d
      → old ≡ before ++ claims_of (map (claimed_by v) (filter_map (stretch place) (take i spans))) → new ≡ old ++ claims_of (map (claimed_by v) (filter_map (stretch place) (span ∷ [])))
      → new ≡ before ++ claims_of (map (claimed_by v) (filter_map (stretch place) (take (i + 1) spans)))
  unfolding claims_made claimed_of
  claims_more spans i span d before old new = one_more claims_made claims_join spans i span d before old new

  pub claims_all : (spans : List Span) (i : ℕ) (before old : List Claim) → length spans ≤ i → old ≡ before ++ claims_of (map (claimed_by v) (filter_map (stretch place) (take i spans)))
      → old ≡ before ++ claims_of (map (claimed_by v) (filter_map (stretch place) spans))
  unfolding claims_made claimed_of
  claims_all spans i before old = all_made claims_made claims_join spans i before old

  pub helds_more : (spans : List Span) (i : ℕ) (span d : Span) (before old new : List (Option Held)) → i < length spans → span ≡ get_or spans i d
      → old ≡ before ++ helds_of (map (claimed_by v) (filter_map (stretch place) (take i spans))) → new ≡ old ++ helds_of (map (claimed_by v) (filter_map (stretch place) (span ∷ [])))
      → new ≡ before ++ helds_of (map (claimed_by v) (filter_map (stretch place) (take (i + 1) spans)))
  unfolding helds_made claimed_of
  helds_more spans i span d before old new = one_more helds_made helds_join spans i span d before old new

  pub helds_all : (spans : List Span) (i : ℕ) (before old : List (Option Held)) → length spans ≤ i → old ≡ before ++ helds_of (map (claimed_by v) (filter_map (stretch place) (take i spans)))
      → old ≡ before ++ helds_of (map (claimed_by v) (filter_map (stretch place) spans))
  unfolding helds_made claimed_of
  helds_all spans i before old = all_made helds_made helds_join spans i before old

-- ---- variables

module _ (seen : List Seen) (ranges : List ℕ) where
  all_of : List Found → List Claimed
  all_of found = all_claimed seen (map (scoped_by ranges) found)

  all_join : (xs ys : List Found) → all_of (xs ++ ys) ≡ all_of xs ++ all_of ys
  unfolding all_of
  all_join xs ys = ap (all_claimed seen) (map-append (scoped_by ranges) xs ys) ∙ flat_map-append (claimed_in seen) (map (scoped_by ranges) xs) (map (scoped_by ranges) ys)

  all_one : (it : Found) → all_of (it ∷ []) ≡ claimed_in seen (scoped_by ranges it)
  unfolding all_of
  all_one it = append-nil (claimed_in seen (scoped_by ranges it))

  module _ {A : Type 0} (part : Claimed → A) where
    parts_of : List Found → List A
    parts_of found = map part (all_of found)

    parts_join : (xs ys : List Found) → parts_of (xs ++ ys) ≡ parts_of xs ++ parts_of ys
    unfolding parts_of
    parts_join xs ys = ap (map part) (all_join xs ys) ∙ map-append part (all_of xs) (all_of ys)

    pub parts_more : (found : List Found) (i : ℕ) (it d : Found) (old new : List A) → i < length found → it ≡ get_or found i d → old ≡ map part (all_claimed seen (map (scoped_by ranges) (take i found)))
        → new ≡ old ++ map part (claimed_in seen (scoped_by ranges it)) → new ≡ map part (all_claimed seen (map (scoped_by ranges) (take (i + 1) found)))
    unfolding parts_of all_of
    parts_more found i it d old new within at so_far more = one_more parts_of parts_join found i it d [] old new within at so_far (more ∙ ap (λ cs. old ++ map part cs) (sym (all_one it)))

    pub parts_all : (found : List Found) (i : ℕ) (old : List A) → length found ≤ i → old ≡ map part (all_claimed seen (map (scoped_by ranges) (take i found))) → old ≡ map part (all_claimed seen (map (scoped_by ranges) found))
    unfolding parts_of all_of
    parts_all found i old past so_far = all_made parts_of parts_join found i [] old past so_far

-- ---- one variable

-- what has no scope claims nothing
pub no_scope : (seen : List Seen) (ranges : List ℕ) (found : Found) → found.scope ≡ None → claimed_in seen (scoped_by ranges found) ≡ []
unfolding claimed_in
no_scope seen ranges found none = by (place_in (name_of found.variable) seen)
  where
    by : (o : Option ℕ) → claimed_if o (scoped_by ranges found) ≡ []
    by None = refl
    by (Some place) = ap (λ scope. map (claimed_by found.variable) (filter_map (stretch place) (spans_by ranges found.base scope))) none

-- nor does what has no place
pub no_place : (seen : List Seen) (it : Scoped) → None ≡ place_in (name_of it.variable) seen → claimed_in seen it ≡ []
unfolding claimed_in
no_place seen it none = ap (λ o. claimed_if o it) (sym none)

pub has_place : (seen : List Seen) (it : Scoped) (place : ℕ) → Some place ≡ place_in (name_of it.variable) seen → claimed_in seen it ≡ map (claimed_by it.variable) (filter_map (stretch place) it.scope)
unfolding claimed_in
has_place seen it place is = ap (λ o. claimed_if o it) (sym is)

-- a place is below the end
pub place_low : (seen : List Seen) (name : List ℕ) (place : ℕ) → Some place ≡ place_in name seen → place < length seen
unfolding place_in
place_low [] name place is = absurd cc
place_low (one ∷ seen) name place is = by (bytes_eq name one.name) is (λ p at. place_low seen name p at)
  where
    by : (b : Bool) → Some place ≡ cond b (Some 0) (option_map suc (place_in name seen)) → ((p : ℕ) → Some p ≡ place_in name seen → p < length seen) → place < suc (length seen)
    by true here later = let zero_is : place ≡ 0 = cc in omega (arith, zero_is)
    by false there later = behind (place_in name seen) refl there later
      where
        behind : (o : Option ℕ) → place_in name seen ≡ o → Some place ≡ option_map suc o → ((p : ℕ) → Some p ≡ place_in name seen → p < length seen) → place < suc (length seen)
        behind None is_none some rest = absurd cc
        behind (Some p) is_some some rest = let next : place ≡ suc p = cc in omega (arith, next, rest p (sym is_some))

pub nothing_more : {A : Type 0} (part : Claimed → A) (old : List A) (claimed : List Claimed) → claimed ≡ [] → old ≡ old ++ map part claimed
nothing_more part old claimed none = sym (append-nil old) ∙ ap (λ cs. old ++ map part cs) (sym none)
