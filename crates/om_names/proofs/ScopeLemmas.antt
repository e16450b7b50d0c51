-- The local variable that a name means is the one that its stretch has.
use Rattle.std.proofs.Common.{◌≡◌, ◌⊎◌, ℕ, ◌^◌, ◌<◌, ◌≤◌, Bool, true, false, ◌&&◌, ◌||◌, leb, ltb, List, [], ◌∷◌, map, Option, Some, None, refl, sym, ap, ◌∙◌, inl, inr, arith, true≢false}
use Rattle.std.specs.Prelude.{All, bytes_eq, filter, filter_map, find, slice_get}
use Rattle.std.specs.List.{list_all, list_any}
use Rattle.std.specs.Option.{option_and_then, option_flatten, option_map}
use Rattle.std.specs.Cmp.Lexicographic.{bytes_decides, nat_list_eq_equiv}
use Rattle.std.proofs.Math.Path.{fun_ext}
use Rattle.std.proofs.lemmas.Bool.{cases_lt, le-leb, le-ltb, lt-leb, lt-ltb}
use Rattle.std.proofs.lemmas.List.Elements.{All-cons, All-nil}
use Rattle.std.proofs.lemmas.List.Folds.{list_all-map}
use Rattle.om_base.specs.declared.span.Span.{Span}
use Rattle.om_claims.specs.Claims.{holds, meant_at}
use Rattle.om_claims.specs.declared.claim.Claim.{Claim}
use Rattle.om_names.specs.ByName.{place_in, seen_in}
use Rattle.om_names.specs.Ranges.{hold}
use Rattle.om_names.specs.Stretches.{Claimed, all_claimed, claimed_by, claimed_if, claimed_in, claims_of, cut, helds_of, in_stretch, stretch}
use Rattle.om_names.specs.Variables.{Scoped, deepest, depth_of, founds, is_in_scope, local_held, name_of, names_in}
use Rattle.om_names.specs.declared.by_name.Seen.{Seen}
use Rattle.om_names.specs.declared.variable.Variable.{Variable}
use Rattle.om_names.proofs.CatalogLemmas.{one_name, place_is}
use Rattle.om_names.proofs.DeepestLemmas.{beside, deepest_claim, filter_map_of}

-- ---- one range in a stretch

-- a claim has an address
has_claim : ℕ → Claimed → Bool
has_claim address it = holds address it.claim

in_same : (place lo pc : ℕ) → leb (in_stretch place lo) (in_stretch place pc) ≡ leb lo pc
in_same place lo pc =
    elim (cases_lt pc lo) [
      | inl less ↦ rw (lt-leb lo pc less, lt-leb (in_stretch place lo) (in_stretch place pc) (omega (arith, less))) refl
      | inr more ↦ rw (le-leb lo pc more, le-leb (in_stretch place lo) (in_stretch place pc) (omega (arith, more))) refl
    ]

below_same : (place hi pc : ℕ) → ltb (in_stretch place pc) (in_stretch place hi) ≡ ltb pc hi
below_same place hi pc =
    elim (cases_lt pc hi) [
      | inl less ↦ rw (lt-ltb pc hi less, lt-ltb (in_stretch place pc) (in_stretch place hi) (omega (arith, less))) refl
      | inr more ↦ rw (le-ltb pc hi more, le-ltb (in_stretch place pc) (in_stretch place hi) (omega (arith, more))) refl
    ]

cut_low : (hi : ℕ) → cut hi ≤ 2 ^ 32
cut_low hi =
    elim (cases_lt (2 ^ 32) hi) [
      | inl less ↦ rw (lt-ltb (2 ^ 32) hi less) (omega arith)
      | inr more ↦ rw (le-ltb (2 ^ 32) hi more) more
    ]

below_cut : (hi pc : ℕ) → pc < 2 ^ 32 → ltb pc (cut hi) ≡ ltb pc hi
below_cut hi pc small =
    elim (cases_lt (2 ^ 32) hi) [
      | inl less ↦ rw (lt-ltb (2 ^ 32) hi less, lt-ltb pc (2 ^ 32) small, lt-ltb pc hi (omega (arith, less, small))) refl
      | inr more ↦ rw (le-ltb (2 ^ 32) hi more) refl
    ]

-- no address is in an empty range
none_in : (lo hi pc : ℕ) → hi ≤ lo → (leb lo pc && ltb pc hi) ≡ false
none_in lo hi pc empty =
    elim (cases_lt pc hi) [
      | inl less ↦ rw (lt-leb lo pc (omega (arith, less, empty))) refl
      | inr more ↦ rw (le-ltb pc hi more) (and_none (leb lo pc))
    ]
  where
    and_none : (b : Bool) → (b && false) ≡ false
    and_none true = refl
    and_none false = refl

-- ---- the ranges of a scope in a stretch

module _ (v : Variable) where
  -- ... of a name's own
  same_stretch : (place pc : ℕ) → pc < 2 ^ 32 → (spans : List Span) → list_any (has_claim (in_stretch place pc)) (map (claimed_by v) (filter_map (stretch place) spans)) ≡ hold spans pc
  unfolding stretch has_claim
  same_stretch place pc small [] = refl
  same_stretch place pc small (span ∷ spans) = by (cases_lt span.lo (cut span.hi)) (same_stretch place pc small spans)
    where
      by : (span.lo < cut span.hi) ⊎ (cut span.hi ≤ span.lo) → list_any (has_claim (in_stretch place pc)) (map (claimed_by v) (filter_map (stretch place) spans)) ≡ hold spans pc
          → list_any (has_claim (in_stretch place pc)) (map (claimed_by v) (filter_map (stretch place) (span ∷ spans))) ≡ ((leb span.lo pc && ltb pc span.hi) || hold spans pc)
      by (inl less) later =
          rw (lt-ltb span.lo (cut span.hi) less)
          (ap (λ b. (b && ltb (in_stretch place pc) (in_stretch place (cut span.hi))) || list_any (has_claim (in_stretch place pc)) (map (claimed_by v) (filter_map (stretch place) spans))) (in_same place span.lo pc)
          ∙ ap (λ b. (leb span.lo pc && b) || list_any (has_claim (in_stretch place pc)) (map (claimed_by v) (filter_map (stretch place) spans))) (below_same place (cut span.hi) pc ∙ below_cut span.hi pc small)
          ∙ ap (λ b. (leb span.lo pc && ltb pc span.hi) || b) later)
      by (inr more) later =
          rw (le-ltb span.lo (cut span.hi) more)
          (later ∙ ap (λ b. b || hold spans pc) (sym (ap (λ b. leb span.lo pc && b) (sym (below_cut span.hi pc small)) ∙ none_in span.lo (cut span.hi) pc more)))

  -- ... of another name
  other_span : (p place pc lo hi : ℕ) → (p < place) ⊎ (place < p) → pc < 2 ^ 32 → hi ≤ 2 ^ 32 → (leb (in_stretch p lo) (in_stretch place pc) && ltb (in_stretch place pc) (in_stretch p hi)) ≡ false
  other_span p place pc lo hi (inl less) small short =
      let past : in_stretch p hi ≤ in_stretch place pc = omega (arith, less, small, short) in
      rw (le-ltb (in_stretch place pc) (in_stretch p hi) past) (and_none (leb (in_stretch p lo) (in_stretch place pc)))
    where
      and_none : (b : Bool) → (b && false) ≡ false
      and_none true = refl
      and_none false = refl
  other_span p place pc lo hi (inr more) small short =
      let before : in_stretch place pc < in_stretch p lo = omega (arith, more, small, short) in
      rw (lt-leb (in_stretch p lo) (in_stretch place pc) before) refl

  other_stretch : (p place pc : ℕ) → (p < place) ⊎ (place < p) → pc < 2 ^ 32 → (spans : List Span) → list_any (has_claim (in_stretch place pc)) (map (claimed_by v) (filter_map (stretch p) spans)) ≡ false
  unfolding stretch has_claim
  other_stretch p place pc apart small [] = refl
  other_stretch p place pc apart small (span ∷ spans) = by (ltb span.lo (cut span.hi)) refl (other_stretch p place pc apart small spans)
    where
      by : (b : Bool) → ltb span.lo (cut span.hi) ≡ b → list_any (has_claim (in_stretch place pc)) (map (claimed_by v) (filter_map (stretch p) spans)) ≡ false
          → list_any (has_claim (in_stretch place pc)) (map (claimed_by v) (filter_map (stretch p) (span ∷ spans))) ≡ false
      by true is later =
          rw is (ap (λ b. b || list_any (has_claim (in_stretch place pc)) (map (claimed_by v) (filter_map (stretch p) spans))) (other_span p place pc span.lo (cut span.hi) apart small (cut_low span.hi)) ∙ later)
      by false is later = rw is later

-- ---- the claims of a variable

apart_by : (p place : ℕ) → (p ≡ place) ⊎ ((p < place) ⊎ (place < p))
apart_by p place =
    elim (cases_lt p place) [
      | inl less ↦ inr (inl less)
      | inr more ↦ elim (cases_lt place p) [
        | inl less ↦ inr (inr less)
        | inr same ↦ inl (omega (arith, more, same))
      ]
    ]

module _ (variables : List Variable) (place : ℕ) (name : List ℕ) (at : slice_get (names_in variables) place ≡ Some name) (pc : ℕ) (small : pc < 2 ^ 32) where
  is_named : (other : List ℕ) → bytes_eq name other ≡ true → place_in other (seen_in variables) ≡ Some place
  is_named other same = let e : name ≡ other = (bytes_decides name other).0 same in ap (λ n. place_in n (seen_in variables)) (sym e) ∙ place_is variables place name at

  -- a variable has a claim to the address of the stretch exactly where it has the name and is in scope
  any_claim : (it : Scoped) → list_any (has_claim (in_stretch place pc)) (claimed_in (seen_in variables) it) ≡ is_in_scope name pc it
  unfolding claimed_in
  any_claim it = by (place_in (name_of it.variable) (seen_in variables)) refl (bytes_eq name (name_of it.variable)) refl ∙ ap (λ b. b && (bytes_eq name (name_of it.variable) && hold it.scope pc)) (sym (lt-ltb pc (2 ^ 32) small))
    where
      no_place : place_in (name_of it.variable) (seen_in variables) ≡ None → bytes_eq name (name_of it.variable) ≡ true → ⊥
      no_place none same = let both : None ≡ Some place = sym none ∙ is_named (name_of it.variable) same in cc

      other : (p : ℕ) → place_in (name_of it.variable) (seen_in variables) ≡ Some p → bytes_eq name (name_of it.variable) ≡ false → p ≡ place → ⊥
      other p found apart same =
          let e : name_of it.variable ≡ name = one_name (seen_in variables) place (name_of it.variable) name (found ∙ ap Some same) (place_is variables place name at) in
          true≢false (sym (nat_list_eq_equiv.refl name) ∙ ap (bytes_eq name) (sym e) ∙ apart)

      here : (p : ℕ) → place_in (name_of it.variable) (seen_in variables) ≡ Some p → bytes_eq name (name_of it.variable) ≡ true → p ≡ place
      here p found same = let both : Some p ≡ Some place = sym found ∙ is_named (name_of it.variable) same in cc

      by : (o : Option ℕ) → place_in (name_of it.variable) (seen_in variables) ≡ o → (b : Bool) → bytes_eq name (name_of it.variable) ≡ b
          → list_any (has_claim (in_stretch place pc)) (claimed_if (place_in (name_of it.variable) (seen_in variables)) it) ≡ (bytes_eq name (name_of it.variable) && hold it.scope pc)
      by None found true same = absurd (no_place found same)
      by None found false apart = rw (found, apart) refl
      by (Some p) found true same =
          rw (found, same) (ap (λ q. list_any (has_claim (in_stretch place pc)) (map (claimed_by it.variable) (filter_map (stretch q) it.scope))) (here p found same) ∙ same_stretch it.variable place pc small it.scope)
      by (Some p) found false apart = rw (found, apart) (elim (apart_by p place) [
        | inl same ↦ absurd (other p found apart same)
        | inr sides ↦ other_stretch it.variable p place pc sides small it.scope
      ])

-- all are as deep, and where the variable is
all_alike : {A : Type 0} (f : Claimed → A) (a : A) (v : Variable) (spans : List Span) → ((span : Span) → f (claimed_by v span) ≡ a) → All (λ c. f c ≡ a) (map (claimed_by v) spans)
all_alike f a v [] is = All-nil (λ c. f c ≡ a)
all_alike f a v (span ∷ spans) is = All-cons (λ c. f c ≡ a) (claimed_by v span) (map (claimed_by v) spans) (is span) (all_alike f a v spans is)

alike_if : {A : Type 0} (f : Claimed → A) (a : A) (o : Option ℕ) (it : Scoped) → ((span : Span) → f (claimed_by it.variable span) ≡ a) → All (λ c. f c ≡ a) (claimed_if o it)
alike_if f a None it is = All-nil (λ c. f c ≡ a)
alike_if f a (Some place) it is = all_alike f a it.variable (filter_map (stretch place) it.scope) is

depths_in : (seen : List Seen) (it : Scoped) → All (λ c. c.claim.depth ≡ depth_of it.variable) (claimed_in seen it)
unfolding claimed_in
depths_in seen it = alike_if (λ c. c.claim.depth) (depth_of it.variable) (place_in (name_of it.variable) seen) it (λ span. refl)

helds_in : (seen : List Seen) (it : Scoped) → All (λ c. c.held ≡ local_held it.variable) (claimed_in seen it)
unfolding claimed_in
helds_in seen it = alike_if (λ c. c.held) (local_held it.variable) (place_in (name_of it.variable) seen) it (λ span. refl)

-- ---- what is meant

flattened : {A B : Type 0} (f : A → Option B) (found : Option A) → option_flatten (option_map f found) ≡ option_and_then f found
flattened f None = refl
flattened f (Some x) = refl

-- the claims that are meant, as they are made
meant_claim : (address : ℕ) (cs : List Claimed) → option_and_then (slice_get (helds_of cs)) (meant_at (claims_of cs) address)
    ≡ option_map (λ c. c.held) (find (λ c. has_claim address c && list_all (λ o. leb o.claim.depth c.claim.depth) (filter (has_claim address) cs)) cs)
unfolding meant_at has_claim
meant_claim address cs =
    beside (λ (c : Claimed). c.claim) (λ c. c.held) (λ claim. holds address claim && list_all (λ other. leb other.depth claim.depth) (filter (holds address) (claims_of cs))) cs
    ∙ ap (λ deep. option_map (λ (c : Claimed). c.held) (find (λ c. holds address c.claim && deep c.claim.depth) cs))
    (fun_ext (λ d. ap (list_all (λ (other : Claim). leb other.depth d)) (filter_map_of (holds address) (λ (c : Claimed). c.claim) cs)
    ∙ list_all-map (λ (other : Claim). leb other.depth d) (λ (c : Claimed). c.claim) (filter (λ c. holds address c.claim) cs)))

pub local_is : (scoped : List Scoped) (place : ℕ) (name : List ℕ) (pc : ℕ) → slice_get (names_in (founds scoped)) place ≡ Some name → pc < 2 ^ 32
    → option_flatten (option_and_then (slice_get (helds_of (all_claimed (seen_in (founds scoped)) scoped))) (meant_at (claims_of (all_claimed (seen_in (founds scoped)) scoped)) (in_stretch place pc)))
    ≡ option_and_then (λ it. local_held it.variable) (deepest (filter (is_in_scope name pc) scoped))
local_is scoped place name pc at small =
    ap option_flatten
    (meant_claim (in_stretch place pc) (all_claimed (seen_in (founds scoped)) scoped)
    ∙ deepest_claim (claimed_in (seen_in (founds scoped))) (has_claim (in_stretch place pc)) (is_in_scope name pc) (λ c. c.claim.depth) (λ it. depth_of it.variable) (λ c. c.held) (λ it. local_held it.variable)
    (any_claim (founds scoped) place name at pc small) (depths_in (seen_in (founds scoped))) (helds_in (seen_in (founds scoped))) scoped)
    ∙ flattened (λ it. local_held it.variable) (deepest (filter (is_in_scope name pc) scoped))
