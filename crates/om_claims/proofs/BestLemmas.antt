-- The claim that is meant, of the claims from a place up to another.
use Rattle.std.proofs.Common.{◌≡◌, ℕ, zero, suc, ◌+◌, ◌<◌, ◌≤◌, Bool, true, false, cond, ltb, leb, ◌&&◌, List, [], ◌∷◌, length, get_or, filter, Option, Some, None, refl, sym, ap, subst, ◌∙◌, inl, inr, arith}
use Rattle.std.specs.Prelude.{position}
use Rattle.std.specs.List.{list_all, slice_get}
use Rattle.std.specs.Option.{option_map}
use Rattle.std.proofs.lemmas.Bool.{cases_Bool, cases_lt, le-leb, lt-leb, le-ltb, lt-ltb}
use Rattle.std.proofs.lemmas.Bool.Decides.{nat_tests}
use Rattle.std.proofs.lemmas.Option.{slice_get-get_or}
use Rattle.om_base.proofs.PlaceLemmas.{position_cons}
use Rattle.om_claims.specs.Claims.{holds, is_meant, meant_at}
use Rattle.om_claims.specs.Merging.{ArePiecesOf, IsBest, deeper, depth_at, depth_of, joined, merged, passes, passes_at, pieces_of}
use Rattle.om_claims.specs.Pieces.{AreTidy, IsIndexOf, owner_after, owner_in}
use Rattle.om_claims.specs.declared.claim.Claim.{Claim}
use Rattle.om_claims.specs.declared.piece.Piece.{Piece}
use Rattle.om_claims.proofs.MergeLemmas.{joined_length, joined_tells, joined_tidy, merged_length, merged_rise, merged_tells}
use Rattle.om_claims.proofs.PieceLemmas.{tidy_rise}

-- ---- two stretches of claims

-- a thing, where a test passes
abbrev if_some : Bool → ℕ → Option ℕ
if_some true n = Some n
if_some false n = None

no_both : (b : Bool) → b ≡ true → b ≡ false → ⊥
no_both b yes_ no_ = cc

pub best_of_two : (claims : List Claim) (low middle high address : ℕ) (one other : Option ℕ) → low ≤ middle → middle ≤ high
    → IsBest claims low middle address one → IsBest claims middle high address other → IsBest claims low high address (deeper claims one other)
unfolding deeper
best_of_two claims low middle high address None None up on one other = λ j above below.
    elim (cases_lt j middle) [
      | inl lt ↦ one j above lt
      | inr ge ↦ other j ge below
    ]
best_of_two claims low middle high address None (Some b) up on one other = record {
  above = omega (arith, up, other.above);
  below = other.below;
  held = other.held;
  deepest = λ j above below held. elim (cases_lt j middle) [
    | inl lt ↦ absurd (no_both _ held (one j above lt))
    | inr ge ↦ other.deepest j ge below held
  ];
  first = λ j above below held. elim (cases_lt j middle) [
    | inl lt ↦ absurd (no_both _ held (one j above lt))
    | inr ge ↦ other.first j ge below held
  ];
}
best_of_two claims low middle high address (Some a) None up on one other = record {
  above = one.above;
  below = omega (arith, on, one.below);
  held = one.held;
  deepest = λ j above below held. elim (cases_lt j middle) [
    | inl lt ↦ one.deepest j above lt held
    | inr ge ↦ absurd (no_both _ held (other j ge below))
  ];
  first = one.first;
}
best_of_two claims low middle high address (Some a) (Some b) up on one other =
    elim (cases_lt (depth_at claims a) (depth_at claims b)) [
      | inl less ↦ rw (lt-ltb (depth_at claims a) (depth_at claims b) less) (record {
        above = omega (arith, up, other.above);
        below = other.below;
        held = other.held;
        deepest = λ j above below held. elim (cases_lt j middle) [
          | inl lt ↦ let deep : depth_at claims j ≤ depth_at claims a = one.deepest j above lt held in omega (arith, deep, less)
          | inr ge ↦ other.deepest j ge below held
        ];
        first = λ j above below held. elim (cases_lt j middle) [
          | inl lt ↦ let deep : depth_at claims j ≤ depth_at claims a = one.deepest j above lt held in omega (arith, deep, less)
          | inr ge ↦ other.first j ge below held
        ];
      })
      | inr more ↦ rw (le-ltb (depth_at claims a) (depth_at claims b) more) (record {
        above = one.above;
        below = omega (arith, on, one.below);
        held = one.held;
        deepest = λ j above below held. elim (cases_lt j middle) [
          | inl lt ↦ one.deepest j above lt held
          | inr ge ↦ let deep : depth_at claims j ≤ depth_at claims b = other.deepest j ge below held in omega (arith, deep, more)
        ];
        first = one.first;
      })
    ]

-- ---- no claim and one

pub no_pieces : (claims : List Claim) (low high : ℕ) (pieces : List Piece) → low ≡ high → pieces ≡ [] → ArePiecesOf claims low high pieces
unfolding AreTidy owner_after
no_pieces claims low high pieces same none =
    rw none (record { tidy = tt; tells = λ address j above below. absurd (omega (arith, same, above, below)); size = omega arith })

alone : (claims : List Claim) (low address : ℕ) (claim : Claim) → slice_get claims low ≡ Some claim
    → IsBest claims low (suc low) address (if_some (holds address claim) low)
alone claims low address claim is =
    elim (cases_Bool (holds address claim)) [
      | inl held ↦ rw held (record {
        above = omega arith;
        below = omega arith;
        held = rw is held;
        deepest = λ j above below also. let same : j ≡ low = omega (arith, above, below) in rw same (omega arith);
        first = λ j above below also. absurd (omega (arith, above, below));
      })
      | inr not_held ↦ rw not_held (λ j above below. let same : j ≡ low = omega (arith, above, below) in rw (same, is) not_held)
    ]

some_claim : (lo hi address place : ℕ) → lo < hi → cond (ltb address lo) None (cond (ltb address hi) (Some place) None) ≡ if_some (leb lo address && ltb address hi) place
some_claim lo hi address place some = grind (arith, nat_tests)

no_claim : (lo hi address place : ℕ) → hi ≤ lo → None ≡ if_some (leb lo address && ltb address hi) place
no_claim lo hi address place none = grind (arith, nat_tests)

some_differs : (place : ℕ) → Some place ≡ None → ⊥
some_differs place same = cc

none_differs : (place : ℕ) → None ≡ Some place → ⊥
none_differs place same = cc

one_by : (claims : List Claim) (low : ℕ) (claim : Claim) → slice_get claims low ≡ Some claim → ArePiecesOf claims low (suc low) (pieces_of low claim)
unfolding AreTidy owner_after
one_by claims low claim is =
    elim (cases_lt claim.span.lo claim.span.hi) [
      | inl some ↦ rw (lt-ltb claim.span.lo claim.span.hi some) (record {
        tidy = (omega arith, some_differs low, (omega (arith, some), none_differs low, tt));
        tells = λ address. subst (IsBest claims low (suc low) address) (sym (some_claim claim.span.lo claim.span.hi address low some)) (alone claims low address claim is);
        size = omega arith;
      })
      | inr none ↦ rw (le-ltb claim.span.lo claim.span.hi none) (record {
        tidy = tt;
        tells = λ address. subst (IsBest claims low (suc low) address) (sym (no_claim claim.span.lo claim.span.hi address low none)) (alone claims low address claim is);
        size = omega arith;
      })
    ]

pub one_claim : (claims : List Claim) (low high : ℕ) (claim d : Claim) (pieces : List Piece) → low + 1 ≡ high → high ≤ length claims → claim ≡ get_or claims low d → pieces ≡ pieces_of low claim
    → ArePiecesOf claims low high pieces
one_claim claims low high claim d pieces next within is pieces_are =
    let at : suc low ≡ high = omega (arith, next) in
    rw (pieces_are, sym at) (one_by claims low claim (slice_get-get_or claims low d (omega (arith, next, within)) ∙ ap Some (sym is)))

-- ---- both halves

nobody : (claims : List Claim) → deeper claims None None ≡ None
unfolding deeper
nobody claims = refl

pub both_halves : (claims : List Claim) (low middle high : ℕ) (first second left right pieces : List Piece) → low ≤ middle → middle ≤ high
    → ArePiecesOf claims low middle first → ArePiecesOf claims middle high second → left ≡ first → right ≡ second
    → pieces ≡ joined None (merged claims None None left right) → ArePiecesOf claims low high pieces
both_halves claims low middle high first second left right pieces up on one other left_is right_is are =
    let rise = merged_rise claims None None first second 0 (tidy_rise 0 None first one.tidy) (tidy_rise 0 None second other.tidy) in
    rw (are, left_is, right_is) (record {
      tidy = joined_tidy None 0 (merged claims None None first second) rise;
      tells = λ address. subst (IsBest claims low high address) (sym (tells address)) (best_of_two claims low middle high address (owner_in first address) (owner_in second address) up on (one.tells address) (other.tells address));
      size = omega (arith, joined_length None (merged claims None None first second), merged_length claims None None first second, one.size, other.size, up, on);
    })
  where
    tells : (address : ℕ) → owner_in (joined None (merged claims None None first second)) address ≡ deeper claims (owner_in first address) (owner_in second address)
    tells address =
        joined_tells None 0 (merged claims None None first second) address (merged_rise claims None None first second 0 (tidy_rise 0 None first one.tidy) (tidy_rise 0 None second other.tidy))
        ∙ ap (λ o. owner_after o (merged claims None None first second) address) (sym (nobody claims))
        ∙ merged_tells claims None None first second address

-- ---- what is meant

-- the first place at which a test passes
first_place : {X : Type 0} (test : X → Bool) (xs : List X) (place : ℕ) → passes_at test xs place ≡ true → ((j : ℕ) → j < place → passes_at test xs j ≡ false) → position test xs ≡ Some place
first_place test [] place passes before = absurd cc
first_place test (x ∷ xs) zero passes before = position_cons test x xs ∙ ap (λ b. cond b (Some 0) (option_map (λ k. k + 1) (position test xs))) passes
first_place test (x ∷ xs) (suc place) passes before =
    position_cons test x xs
    ∙ ap (λ b. cond b (Some 0) (option_map (λ k. k + 1) (position test xs))) (before 0 (omega arith))
    ∙ ap (option_map (λ k. k + 1)) (first_place test xs place passes (λ j less. before (suc j) (omega (arith, less))))
    ∙ ap Some (omega arith)

no_place : {X : Type 0} (test : X → Bool) (xs : List X) → ((j : ℕ) → j < length xs → passes_at test xs j ≡ false) → position test xs ≡ None
no_place test [] none = refl
no_place test (x ∷ xs) none =
    position_cons test x xs
    ∙ ap (λ b. cond b (Some 0) (option_map (λ k. k + 1) (position test xs))) (none 0 (omega arith))
    ∙ ap (option_map (λ k. k + 1)) (no_place test xs (λ j less. none (suc j) (omega (arith, less))))

-- of the claims that hold an address none is deeper than a depth
none_deeper : (claims : List Claim) (address depth : ℕ) → ((j : ℕ) → j < length claims → passes_at (holds address) claims j ≡ true → depth_at claims j ≤ depth)
    → list_all (λ other. leb other.depth depth) (filter (holds address) claims) ≡ true
none_deeper [] address depth within = refl
none_deeper (claim ∷ claims) address depth within =
    let others = none_deeper claims address depth (λ j less. within (suc j) (omega (arith, less))) in
    elim (cases_Bool (holds address claim)) [
      | inl held ↦ rw (held, le-leb claim.depth depth (within 0 (omega arith) held)) others
      | inr not_held ↦ rw not_held others
    ]

-- ... or one is
one_deeper : (claims : List Claim) (address depth place : ℕ) → passes_at (holds address) claims place ≡ true → depth < depth_at claims place
    → list_all (λ other. leb other.depth depth) (filter (holds address) claims) ≡ false
one_deeper [] address depth place held deeper = absurd cc
one_deeper (claim ∷ claims) address depth zero held deeper = rw (held, lt-leb claim.depth depth deeper) refl
one_deeper (claim ∷ claims) address depth (suc place) held deeper =
    let others = one_deeper claims address depth place held deeper in
    elim (cases_Bool (holds address claim)) [
      | inl also ↦ rw (also, others) (and_false (leb claim.depth depth))
      | inr not_held ↦ rw not_held others
    ]
  where
    and_false : (b : Bool) → (b && false) ≡ false
    and_false true = refl
    and_false false = refl

meant_true : (claims : List Claim) (address : ℕ) (one : Option Claim) → passes (holds address) one ≡ true → list_all (λ other. leb other.depth (depth_of one)) (filter (holds address) claims) ≡ true
    → passes (is_meant claims address) one ≡ true
meant_true claims address None held deepest = absurd cc
meant_true claims address (Some claim) held deepest = rw (held, deepest) refl

meant_not_held : (claims : List Claim) (address : ℕ) (one : Option Claim) → passes (holds address) one ≡ false → passes (is_meant claims address) one ≡ false
meant_not_held claims address None held = refl
meant_not_held claims address (Some claim) held = rw held refl

meant_not_deepest : (claims : List Claim) (address : ℕ) (one : Option Claim) → passes (holds address) one ≡ true → list_all (λ other. leb other.depth (depth_of one)) (filter (holds address) claims) ≡ false
    → passes (is_meant claims address) one ≡ false
meant_not_deepest claims address None held deepest = absurd cc
meant_not_deepest claims address (Some claim) held deepest = rw (held, deepest) refl

pub best_is_meant : (claims : List Claim) (address : ℕ) (owner : Option ℕ) → IsBest claims 0 (length claims) address owner → owner ≡ meant_at claims address
unfolding meant_at
best_is_meant claims address None none = sym (no_place (is_meant claims address) claims (λ j less. meant_not_held claims address (slice_get claims j) (none j (omega arith) less)))
best_is_meant claims address (Some place) best =
    sym (first_place (is_meant claims address) claims place
    (meant_true claims address (slice_get claims place) best.held (none_deeper claims address (depth_at claims place) (λ j less held. best.deepest j (omega arith) less held)))
    before)
  where
    before : (j : ℕ) → j < place → passes_at (is_meant claims address) claims j ≡ false
    before j less =
        elim (cases_Bool (passes_at (holds address) claims j)) [
          | inl held ↦ meant_not_deepest claims address (slice_get claims j) held (one_deeper claims address (depth_at claims j) place best.held (best.first j (omega arith) less held))
          | inr not_held ↦ meant_not_held claims address (slice_get claims j) not_held
        ]

pub all_pieces : (claims : List Claim) (high : ℕ) (pieces : List Piece) → high ≡ length claims → ArePiecesOf claims 0 high pieces → IsIndexOf claims pieces
all_pieces claims high pieces all are address = best_is_meant claims address (owner_in pieces address) (subst (λ h. IsBest claims 0 h address (owner_in pieces address)) all (are.tells address))
