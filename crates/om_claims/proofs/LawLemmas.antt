-- Which claim is meant, by the claims before and after it.
use Rattle.std.proofs.Common.{◌≡◌, ℕ, ◌+◌, ◌<◌, ◌≤◌, Bool, true, false, cond, leb, ◌&&◌, List, [], ◌∷◌, ◌++◌, length, get_or, filter, Some, None, refl, ap, ◌∙◌, inl, inr, arith}
use Rattle.std.specs.Prelude.{All, position}
use Rattle.std.specs.List.{list_all}
use Rattle.std.specs.Option.{option_map}
use Rattle.std.proofs.lemmas.Bool.{cases_Bool, le-leb, lt-leb}
use Rattle.std.proofs.lemmas.List.Elements.{All-append, All-cons, All-head, All-tail}
use Rattle.om_base.proofs.PlaceLemmas.{position_cons}
use Rattle.om_claims.specs.Claims.{holds, is_meant, meant_at}
use Rattle.om_claims.specs.declared.claim.Claim.{Claim}

-- a test that passes at one and at none before it
here : {X : Type 0} (test : X → Bool) (before after : List X) (x : X) → All (λ y. test y ≡ false) before → test x ≡ true → position test (before ++ x ∷ after) ≡ Some (length before)
here test [] after x none passes = position_cons test x after ∙ ap (λ b. cond b (Some 0) (option_map (λ k. k + 1) (position test after))) passes
here test (y ∷ before) after x none passes =
    position_cons test y (before ++ x ∷ after)
    ∙ ap (λ b. cond b (Some 0) (option_map (λ k. k + 1) (position test (before ++ x ∷ after)))) (All-head (λ y. test y ≡ false) y before none)
    ∙ ap (option_map (λ k. k + 1)) (here test before after x (All-tail (λ y. test y ≡ false) y before none) passes)
    ∙ ap Some (omega arith)

nowhere : {X : Type 0} (test : X → Bool) (xs : List X) → All (λ x. test x ≡ false) xs → position test xs ≡ None
nowhere test [] none = refl
nowhere test (x ∷ xs) none =
    position_cons test x xs
    ∙ ap (λ b. cond b (Some 0) (option_map (λ k. k + 1) (position test xs))) (All-head (λ y. test y ≡ false) x xs none)
    ∙ ap (option_map (λ k. k + 1)) (nowhere test xs (All-tail (λ y. test y ≡ false) x xs none))

-- claims that hold an address, none of them deeper than a depth
shallow : (claims : List Claim) (address depth : ℕ) → All (λ other. holds address other ≡ true → other.depth ≤ depth) claims → list_all (λ other. leb other.depth depth) (filter (holds address) claims) ≡ true
shallow [] address depth all = refl
shallow (claim ∷ claims) address depth all =
    let others = shallow claims address depth (All-tail (λ other. holds address other ≡ true → other.depth ≤ depth) claim claims all) in
    elim (cases_Bool (holds address claim)) [
      | inl held ↦ rw (held, le-leb claim.depth depth (All-head (λ other. holds address other ≡ true → other.depth ≤ depth) claim claims all held)) others
      | inr not_held ↦ rw not_held others
    ]

-- ... one of them deeper
deep : (before after : List Claim) (claim : Claim) (address depth : ℕ) → holds address claim ≡ true → depth < claim.depth → list_all (λ other. leb other.depth depth) (filter (holds address) (before ++ claim ∷ after)) ≡ false
deep [] after claim address depth held deeper = rw (held, lt-leb claim.depth depth deeper) refl
deep (other ∷ before) after claim address depth held deeper =
    let others = deep before after claim address depth held deeper in
    elim (cases_Bool (holds address other)) [
      | inl also ↦ rw (also, others) (and_false (leb other.depth depth))
      | inr not_held ↦ rw not_held others
    ]
  where
    and_false : (b : Bool) → (b && false) ≡ false
    and_false true = refl
    and_false false = refl

not_meant : (claims : List Claim) (address : ℕ) (claim : Claim) → holds address claim ≡ false → is_meant claims address claim ≡ false
not_meant claims address claim not_held = rw not_held refl

less_deep : (before after : List Claim) (claim : Claim) (address : ℕ) (other : Claim) → holds address claim ≡ true → (holds address other ≡ true → other.depth < claim.depth)
    → is_meant (before ++ claim ∷ after) address other ≡ false
less_deep before after claim address other held less =
    elim (cases_Bool (holds address other)) [
      | inl also ↦ rw (also, deep before after claim address other.depth held (less also)) refl
      | inr not_held ↦ not_meant (before ++ claim ∷ after) address other not_held
    ]

pub none_meant : (claims : List Claim) (address : ℕ) → All (λ claim. holds address claim ≡ false) claims → meant_at claims address ≡ None
unfolding meant_at
none_meant claims address none = nowhere (is_meant claims address) claims (λ k d within. not_meant claims address _ (none k d within))

pub first_meant : (before after : List Claim) (claim : Claim) (address depth : ℕ) → All (λ other. holds address other ≡ false) before → holds address claim ≡ true
    → All (λ other. other.depth ≡ depth) (before ++ claim ∷ after) → meant_at (before ++ claim ∷ after) address ≡ Some (length before)
unfolding meant_at
first_meant before after claim address depth none held same =
    here (is_meant (before ++ claim ∷ after) address) before after claim (λ k d within. not_meant (before ++ claim ∷ after) address _ (none k d within))
    (rw (held, shallow (before ++ claim ∷ after) address claim.depth (λ k d within also. at_most k d within)) refl)
  where
    own : (xs ys : List Claim) → All (λ other. other.depth ≡ depth) (xs ++ claim ∷ ys) → claim.depth ≡ depth
    own [] ys all = All-head (λ other. other.depth ≡ depth) claim ys all
    own (x ∷ xs) ys all = own xs ys (All-tail (λ other. other.depth ≡ depth) x (xs ++ claim ∷ ys) all)

    at_most : All (λ other. other.depth ≤ claim.depth) (before ++ claim ∷ after)
    at_most k d within = let other = same k d within in let mine = own before after same in omega (arith, other, mine)

pub deeper_meant : (before after : List Claim) (claim : Claim) (address : ℕ) → holds address claim ≡ true
    → All (λ other. holds address other ≡ true → other.depth < claim.depth) before → All (λ other. holds address other ≡ true → other.depth < claim.depth) after
    → meant_at (before ++ claim ∷ after) address ≡ Some (length before)
unfolding meant_at
deeper_meant before after claim address held less_before less_after =
    here (is_meant (before ++ claim ∷ after) address) before after claim
    (λ k d within. less_deep before after claim address (get_or before k d) held (less_before k d within))
    (rw (held, shallow (before ++ claim ∷ after) address claim.depth all) refl)
  where
    all : All (λ other. holds address other ≡ true → other.depth ≤ claim.depth) (before ++ claim ∷ after)
    all = All-append (λ other. holds address other ≡ true → other.depth ≤ claim.depth) before (claim ∷ after)
        (λ k d within also. let less = less_before k d within also in omega (arith, less))
        (All-cons (λ other. holds address other ≡ true → other.depth ≤ claim.depth) claim after (λ also. omega arith) (λ k d within also. let less = less_after k d within also in omega (arith, less)))
