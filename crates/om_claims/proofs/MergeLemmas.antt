-- Merging two lists of pieces.
use Rattle.std.proofs.Common.{◌≡◌, ℕ, suc, ◌+◌, ◌<◌, ◌≤◌, true, false, cond, ltb, eqb, min, List, [], ◌∷◌, ◌++◌, length, Option, Some, None, refl, append_assoc, sym, ap, ◌∙◌, inl, inr, arith}
use Rattle.std.specs.Option.{option_eq}
use Rattle.std.proofs.lemmas.List.{append-nil}
use Rattle.std.proofs.lemmas.Bool.{cases_Bool, cases_lt, le-ltb, lt-ltb, eqb-true}
use Rattle.std.proofs.lemmas.Bool.Decides.{nat_tests}
use Rattle.om_claims.specs.Merging.{Half, deeper, joined, least, merged, next_from, passed}
use Rattle.om_claims.specs.Pieces.{AreTidy, owner_after}
use Rattle.om_claims.specs.declared.claim.Claim.{Claim}
use Rattle.om_claims.specs.declared.piece.Piece.{Piece}
use Rattle.om_claims.proofs.PieceLemmas.{Rise, below_all, rise_lower}

-- ---- joining

-- owners that are equal by test are equal
pub same_owner : (one other : Option ℕ) → option_eq eqb one other ≡ true → one ≡ other
same_owner None None same = refl
same_owner None (Some y) same = absurd cc
same_owner (Some x) None same = absurd cc
same_owner (Some x) (Some y) same = ap Some (eqb-true x y same)

eqb_self : (n : ℕ) → eqb n n ≡ true
eqb_self n = grind (arith, nat_tests)

other_owner : (one other : Option ℕ) → option_eq eqb one other ≡ false → one ≡ other → ⊥
other_owner None None differ same = cc
other_owner None (Some y) differ same = cc
other_owner (Some x) None differ same = cc
other_owner (Some x) (Some y) differ same = let equal : x ≡ y = cc in let test : eqb x y ≡ true = rw equal (eqb_self y) in cc

-- a piece with the owner of the addresses before it
skipped : (owner before : Option ℕ) (pieces : List Piece) (from address : ℕ) → owner ≡ before → Rise (suc from) pieces
    → owner_after before (joined before pieces) address ≡ owner_after before pieces address
    → owner_after before (joined before pieces) address ≡ cond (ltb address from) before (owner_after owner pieces address)
skipped owner before pieces from address same rise tells =
    rw same
    (elim (cases_lt address from) [
      | inl lt ↦ let less : address < suc from = omega (arith, lt) in rw (lt-ltb address from lt) (tells ∙ below_all before (suc from) pieces address rise less)
      | inr ge ↦ rw (le-ltb address from ge) tells
    ])

pub joined_tells : (before : Option ℕ) (from : ℕ) (pieces : List Piece) (address : ℕ) → Rise from pieces → owner_after before (joined before pieces) address ≡ owner_after before pieces address
unfolding joined owner_after Rise
joined_tells before from [] address rise = refl
joined_tells before from (p ∷ pieces) address rise =
    elim (cases_Bool (option_eq eqb p.owner before)) [
      | inl same ↦ rw same (skipped p.owner before pieces p.from address (same_owner p.owner before same) rise.1 (joined_tells before (suc p.from) pieces address rise.1))
      | inr differ ↦ rw differ (ap (λ o. cond (ltb address p.from) before o) (joined_tells p.owner (suc p.from) pieces address rise.1))
    ]

pub joined_tidy : (before : Option ℕ) (from : ℕ) (pieces : List Piece) → Rise from pieces → AreTidy from before (joined before pieces)
unfolding joined AreTidy Rise
joined_tidy before from [] rise = tt
joined_tidy before from (p ∷ pieces) rise =
    elim (cases_Bool (option_eq eqb p.owner before)) [
      | inl same ↦ let up : from ≤ suc p.from = omega (arith, rise.0) in rw same (joined_tidy before from pieces (rise_lower from (suc p.from) pieces up rise.1))
      | inr differ ↦ rw differ (rise.0, other_owner p.owner before differ, joined_tidy p.owner (suc p.from) pieces rise.1)
    ]

pub joined_length : (before : Option ℕ) (pieces : List Piece) → length (joined before pieces) ≤ length pieces
unfolding joined
joined_length before [] = omega arith
joined_length before (p ∷ pieces) =
    elim (cases_Bool (option_eq eqb p.owner before)) [
      | inl same ↦ let less : length (joined before pieces) ≤ length pieces = joined_length before pieces in rw same (omega (arith, less))
      | inr differ ↦ let less : length (joined p.owner pieces) ≤ length pieces = joined_length p.owner pieces in rw differ (omega (arith, less))
    ]

-- one more piece
pub join_same : (before : Option ℕ) (piece : Piece) (pieces : List Piece) → option_eq eqb piece.owner before ≡ true → joined before (piece ∷ pieces) ≡ joined before pieces
unfolding joined
join_same before piece pieces same = rw same refl

pub join_other : (before : Option ℕ) (piece : Piece) (pieces : List Piece) → option_eq eqb piece.owner before ≡ false → joined before (piece ∷ pieces) ≡ piece ∷ joined piece.owner pieces
unfolding joined
join_other before piece pieces differ = rw differ refl

pub skips : (last : Option ℕ) (piece : Piece) (items old rest all : List Piece) → old ≡ piece ∷ rest → true ≡ option_eq eqb piece.owner last
    → items ++ joined last old ≡ all → items ++ joined last rest ≡ all
skips last piece items old rest all next same is = ap (λ ps. items ++ ps) (sym (join_same last piece rest (sym same))) ∙ ap (λ ps. items ++ joined last ps) (sym next) ∙ is

pub keeps : (last : Option ℕ) (piece : Piece) (items more old rest all : List Piece) → old ≡ piece ∷ rest → option_eq eqb piece.owner last ≡ false
    → more ≡ items ++ piece ∷ [] → items ++ joined last old ≡ all → more ++ joined piece.owner rest ≡ all
keeps last piece items more old rest all next differ pushed is =
    ap (λ ps. ps ++ joined piece.owner rest) pushed ∙ append_assoc items (piece ∷ []) (joined piece.owner rest)
    ∙ ap (λ ps. items ++ ps) (sym (join_other last piece rest differ)) ∙ ap (λ ps. items ++ joined last ps) (sym next) ∙ is

pub ends : (last : Option ℕ) (items old all : List Piece) → old ≡ [] → items ++ joined last old ≡ all → items ≡ all
unfolding joined
ends last items old all none is = sym (append-nil items) ∙ ap (λ ps. items ++ joined last ps) (sym none) ∙ is

-- ---- merging

-- merged pieces tell the deeper of two owners
pub merged_tells : (claims : List Claim) (above below : Option ℕ) (first second : List Piece) (a : ℕ)
    → owner_after (deeper claims above below) (merged claims above below first second) a ≡ deeper claims (owner_after above first a) (owner_after below second a)
unfolding owner_after merged
merged_tells claims above below [] [] a = refl
merged_tells claims above below [] (q ∷ second) a =
    elim (ltb a q.from) as (λ b. cond b (deeper claims above below) (owner_after (deeper claims above q.owner) (merged claims above q.owner [] second) a) ≡ deeper claims above (cond b below (owner_after q.owner second a))) [
      | true ↦ refl
      | false ↦ merged_tells claims above q.owner [] second a
    ]
merged_tells claims above below (p ∷ first) [] a =
    elim (ltb a p.from) as (λ b. cond b (deeper claims above below) (owner_after (deeper claims p.owner below) (merged claims p.owner below first []) a) ≡ deeper claims (cond b above (owner_after p.owner first a)) below) [
      | true ↦ refl
      | false ↦ merged_tells claims p.owner below first [] a
    ]
merged_tells claims above below (p ∷ first) (q ∷ second) a =
    elim (cases_lt p.from q.from) [
      | inl lt ↦ rw (lt-ltb p.from q.from lt) (first_goes lt (merged_tells claims p.owner below first (q ∷ second) a))
      | inr ge ↦ rw (le-ltb p.from q.from ge)
          (elim (cases_lt q.from p.from) [
            | inl lt ↦ rw (lt-ltb q.from p.from lt) (second_goes lt (merged_tells claims above q.owner (p ∷ first) second a))
            | inr le ↦ let same : q.from ≡ p.from = omega (arith, ge, le) in rw (le-ltb q.from p.from le, same) (both_go (merged_tells claims p.owner q.owner first second a))
          ])
    ]
  where
    first_goes : p.from < q.from → owner_after (deeper claims p.owner below) (merged claims p.owner below first (q ∷ second)) a ≡ deeper claims (owner_after p.owner first a) (cond (ltb a q.from) below (owner_after q.owner second a))
        → cond (ltb a p.from) (deeper claims above below) (owner_after (deeper claims p.owner below) (merged claims p.owner below first (q ∷ second)) a)
        ≡ deeper claims (cond (ltb a p.from) above (owner_after p.owner first a)) (cond (ltb a q.from) below (owner_after q.owner second a))
    first_goes up is =
        elim (cases_lt a p.from) [
          | inl lt ↦ let less : a < q.from = omega (arith, lt, up) in rw (lt-ltb a p.from lt, lt-ltb a q.from less) refl
          | inr ge ↦ rw (le-ltb a p.from ge) is
        ]

    second_goes : q.from < p.from → owner_after (deeper claims above q.owner) (merged claims above q.owner (p ∷ first) second) a ≡ deeper claims (cond (ltb a p.from) above (owner_after p.owner first a)) (owner_after q.owner second a)
        → cond (ltb a q.from) (deeper claims above below) (owner_after (deeper claims above q.owner) (merged claims above q.owner (p ∷ first) second) a)
        ≡ deeper claims (cond (ltb a p.from) above (owner_after p.owner first a)) (cond (ltb a q.from) below (owner_after q.owner second a))
    second_goes up is =
        elim (cases_lt a q.from) [
          | inl lt ↦ let less : a < p.from = omega (arith, lt, up) in rw (lt-ltb a q.from lt, lt-ltb a p.from less) refl
          | inr ge ↦ rw (le-ltb a q.from ge) is
        ]

    both_go : owner_after (deeper claims p.owner q.owner) (merged claims p.owner q.owner first second) a ≡ deeper claims (owner_after p.owner first a) (owner_after q.owner second a)
        → cond (ltb a p.from) (deeper claims above below) (owner_after (deeper claims p.owner q.owner) (merged claims p.owner q.owner first second) a)
        ≡ deeper claims (cond (ltb a p.from) above (owner_after p.owner first a)) (cond (ltb a p.from) below (owner_after q.owner second a))
    both_go is =
        elim (ltb a p.from) as (λ b. cond b (deeper claims above below) (owner_after (deeper claims p.owner q.owner) (merged claims p.owner q.owner first second) a)
        ≡ deeper claims (cond b above (owner_after p.owner first a)) (cond b below (owner_after q.owner second a))) [
          | true ↦ refl
          | false ↦ is
        ]

-- merged pieces rise
pub merged_rise : (claims : List Claim) (above below : Option ℕ) (first second : List Piece) (from : ℕ) → Rise from first → Rise from second → Rise from (merged claims above below first second)
unfolding Rise merged
merged_rise claims above below [] [] from f s = tt
merged_rise claims above below [] (q ∷ second) from f s = (s.0, merged_rise claims above q.owner [] second (suc q.from) tt s.1)
merged_rise claims above below (p ∷ first) [] from f s = (f.0, merged_rise claims p.owner below first [] (suc p.from) f.1 tt)
merged_rise claims above below (p ∷ first) (q ∷ second) from f s =
    elim (cases_lt p.from q.from) [
      | inl lt ↦ let up : suc p.from ≤ q.from = omega (arith, lt) in rw (lt-ltb p.from q.from lt) (f.0, merged_rise claims p.owner below first (q ∷ second) (suc p.from) f.1 (up, s.1))
      | inr ge ↦ rw (le-ltb p.from q.from ge)
          (elim (cases_lt q.from p.from) [
            | inl lt ↦ let up : suc q.from ≤ p.from = omega (arith, lt) in rw (lt-ltb q.from p.from lt) (s.0, merged_rise claims above q.owner (p ∷ first) second (suc q.from) (up, f.1) s.1)
            | inr le ↦ let up : suc p.from ≤ suc q.from = omega (arith, ge) in rw (le-ltb q.from p.from le) (f.0, merged_rise claims p.owner q.owner first second (suc p.from) f.1 (rise_lower (suc p.from) (suc q.from) second up s.1))
          ])
    ]

pub merged_length : (claims : List Claim) (above below : Option ℕ) (first second : List Piece) → length (merged claims above below first second) ≤ length first + length second
unfolding merged
merged_length claims above below [] [] = omega arith
merged_length claims above below [] (q ∷ second) = let less = merged_length claims above q.owner [] second in omega (arith, less)
merged_length claims above below (p ∷ first) [] = let less = merged_length claims p.owner below first [] in omega (arith, less)
merged_length claims above below (p ∷ first) (q ∷ second) =
    elim (cases_lt p.from q.from) [
      | inl lt ↦ let less = merged_length claims p.owner below first (q ∷ second) in rw (lt-ltb p.from q.from lt) (omega (arith, less))
      | inr ge ↦ rw (le-ltb p.from q.from ge)
          (elim (cases_lt q.from p.from) [
            | inl lt ↦ let less = merged_length claims above q.owner (p ∷ first) second in rw (lt-ltb q.from p.from lt) (omega (arith, less))
            | inr le ↦ let less = merged_length claims p.owner q.owner first second in rw (le-ltb q.from p.from le) (omega (arith, less))
          ])
    ]

-- the next piece of two lists
pub next_is : (claims : List Claim) (above below : Option ℕ) (first second : List Piece) (from : ℕ) → least (next_from first) (next_from second) ≡ Some from
    → merged claims above below first second
    ≡ record { from = from; owner = deeper claims (passed from (record { owner = above; pieces = first })).owner (passed from (record { owner = below; pieces = second })).owner }
    ∷ merged claims (passed from (record { owner = above; pieces = first })).owner (passed from (record { owner = below; pieces = second })).owner
    (passed from (record { owner = above; pieces = first })).pieces (passed from (record { owner = below; pieces = second })).pieces
unfolding merged
next_is claims above below [] [] from is = absurd cc
next_is claims above below [] (q ∷ second) from is =
    let at : q.from ≡ from = cc in rw (sym at, eqb_self q.from) refl
next_is claims above below (p ∷ first) [] from is =
    let at : p.from ≡ from = cc in rw (sym at, eqb_self p.from) refl
next_is claims above below (p ∷ first) (q ∷ second) from is =
    let at : min p.from q.from ≡ from = cc in
    elim (cases_lt p.from q.from) [
      | inl lt ↦ let here : p.from ≡ from = omega (arith, lt, at) in let not_there : eqb q.from from ≡ false = away q.from from (omega (arith, lt, at)) in
          rw (lt-ltb p.from q.from lt, not_there, sym here, eqb_self p.from) refl
      | inr ge ↦ rw (le-ltb p.from q.from ge)
          (elim (cases_lt q.from p.from) [
            | inl lt ↦ let here : q.from ≡ from = omega (arith, lt, at) in let not_there : eqb p.from from ≡ false = away p.from from (omega (arith, lt, at)) in
                rw (lt-ltb q.from p.from lt, not_there, sym here, eqb_self q.from) refl
            | inr le ↦ let here : p.from ≡ from = omega (arith, le, ge, at) in let there : q.from ≡ from = omega (arith, le, ge, at) in
                rw (le-ltb q.from p.from le, there, here, eqb_self from) refl
          ])
    ]
  where
    away : (n m : ℕ) → m < n → eqb n m ≡ false
    away n m less = grind (arith, nat_tests)

pub next_none : (claims : List Claim) (above below : Option ℕ) (first second : List Piece) → least (next_from first) (next_from second) ≡ None → merged claims above below first second ≡ []
unfolding merged
next_none claims above below [] [] none = refl
next_none claims above below [] (q ∷ second) none = absurd cc
next_none claims above below (p ∷ first) [] none = absurd cc
next_none claims above below (p ∷ first) (q ∷ second) none = absurd cc

pub next_by : (claims : List Claim) (above below : Option ℕ) (first second : List Piece) (from : ℕ) (one other : Half) → least (next_from first) (next_from second) ≡ Some from
    → one ≡ passed from (record { owner = above; pieces = first }) → other ≡ passed from (record { owner = below; pieces = second })
    → merged claims above below first second ≡ record { from = from; owner = deeper claims one.owner other.owner } ∷ merged claims one.owner other.owner one.pieces other.pieces
next_by claims above below first second from one other is one_is other_is = rw (one_is, other_is) (next_is claims above below first second from is)
