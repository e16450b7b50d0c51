-- Pieces that rise, and the piece of an address.
use Rattle.std.proofs.Common.{◌≡◌, ℕ, zero, suc, ◌+◌, ◌-◌, ◌<◌, ◌≤◌, true, false, leb, List, [], ◌∷◌, length, get_or, Option, None, refl, sym, arith}
use Rattle.std.specs.List.{AllWithin}
use Rattle.std.specs.List.Sorted.{IsNonDecreasingBy, IsPartitionPoint}
use Rattle.std.proofs.lemmas.Bool.{leb-true, leb-false, le-ltb, lt-ltb}
use Rattle.std.proofs.lemmas.List.Sorted.{IsNonDecreasingBy-from_all_adjacent}
use Rattle.om_claims.specs.Pieces.{AreTidy, owner_after, owner_in}
use Rattle.om_claims.specs.declared.piece.Piece.{Piece}

-- pieces begin at an address or above, each above the one before
unfoldable pub Rise : ℕ → List Piece → Type 0
Rise from [] = Unit {0}
Rise from (piece ∷ pieces) = (from ≤ piece.from) × Rise (suc piece.from) pieces

pub tidy_rise : (from : ℕ) (before : Option ℕ) (pieces : List Piece) → AreTidy from before pieces → Rise from pieces
unfolding Rise AreTidy
tidy_rise from before [] tidy = tt
tidy_rise from before (p ∷ pieces) tidy = (tidy.0, tidy_rise (suc p.from) p.owner pieces tidy.2)

pub rise_lower : (low from : ℕ) (pieces : List Piece) → low ≤ from → Rise from pieces → Rise low pieces
unfolding Rise
rise_lower low from [] le rise = tt
rise_lower low from (p ∷ pieces) le rise = (omega (arith, le, rise.0), rise.1)

-- the addresses below all pieces
pub below_all : (before : Option ℕ) (from : ℕ) (pieces : List Piece) (address : ℕ) → Rise from pieces → address < from → owner_after before pieces address ≡ before
unfolding owner_after Rise
below_all before from [] address rise less = refl
below_all before from (p ∷ pieces) address rise less =
    let lt : address < p.from = omega (arith, less, rise.0) in rw (lt-ltb address p.from lt) refl

-- ---- the piece of an address

rises_on : (from : ℕ) (pieces : List Piece) → Rise from pieces → (k : ℕ) (d : Piece) → suc k < length pieces → (get_or pieces k d).from ≤ (get_or pieces (suc k) d).from
unfolding Rise
rises_on from [] rise k d within = absurd (omega arith)
rises_on from (p ∷ []) rise k d within = absurd (omega arith)
rises_on from (p ∷ q ∷ pieces) rise zero d within = let next : suc p.from ≤ q.from = rise.1.0 in omega (arith, next)
rises_on from (p ∷ q ∷ pieces) rise (suc k) d within = rises_on (suc p.from) (q ∷ pieces) rise.1 k d (omega arith)

pub rising : (from : ℕ) (pieces : List Piece) → Rise from pieces → IsNonDecreasingBy (λ p. p.from) pieces
rising from pieces rise =
    IsNonDecreasingBy-from_all_adjacent (λ p. p.from) pieces
    (λ k d within. let next : k + 1 ≡ suc k = omega arith in rw next (rises_on from pieces rise k d (omega arith)))

before_all : (before : Option ℕ) (pieces : List Piece) (address : ℕ) → ((d : Piece) → 0 < length pieces → leb (get_or pieces 0 d).from address ≡ false) → owner_after before pieces address ≡ before
unfolding owner_after
before_all before [] address above = refl
before_all before (p ∷ pieces) address above = rw (lt-ltb address p.from (leb-false p.from address (above p (omega arith)))) refl

found_at : (before : Option ℕ) (pieces : List Piece) (address k : ℕ) (d : Piece) → k < length pieces
    → AllWithin (λ p. leb p.from address ≡ true) pieces 0 (suc k) → AllWithin (λ p. leb p.from address ≡ false) pieces (suc k) (length pieces)
    → owner_after before pieces address ≡ (get_or pieces k d).owner
unfolding owner_after
found_at before [] address k d within below above = absurd (omega arith)
found_at before (p ∷ pieces) address zero d within below above =
    rw (le-ltb address p.from (leb-true p.from address (below 0 p (omega arith) (omega arith)))) (before_all p.owner pieces address (λ e some. above 1 e (omega arith) (omega arith)))
found_at before (p ∷ pieces) address (suc k) d within below above =
    rw (le-ltb address p.from (leb-true p.from address (below 0 p (omega arith) (omega arith))))
    (found_at p.owner pieces address k d (omega arith) (λ i e low high. below (suc i) e (omega arith) (omega arith)) (λ i e low high. above (suc i) e (omega arith) (omega arith)))

pub at_none : (pieces : List Piece) (address place : ℕ) → place ≡ 0 → IsPartitionPoint (λ p. leb p.from address ≡ true) (λ p. leb p.from address ≡ false) pieces place → None ≡ owner_in pieces address
at_none pieces address place none cut = sym (before_all None pieces address (λ d some. cut.1 0 d (omega arith) some))

pub at_some : (pieces : List Piece) (address place : ℕ) (d : Piece) → 0 < place → place ≤ length pieces → IsPartitionPoint (λ p. leb p.from address ≡ true) (λ p. leb p.from address ≡ false) pieces place
    → (get_or pieces (place - 1) d).owner ≡ owner_in pieces address
at_some pieces address place d some within cut =
    let next : suc (place - 1) ≡ place = omega arith in
    sym (found_at None pieces address (place - 1) d (omega arith)
    (λ i e low high. cut.0 i e low (omega arith))
    (λ i e low high. cut.1 i e (omega arith) high))
