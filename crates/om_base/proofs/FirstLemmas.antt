-- The first of several things where there is none.
use Rattle.std.proofs.Common.{◌≡◌, Bool, true, false, List, [], ◌∷◌, Option, Some, None, refl}
use Rattle.std.specs.List.{AllByRecursion}
use Rattle.std.specs.Option.{option_or}
use Rattle.om_base.specs.Firsts.{first_of, unless}

-- of two things that may not be there, the first or else the second is none where neither is there
pub neither : {A : Type 0} (first second : Option A) → option_or first second ≡ None → (first ≡ None) × (second ≡ None)
neither None second none = (refl, none)
neither (Some x) second none = absurd (cc)

-- the first of some is none where each is
pub none_of : {A : Type 0} (rules : List (Option A)) → first_of rules ≡ None → AllByRecursion (λ rule. rule ≡ None) rules
none_of [] none = tt
none_of (rule ∷ rules) none =
    let both = neither rule (first_of rules) none in
    (both.0, none_of rules both.1)

-- a rule with no fault is kept
pub kept_by : {A : Type 0} (kept : Bool) (fault : A) → unless kept fault ≡ None → kept ≡ true
kept_by true fault none = refl
kept_by false fault none = absurd cc
