-- Lists of what may be missing, found member by member.
use Rattle.std.proofs.Common.{◌≡◌, List, [], ◌∷◌, ◌++◌, Option, Some, None, refl, sym, ap, subst}
use Rattle.std.specs.Option.{option_map, option_and_then}
use Rattle.std.proofs.lemmas.List.{append_assoc, append-nil}
use Rattle.om_type.specs.Checking.{after, all_some}

pub none_found : {A : Type 0} (others : Option (List A)) → others ≡ after [] others
none_found (Some others) = refl
none_found None = refl

pub one_found : {A : Type 0} (found : List A) (one : A) (others : Option (List A)) → after found (option_map (λ more. one ∷ more) others) ≡ after (found ++ one ∷ []) others
one_found found one (Some others) = ap Some (sym (append_assoc found (one ∷ []) others))
one_found found one None = refl

-- nothing is left to find
pub all_found : {A : Type 0} (found : List A) → after found (Some []) ≡ Some found
all_found found = ap Some (append-nil found)

-- the members of two lists
abbrev pub joined : {A : Type 0} → Option (List A) → Option (List A) → Option (List A)
joined first second = option_and_then (λ found. after found second) first

pub all_some-append : {A : Type 0} (first second : List (Option A)) → all_some (first ++ second) ≡ joined (all_some first) (all_some second)
all_some-append [] second = none_found (all_some second)
all_some-append (None ∷ first) second = refl
all_some-append (Some one ∷ first) second = rw (all_some-append first second) (one_more one (all_some first) (all_some second))
  where
    one_more : {A : Type 0} (one : A) (first second : Option (List A)) → option_map (λ others. one ∷ others) (joined first second) ≡ joined (option_map (λ others. one ∷ others) first) second
    one_more one None second = refl
    one_more one (Some found) None = refl
    one_more one (Some found) (Some others) = refl

after_twice : {A : Type 0} (old found : List A) (others : Option (List A)) → after old (after found others) ≡ after (old ++ found) others
after_twice old found (Some others) = ap Some (sym (append_assoc old found others))
after_twice old found None = refl

-- some members found, and then those of the rest
pub some_found : {A : Type 0} (old new : List A) (first second : Option (List A)) → after old first ≡ Some new → after old (joined first second) ≡ after new second
some_found {A} old new (Some found) others e =
    let new_is : old ++ found ≡ new = cc in
    subst (λ (l : List A). after old (after found others) ≡ after l others) new_is (after_twice old found others)
some_found old new None second e = absurd cc

-- a member is missing
pub none_missing : {A : Type 0} (old : List A) (first second : Option (List A)) → after old first ≡ None → after old (joined first second) ≡ None
none_missing old (Some found) second e = absurd cc
none_missing old None second e = refl
