-- Variables put together by their names: the places of names.
use Rattle.std.proofs.Common.{◌≡◌, ℕ, suc, ◌<◌, Bool, true, false, cond, List, [], ◌∷◌, ◌++◌, length, get_or, set, Option, Some, None, refl, ap, ◌∙◌, arith, true≢false}
use Rattle.std.specs.Prelude.{bytes_eq}
use Rattle.std.specs.Option.{option_map}
use Rattle.std.specs.Cmp.Lexicographic.{bytes_decides, nat_list_eq_equiv}
use Rattle.om_names.specs.ByName.{place_in, put, seen_again, seen_once}
use Rattle.om_names.specs.declared.by_name.Seen.{Seen}
use Rattle.om_names.specs.Variables.{name_of}
use Rattle.om_names.specs.declared.variable.Variable.{Variable}

option_suc : (o : Option ℕ) (i : ℕ) → option_map suc o ≡ Some i → (j : ℕ) × (o ≡ Some j) × (i ≡ suc j)
option_suc None i is = absurd cc
option_suc (Some j) i is = (j, refl, cc)

option_none : (o : Option ℕ) → option_map suc o ≡ None → o ≡ None
option_none None is = refl
option_none (Some j) is = absurd cc

-- ---- a name that is there

-- its variables are changed at its place
pub put_there : (list : List Seen) (variable : Variable) (i : ℕ) (d : Seen) → place_in (name_of variable) list ≡ Some i → (i < length list) × (set list i (seen_again (get_or list i d) variable) ≡ put list variable)
unfolding place_in put
put_there [] variable i d is = absurd cc
put_there (seen ∷ others) variable i d is = by (bytes_eq (name_of variable) seen.name) is (λ j at. put_there others variable j d at)
  where
    by : (b : Bool) → cond b (Some 0) (option_map suc (place_in (name_of variable) others)) ≡ Some i
        → ((j : ℕ) → place_in (name_of variable) others ≡ Some j → (j < length others) × (set others j (seen_again (get_or others j d) variable) ≡ put others variable))
        → (i < length (seen ∷ others)) × (set (seen ∷ others) i (seen_again (get_or (seen ∷ others) i d) variable) ≡ cond b (seen_again seen variable ∷ others) (seen ∷ put others variable))
    by true here later = let first : i ≡ 0 = cc in rw first (omega arith, refl)
    by false there later =
        let behind = option_suc (place_in (name_of variable) others) i there in
        let rest = later behind.0 behind.1 in
        rw behind.2 (omega arith, ap (λ xs. seen ∷ xs) rest.1)

-- the places stay
pub place_kept : (list : List Seen) (variable : Variable) (i : ℕ) (name : List ℕ) → place_in (name_of variable) list ≡ Some i → place_in name (put list variable) ≡ place_in name list
unfolding place_in put
place_kept [] variable i name is = absurd cc
place_kept (seen ∷ others) variable i name is = by (bytes_eq (name_of variable) seen.name) is (λ j at. place_kept others variable j name at)
  where
    by : (b : Bool) → cond b (Some 0) (option_map suc (place_in (name_of variable) others)) ≡ Some i → ((j : ℕ) → place_in (name_of variable) others ≡ Some j → place_in name (put others variable) ≡ place_in name others)
        → place_in name (cond b (seen_again seen variable ∷ others) (seen ∷ put others variable)) ≡ place_in name (seen ∷ others)
    by true here later = refl
    by false there later =
        let behind = option_suc (place_in (name_of variable) others) i there in
        ap (λ place. cond (bytes_eq name seen.name) (Some 0) (option_map suc place)) (later behind.0 behind.1)

-- ---- a new name

not_first : (b : Bool) (o : Option ℕ) → cond b (Some 0) (option_map suc o) ≡ None → (b ≡ false) × (o ≡ None)
not_first true o is = absurd cc
not_first false o is = (refl, option_none o is)

-- its variable is put at the end
pub put_new : (list : List Seen) (variable : Variable) → place_in (name_of variable) list ≡ None → put list variable ≡ list ++ seen_once variable ∷ []
unfolding place_in put
put_new [] variable is = refl
put_new (seen ∷ others) variable is =
    let apart = not_first (bytes_eq (name_of variable) seen.name) (place_in (name_of variable) others) is in
    ap (λ b. cond b (seen_again seen variable ∷ others) (seen ∷ put others variable)) apart.0 ∙ ap (λ xs. seen ∷ xs) (put_new others variable apart.1)

both_first : (name first : List ℕ) (variable : List ℕ) → bytes_eq variable first ≡ false → bytes_eq name variable ≡ true → bytes_eq name first ≡ false
both_first name first variable apart same = let is : name ≡ variable = (bytes_decides name variable).0 same in ap (λ n. bytes_eq n first) is ∙ apart

-- ... and so it is its place
pub place_new : (list : List Seen) (variable : Variable) (name : List ℕ) → place_in (name_of variable) list ≡ None → place_in name (list ++ seen_once variable ∷ []) ≡ cond (bytes_eq name (name_of variable)) (Some (length list)) (place_in name list)
unfolding place_in
place_new [] variable name is = refl
place_new (seen ∷ others) variable name is =
    let apart = not_first (bytes_eq (name_of variable) seen.name) (place_in (name_of variable) others) is in
    ap (λ place. cond (bytes_eq name seen.name) (Some 0) (option_map suc place)) (place_new others variable name apart.1)
    ∙ by (bytes_eq name (name_of variable)) (bytes_eq name seen.name) (λ same. both_first name seen.name (name_of variable) apart.0 same)
  where
    by : (new first : Bool) → (new ≡ true → first ≡ false)
        → cond first (Some 0) (option_map suc (cond new (Some (length others)) (place_in name others))) ≡ cond new (Some (suc (length others))) (cond first (Some 0) (option_map suc (place_in name others)))
    by true true apart = absurd (true≢false (apart refl))
    by true false apart = refl
    by false first apart = refl

pub names_alike : (x y : List ℕ) → bytes_eq x y ≡ bytes_eq y x
names_alike x y = nat_list_eq_equiv.symm x y
