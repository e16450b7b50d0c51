-- A function that finds what a relation says, and nothing where something isn't built.
use Rattle.std.proofs.Common.{◌≡◌, ◌⊎◌, inl, inr, suc, List, ◌∷◌, Option, Some, None, Result, Ok, Err, refl, sym, ap, subst, ◌∙◌, arith}
use Rattle.std.specs.Option.{option_map}
use Rattle.std.specs.Prelude.{Contains, IfOk}
use Rattle.om_type.specs.Checking.{Gives, all_some}
use Rattle.om_type.specs.declared.fault.TypeFault.{TypeFault}
use Rattle.om_type.specs.declared.fault.TypeFault.TheVariants.{NoMemory, Unbuilt}

pub record Settles {B : Type 0} (found : Option B) (Is : B → Type 0) (Not : Type 0) : Type 0 where
  pub is : (it : B) → found ≡ Some it → Is it
  pub isnt : found ≡ None → Not
  pub finds : (it : B) → Is it → found ≡ Some it
  pub misses : Not → found ≡ None

pub never : {B : Type 0} (it : B) → ◌≡◌ {A = Option B} (Some it) None → ⊥
never it e = absurd cc

pub one : {B : Type 0} {found : Option B} {Is : B → Type 0} {Not : Type 0} → Settles found Is Not → (a b : B) → Is a → Is b → a ≡ b
one settles a b h g =
    let e : Some a ≡ Some b = sym (settles.finds a h) ∙ settles.finds b g in
    cc

pub never_both : {B : Type 0} {found : Option B} {Is : B → Type 0} {Not : Type 0} → Settles found Is Not → (it : B) → Is it → Not → ⊥
never_both settles it h g = never it (sym (settles.finds it h) ∙ settles.misses g)

-- ---- members of lists

pub here : {A : Type 0} (x : A) (xs : List A) → Contains (x ∷ xs) x
here x xs = (0, omega arith, refl)

pub there : {A : Type 0} (x y : A) (xs : List A) → Contains xs y → Contains (x ∷ xs) y
there x y xs among = (suc among.0, omega (arith, among.1), among.2)

-- ---- lists of what may be missing

pub all_some-cons : {A : Type 0} (x : Option A) (xs : List (Option A)) (all : List A) → all_some (x ∷ xs) ≡ Some all
    → (first : A) × (others : List A) × (x ≡ Some first) × (all_some xs ≡ Some others) × (all ≡ first ∷ others)
all_some-cons None xs all e = absurd cc
all_some-cons {A} (Some first) xs all e = behind first (all_some xs) refl e
  where
    behind : (first : A) (rest : Option (List A)) → all_some xs ≡ rest → option_map (λ others. first ∷ others) rest ≡ Some all
        → (head : A) × (others : List A) × (Some first ≡ Some head) × (all_some xs ≡ Some others) × (all ≡ head ∷ others)
    behind first None is e = absurd cc
    behind first (Some others) is e = (first, others, refl, is, cc)

pub all_some-missing : {A : Type 0} (x : Option A) (xs : List (Option A)) → all_some (x ∷ xs) ≡ None → (x ≡ None) ⊎ (all_some xs ≡ None)
all_some-missing None xs e = inl refl
all_some-missing {A} (Some first) xs e = behind (all_some xs) refl e
  where
    behind : (rest : Option (List A)) → all_some xs ≡ rest → option_map (λ others. first ∷ others) rest ≡ None → (Some first ≡ None) ⊎ (all_some xs ≡ None)
    behind None is e = inr is
    behind (Some others) is e = absurd cc

pub either : {B : Type 0} {found : Option B} {Is : B → Type 0} {Not : Type 0} → Settles found Is Not → ((it : B) × Is it) ⊎ Not
either {B} {found} {Is} {Not} settles = by found refl
  where
    by : (other : Option B) → found ≡ other → ((it : B) × Is it) ⊎ Not
    by None is = inr (settles.isnt is)
    by (Some it) is = inl (it, settles.is it is)

-- ---- what a function that checks answers

pub gives_ok : {B : Type 0} {found : Option B} {Is : B → Type 0} {Not : Type 0} → Settles found Is Not → (result : Result B TypeFault) → Gives found result → IfOk result Is
gives_ok settles (Ok it) h = settles.is it h
gives_ok settles (Err fault) h = tt

pub gives_unbuilt : {B : Type 0} {found : Option B} {Is : B → Type 0} {Not : Type 0} → Settles found Is Not → (result : Result B TypeFault) → Gives found result → result ≡ Err Unbuilt → Not
gives_unbuilt {B} {found} settles result h e = settles.isnt (subst (Gives found) e h)

pub gives_found : {B : Type 0} {found : Option B} {Is : B → Type 0} {Not : Type 0} → Settles found Is Not → (result : Result B TypeFault) → Gives found result
    → (it : B) → Is it → (result ≡ Ok it) ⊎ (result ≡ Err NoMemory)
gives_found settles (Ok other) h it is = inl (ap Ok (one settles other it (settles.is other h) is))
gives_found settles (Err NoMemory) h it is = inr refl
gives_found settles (Err Unbuilt) h it is = absurd (never it (sym (settles.finds it is) ∙ h))

pub gives_refused : {B : Type 0} {found : Option B} {Is : B → Type 0} {Not : Type 0} → Settles found Is Not → (result : Result B TypeFault) → Gives found result
    → Not → (result ≡ Err Unbuilt) ⊎ (result ≡ Err NoMemory)
gives_refused settles (Ok it) h isnt = absurd (never it (sym h ∙ settles.misses isnt))
gives_refused settles (Err NoMemory) h isnt = inr refl
gives_refused settles (Err Unbuilt) h isnt = inl refl
