-- What is foremost among some things, in an order of which each two things have one and that is transitive.
use Rattle.std.proofs.Common.{◌≡◌, Bool, true, false, cond, ◌&&◌, List, [], ◌∷◌, Option, Some, None, refl, sym, ap, ◌∙◌, inl, inr, ◌⊎◌}
use Rattle.std.specs.Prelude.{find, if◌then◌else◌}
use Rattle.std.specs.List.{list_all}
use Rattle.std.proofs.lemmas.Bool.{cases_Bool}

-- of some things, the first that no other comes before
abbrev pub foremost : {X : Type 0} → (X → X → Bool) → List X → Option X
foremost leads xs = find (λ x. list_all (leads x) xs) xs

-- the one that leads, of two things that may not be there
abbrev pub leader : {X : Type 0} → (X → X → Bool) → Option X → Option X → Option X
leader leads None other = other
leader leads (Some one) None = Some one
leader leads (Some one) (Some other) = if leads one other then Some one else Some other

-- an order
pub record IsOrder {X : Type 0} (leads : X → X → Bool) : Type 0 where
  pub either : (x y : X) → leads x y ≡ false → leads y x ≡ true
  pub itself : (x : X) → leads x x ≡ true
  pub through : (x y z : X) → leads x y ≡ true → leads y z ≡ true → leads x z ≡ true

and_false : (a b : Bool) → b ≡ false → (a && b) ≡ b
and_false true b is = refl
and_false false b is = sym is

and_first : (a b : Bool) → (a && b) ≡ true → a ≡ true
and_first true b is = refl
and_first false b is = is

and_second : (a b : Bool) → (a && b) ≡ true → b ≡ true
and_second true b is = is
and_second false b is = absurd cc

module _ {X : Type 0} (leads : X → X → Bool) (order : IsOrder leads) where
  all_more : (p q : X → Bool) (xs : List X) → ((x : X) → p x ≡ true → q x ≡ true) → list_all p xs ≡ true → list_all q xs ≡ true
  all_more p q [] more all = refl
  all_more p q (x ∷ xs) more all = elim (cases_Bool (p x)) [
    | inl it ↦ let others : list_all p xs ≡ true = sym (ap (λ b. b && list_all p xs) it) ∙ all in ap (λ b. b && list_all q xs) (more x it) ∙ all_more p q xs more others
    | inr isnt ↦ let never : false ≡ true = sym (ap (λ b. b && list_all p xs) isnt) ∙ all in absurd cc
  ]

  find_same : (p q : X → Bool) (xs : List X) → ((x : X) → p x ≡ q x) → find p xs ≡ find q xs
  find_same p q [] same = refl
  find_same p q (x ∷ xs) same = ap (λ b. cond b (Some x) (find p xs)) (same x) ∙ ap (λ o. cond (q x) (Some x) o) (find_same p q xs same)

  -- one is foremost: it leads all, and is one of them
  pub record IsForemost (xs : List X) (one : X) : Type 0 where
    pub found : foremost leads xs ≡ Some one
    pub all : list_all (leads one) xs ≡ true
    pub among : (q : X → Bool) → list_all q xs ≡ true → q one ≡ true

  leads_first : (x one : X) (xs : List X) → IsForemost xs one → leads x one ≡ true → foremost leads (x ∷ xs) ≡ Some x
  leads_first x one xs is leads_it =
      let others : list_all (leads x) xs ≡ true = all_more (leads one) (leads x) xs (λ y one_leads. order.through x one y leads_it one_leads) is.all in
      let whole : (leads x x && list_all (leads x) xs) ≡ true = ap (λ b. b && list_all (leads x) xs) (order.itself x) ∙ others in
      ap (λ b. cond b (Some x) (find (λ y. list_all (leads y) (x ∷ xs)) xs)) whole

  leads_later : (x one : X) (xs : List X) → IsForemost xs one → leads x one ≡ false → foremost leads (x ∷ xs) ≡ Some one
  leads_later x one xs is leads_not =
      let behind : leads one x ≡ true = order.either x one leads_not in
      let not_all : list_all (leads x) xs ≡ false = not_first (list_all (leads x) xs) refl in
      let whole : (leads x x && list_all (leads x) xs) ≡ false = ap (λ b. b && list_all (leads x) xs) (order.itself x) ∙ not_all in
      ap (λ b. cond b (Some x) (find (λ y. list_all (leads y) (x ∷ xs)) xs)) whole
      ∙ find_same (λ y. list_all (leads y) (x ∷ xs)) (λ y. list_all (leads y) xs) xs (λ y. same y (cases_Bool (list_all (leads y) xs))) ∙ is.found
    where
      not_first : (b : Bool) → list_all (leads x) xs ≡ b → b ≡ false
      not_first true all = let it : leads x one ≡ true = is.among (leads x) all in absurd (never (sym leads_not ∙ it))
        where
          never : false ≡ true → ⊥
          never e = cc
      not_first false all = refl

      same : (y : X) → ((list_all (leads y) xs ≡ true) ⊎ (list_all (leads y) xs ≡ false)) → (leads y x && list_all (leads y) xs) ≡ list_all (leads y) xs
      same y (inl all) = ap (λ b. b && list_all (leads y) xs) (order.through y one x (is.among (leads y) all) (order.either x one leads_not))
      same y (inr not) = and_false (leads y x) (list_all (leads y) xs) not

  any : (xs : List X) → (xs ≡ []) ⊎ ((one : X) × IsForemost xs one)
  any [] = inl refl
  any (x ∷ xs) = elim (any xs) [
    | inl none ↦ inr (x, only x xs none)
    | inr found ↦ elim (cases_Bool (leads x found.0)) [
      | inl leads_it ↦ inr (
        x,
        record {
          found = leads_first x found.0 xs found.1 leads_it;
          all = ap (λ b. b && list_all (leads x) xs) (order.itself x) ∙ all_more (leads found.0) (leads x) xs (λ y one_leads. order.through x found.0 y leads_it one_leads) found.1.all;
          among = λ q all. and_first (q x) (list_all q xs) all;
        },
      )
      | inr leads_not ↦ inr (
        found.0,
        record {
          found = leads_later x found.0 xs found.1 leads_not;
          all = ap (λ b. b && list_all (leads found.0) xs) (order.either x found.0 leads_not) ∙ found.1.all;
          among = λ q all. found.1.among q (and_second (q x) (list_all q xs) all);
        },
      )
    ]
  ]
    where
      only : (x : X) (xs : List X) → xs ≡ [] → IsForemost (x ∷ xs) x
      only x xs none = rw none (record {
        found = ap (λ b. cond (b && true) (Some x) None) (order.itself x);
        all = ap (λ b. b && true) (order.itself x);
        among = λ q all. and_first (q x) true all;
      })

  -- one more in front
  pub foremost_more : (x : X) (xs : List X) → foremost leads (x ∷ xs) ≡ leader leads (Some x) (foremost leads xs)
  foremost_more x xs = elim (any xs) [
    | inl none ↦ rw none (ap (λ b. cond (b && true) (Some x) None) (order.itself x))
    | inr found ↦ elim (cases_Bool (leads x found.0)) [
      | inl leads_it ↦ leads_first x found.0 xs found.1 leads_it ∙ sym (ap (leader leads (Some x)) found.1.found ∙ ap (λ b. cond b (Some x) (Some found.0)) leads_it)
      | inr leads_not ↦ leads_later x found.0 xs found.1 leads_not ∙ sym (ap (leader leads (Some x)) found.1.found ∙ ap (λ b. cond b (Some x) (Some found.0)) leads_not)
    ]
  ]

  leader_three : (x y z : X) (a b c : Bool) → leads x y ≡ a → leads y z ≡ b → leads x z ≡ c
      → leader leads (cond a (Some x) (Some y)) (Some z) ≡ leader leads (Some x) (cond b (Some y) (Some z))
  leader_three x y z true true c xy yz xz = ap (λ t. cond t (Some x) (Some z)) (order.through x y z xy yz) ∙ sym (ap (λ t. cond t (Some x) (Some y)) xy)
  leader_three x y z true false c xy yz xz = refl
  leader_three x y z false true c xy yz xz = ap (λ t. cond t (Some y) (Some z)) yz ∙ sym (ap (λ t. cond t (Some x) (Some y)) xy)
  leader_three x y z false false true xy yz xz = let it : leads x y ≡ true = order.through x z y xz (order.either y z yz) in absurd (never (sym xy ∙ it))
    where
      never : false ≡ true → ⊥
      never e = cc
  leader_three x y z false false false xy yz xz = ap (λ t. cond t (Some y) (Some z)) yz ∙ sym (ap (λ t. cond t (Some x) (Some z)) xz)

  pub leader_both : (a b c : Option X) → leader leads (leader leads a b) c ≡ leader leads a (leader leads b c)
  leader_both None b c = refl
  leader_both (Some x) None c = refl
  leader_both (Some x) (Some y) None = elim (leads x y) as (λ t. leader leads (cond t (Some x) (Some y)) None ≡ cond t (Some x) (Some y)) [ true ↦ refl | false ↦ refl ]
  leader_both (Some x) (Some y) (Some z) = leader_three x y z (leads x y) (leads y z) (leads x z) refl refl refl

  -- there is one where there are some
  pub foremost_none : (xs : List X) → foremost leads xs ≡ None → xs ≡ []
  foremost_none xs is = elim (any xs) [ inl none ↦ none | inr found ↦ let e : None ≡ Some found.0 = sym is ∙ found.1.found in absurd cc ]
