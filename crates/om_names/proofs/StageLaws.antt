-- Stages have one outcome, if each has.
use Rattle.std.proofs.Common.{◌≡◌, Option, Some, None, Result, Ok, Err, refl, sym, ap, subst, ◌∙◌, ◌⊎◌, inl, inr}
use Rattle.om_names.specs.Stage.{Stage, followed_by, gives_or_refuses, gives_unless, giving}
use Rattle.om_names.specs.declared.fault.NamesFault.{NamesFault}

abbrev pub HasOneOutcome : {A : Type 0} → Stage A → Type 0
HasOneOutcome {A} stage = (x y : Result A NamesFault) → stage x → stage y → x ≡ y

abbrev pub HasOutcome : {A : Type 0} → Stage A → Type 0
HasOutcome {A} stage = (x : Result A NamesFault) × stage x

-- ---- one stage

module _ {A F : Type 0} (gives : A → Type 0) (refuses : F → Type 0) (tell : F → NamesFault) where
  pub one_outcome : ((x y : A) → gives x → gives y → x ≡ y) → ((f g : F) → refuses f → refuses g → f ≡ g) → ((x : A) (f : F) → gives x → refuses f → ⊥)
      → HasOneOutcome (gives_or_refuses gives refuses tell)
  unfolding gives_or_refuses
  one_outcome one refusal apart (Ok x) (Ok y) is are = ap (λ a. Ok a) (one x y is are)
  one_outcome one refusal apart (Ok x) (Err g) is are = absurd (apart x are.0 is are.1)
  one_outcome one refusal apart (Err f) (Ok y) is are = absurd (apart y is.0 are is.1)
  one_outcome one refusal apart (Err f) (Err g) is are = ap (λ e. Err e) (is.2 ∙ ap tell (refusal is.0 are.0 is.1 are.1) ∙ sym are.2)

  pub some_outcome : ((x : A) × gives x) ⊎ ((f : F) × refuses f) → HasOutcome (gives_or_refuses gives refuses tell)
  unfolding gives_or_refuses
  some_outcome (inl given) = (Ok given.0, given.1)
  some_outcome (inr refused) = (Err (tell refused.0), (refused.0, refused.1, refl))

pub one_unless : {A F : Type 0} (fault : Option F) (given : A) (tell : F → NamesFault) → HasOneOutcome (gives_unless fault given tell)
one_unless {A} {F} fault given tell =
    one_outcome (λ it. (it ≡ given) × (fault ≡ None)) (λ told. fault ≡ Some told) tell (λ x y is are. is.0 ∙ sym are.0)
    (λ f g is are. let same : Some f ≡ Some g = sym is ∙ are in cc) (λ x f is told. let never : None ≡ Some f = sym is.1 ∙ told in cc)

pub some_unless : {A F : Type 0} (fault : Option F) (given : A) (tell : F → NamesFault) → HasOutcome (gives_unless fault given tell)
some_unless None given tell = some_outcome (λ it. (it ≡ given) × (None ≡ None)) (λ told. None ≡ Some told) tell (inl (given, (refl, refl)))
some_unless (Some fault) given tell = some_outcome (λ it. (it ≡ given) × (Some fault ≡ None)) (λ told. Some fault ≡ Some told) tell (inr (fault, refl))

-- ---- stages in their order

module _ {A B : Type 0} (stage : Stage A) (later : A → Stage B) where
  same_before : HasOneOutcome stage → (a b : A) → stage (Ok a) → stage (Ok b) → a ≡ b
  same_before one a b is are = let same : Ok a ≡ Ok b = one (Ok a) (Ok b) is are in cc

  not_both : HasOneOutcome stage → (a : A) (fault : NamesFault) → stage (Ok a) → stage (Err fault) → ⊥
  not_both one a fault is refused = let same : Ok a ≡ Err fault = one (Ok a) (Err fault) is refused in cc

  later_once : HasOneOutcome stage → ((a : A) → HasOneOutcome (later a)) → (a b : A) (x y : Result B NamesFault) → stage (Ok a) → stage (Ok b) → later a x → later b y → x ≡ y
  later_once one ones a b x y is are given also = ones b x y (subst (λ c. later c x) (same_before one a b is are) given) also

  pub one_followed : HasOneOutcome stage → ((a : A) → HasOneOutcome (later a)) → HasOneOutcome (followed_by stage later)
  unfolding followed_by
  one_followed one ones (Ok x) (Ok y) is are = later_once one ones is.0 are.0 (Ok x) (Ok y) is.1 are.1 is.2 are.2
  one_followed one ones (Ok x) (Err g) is (inl refused) = absurd (not_both one is.0 g is.1 refused)
  one_followed one ones (Ok x) (Err g) is (inr are) = later_once one ones is.0 are.0 (Ok x) (Err g) is.1 are.1 is.2 are.2
  one_followed one ones (Err f) (Ok y) (inl refused) are = absurd (not_both one are.0 f are.1 refused)
  one_followed one ones (Err f) (Ok y) (inr is) are = later_once one ones is.0 are.0 (Err f) (Ok y) is.1 are.1 is.2 are.2
  one_followed one ones (Err f) (Err g) (inl is) (inl are) = let same : Err f ≡ Err g = one (Err f) (Err g) is are in let told : f ≡ g = cc in ap (λ e. Err e) told
  one_followed one ones (Err f) (Err g) (inl is) (inr are) = absurd (not_both one are.0 f are.1 is)
  one_followed one ones (Err f) (Err g) (inr is) (inl are) = absurd (not_both one is.0 g is.1 are)
  one_followed one ones (Err f) (Err g) (inr is) (inr are) = later_once one ones is.0 are.0 (Err f) (Err g) is.1 are.1 is.2 are.2

  some_later : (a : A) → stage (Ok a) → (y : Result B NamesFault) → later a y → HasOutcome (followed_by stage later)
  unfolding followed_by
  some_later a is (Ok y) given = (Ok y, (a, is, given))
  some_later a is (Err g) given = (Err g, inr (a, is, given))

  some_first : ((a : A) → HasOutcome (later a)) → (x : Result A NamesFault) → stage x → HasOutcome (followed_by stage later)
  unfolding followed_by
  some_first somes (Ok a) is = some_later a is (somes a).0 (somes a).1
  some_first somes (Err f) is = (Err f, inl is)

  pub some_followed : HasOutcome stage → ((a : A) → HasOutcome (later a)) → HasOutcome (followed_by stage later)
  some_followed some somes = some_first somes some.0 some.1

pub one_giving : {A : Type 0} (given : A) → HasOneOutcome (giving given)
one_giving given x y is are = is ∙ sym are

pub some_giving : {A : Type 0} (given : A) → HasOutcome (giving given)
some_giving given = (Ok given, refl)
