-- Stages: each is judged over what the stages before it gave, and the first that has a fault tells it.
use Rattle.std.specs.Prelude.{◌≡◌, Option, Some, None, Result, Ok, Err, ◌⊎◌}
use Rattle.om_names.specs.declared.fault.NamesFault.{NamesFault}

-- a stage says what comes of it: what it gives, or its fault
abbrev pub Stage : Type 0 → Type 1
Stage A = Result A NamesFault → Type 0

-- ---- one stage

-- what a stage gives, why it is refused, and how that is told
unfoldable pub gives_or_refuses : {A F : Type 0} → (A → Type 0) → (F → Type 0) → (F → NamesFault) → Stage A
gives_or_refuses gives refuses tell (Ok given) = gives given
gives_or_refuses {A} {F} gives refuses tell (Err told) = (fault : F) × refuses fault × (told ≡ tell fault)

-- a stage that gives one thing, unless it has a fault
abbrev pub gives_unless : {A F : Type 0} → Option F → A → (F → NamesFault) → Stage A
gives_unless fault given tell = gives_or_refuses (λ it. (it ≡ given) × (fault ≡ None)) (λ told. fault ≡ Some told) tell

-- ---- stages in their order

-- a stage and the later ones, which are judged over what it gives: a fault is its own, if it has one, else theirs
unfoldable pub followed_by : {A B : Type 0} → Stage A → (A → Stage B) → Stage B
followed_by {A} stage later (Ok given) = (before : A) × stage (Ok before) × later before (Ok given)
followed_by {A} stage later (Err fault) = stage (Err fault) ⊎ ((before : A) × stage (Ok before) × later before (Err fault))

-- what all stages gave
abbrev pub giving : {A : Type 0} → A → Stage A
giving given outcome = outcome ≡ Ok given
