-- The end of a run: the first one up to the limit, or the cut there.
use Rattle.std.proofs.Common.{◌≡◌, ℕ, zero, suc, ◌+◌, ◌<◌, ◌≤◌, Bool, true, false, if◌then◌else◌, nat_lt, List, [], ◌∷◌, map, find, Option, Some, None, unwrap_or, refl, ap, ◌∙◌, sym, arith, inl, inr, ◌⊎◌}
use Rattle.std.specs.Option.{option_or}
use Rattle.std.proofs.lemmas.Bool.{cases_lt, cases_order}
use Rattle.std.proofs.lemmas.List.{map-append}
use Rattle.std.proofs.lemmas.List.Folds.{find-append}
use Rattle.om_base.specs.Firsts.{first_of}
use Rattle.om_elf.specs.declared.elf.Elf.{Elf}
use Rattle.om_run.proofs.RunLemmas.{first_of_append}
use Rattle.om_run.specs.Departure.{is_exit}
use Rattle.om_record.specs.Recording.{end_at, ending_of, exit_end_at, end_by_exit, moment_at, end_by_stop}
use Rattle.om_run.specs.Run.{below}
use Rattle.om_run.specs.declared.logged.RunEnd.{RunEnd}
use Rattle.om_step.specs.State.{State, register}
use Rattle.om_step.specs.Step.{outcome}
use Rattle.om_step.specs.declared.outcome.Outcome.{Outcome}
use Rattle.om_step.specs.declared.outcome.Outcome.TheVariants.{Next, Call, Stop}

pub one_more : (n : ℕ) → n + 1 ≡ suc n
one_more n = omega arith

-- of the numbers up to one, each is below it, or that one
pub last_or : (k n : ℕ) → k < n + 1 → (k < n) ⊎ (k ≡ n)
last_or k n h = elim (cases_lt k n) [ inl below ↦ inl below | inr above ↦ inr (omega arith) ]

-- ---- the first number below n that passes a test

pub find_none : (p : ℕ → Bool) (n : ℕ) → ((j : ℕ) → j < n → p j ≡ false) → find p (below n) ≡ None
find_none p zero all = refl
find_none p (suc n) all =
    find-append p (below n) (n ∷ [])
    ∙ ap (λ (o : Option ℕ). option_or o (find p (n ∷ []))) (find_none p n (λ j h. all j (omega arith)))
    ∙ ap (λ (b : Bool). if b then Some n else None) (all n (omega arith))

pub find_first : (p : ℕ → Bool) (n k : ℕ) → k < n → p k ≡ true → ((j : ℕ) → j < k → p j ≡ false) → find p (below n) ≡ Some k
find_first p zero k h is before = absurd (omega arith)
find_first p (suc n) k h is before =
    find-append p (below n) (n ∷ []) ∙ elim (last_or k n (omega arith)) [
      | inl lower ↦ ap (λ (o : Option ℕ). option_or o (find p (n ∷ []))) (find_first p n k lower is before)
      | inr same ↦ ap (λ (o : Option ℕ). option_or o (find p (n ∷ []))) (find_none p n (λ j less. before j (omega arith)))
          ∙ ap (λ (b : Bool). if b then Some n else None) (ap p (sym same) ∙ is) ∙ ap Some (sym same)
    ]

-- ---- the first end

-- of the ends at the numbers below n, the first is this one, or there is none
data IsFirst (f : ℕ → Option RunEnd) : ℕ → Option RunEnd → Type 0 where
  none : {n : ℕ} → ((j : ℕ) → j < n → f j ≡ None) → IsFirst f n None
  some : {n : ℕ} {e : RunEnd} → (k : ℕ) → k < n → f k ≡ Some e → ((j : ℕ) → j < k → f j ≡ None) → IsFirst f n (Some e)

first_more : (f : ℕ → Option RunEnd) (n : ℕ) (o last : Option RunEnd) → f n ≡ last → IsFirst f n o → IsFirst f (suc n) (option_or o (option_or last None))
first_more f n None None is (none all) =
    none (λ j h. elim (last_or j n (omega arith)) [ inl lower ↦ all j lower | inr same ↦ ap f same ∙ is ])
first_more f n None (Some e) is (none all) = some n (omega arith) is all
first_more f n (Some e) last is (some k h at before) = some k (omega arith) at before

first_below : (f : ℕ → Option RunEnd) (n : ℕ) → IsFirst f n (first_of (map f (below n)))
first_below f zero = none (λ j h. absurd (omega arith))
first_below f (suc n) =
    rw (map-append f (below n) (n ∷ []), first_of_append (map f (below n)) (f n ∷ [])) (first_more f n (first_of (map f (below n))) (f n) refl (first_below f n))

-- the end of a run at its limit
abbrev pub cut : ℕ → RunEnd
cut limit = record { step = limit; cause = 1; value = 0 }

-- what the end of a run is
pub data IsEnding (elf : Elf) (input : List ℕ) (limit : ℕ) : RunEnd → Type 0 where
  at_limit : ((j : ℕ) → j ≤ limit → end_at elf input limit j ≡ None) → IsEnding elf input limit (cut limit)
  at_step : {e : RunEnd} → (k : ℕ) → k ≤ limit → end_at elf input limit k ≡ Some e → ((j : ℕ) → j < k → end_at elf input limit j ≡ None) → IsEnding elf input limit e

from_first : (elf : Elf) (input : List ℕ) (limit : ℕ) (o : Option RunEnd) → IsFirst (end_at elf input limit) (limit + 1) o → IsEnding elf input limit (unwrap_or o (cut limit))
from_first elf input limit None (none all) = at_limit (λ j h. all j (omega arith))
from_first elf input limit (Some e) (some k h is before) = at_step k (omega arith) is before

pub is_ending : (elf : Elf) (input : List ℕ) (limit : ℕ) → IsEnding elf input limit (ending_of elf input limit)
unfolding ending_of
is_ending elf input limit =
    from_first elf input limit (first_of (map (end_at elf input limit) (below (limit + 1)))) (first_below (end_at elf input limit) (limit + 1))

-- ---- at which step an end is

pub or_some : (a b : Option RunEnd) (e : RunEnd) → option_or a b ≡ Some e → (a ≡ Some e) ⊎ (b ≡ Some e)
or_some None b e is = inr is
or_some (Some x) b e is = inl is

exits_step : (o : Outcome) (s : State) (i : ℕ) (e : RunEnd) → end_by_exit o s i ≡ Some e → e.step ≡ i
exits_step (Next touched) s i e is = cc
exits_step Call s i e is = by_number (is_exit (register s 17)) is
  where
    by_number : (b : Bool) → (if b then Some (record { step = i; cause = 0; value = register s 10 }) else None) ≡ Some e → e.step ≡ i
    by_number true is = cc
    by_number false is = cc
exits_step (Stop cause) s i e is = cc

exit_step : (elf : Elf) (input : List ℕ) (i : ℕ) (e : RunEnd) → exit_end_at elf input i ≡ Some e → e.step ≡ i
exit_step elf input zero e is = cc
exit_step elf input (suc i) e is = exits_step (outcome (moment_at elf input i).state) (moment_at elf input i).state (suc i) e is

stops_step : (b : Bool) (o : Outcome) (i : ℕ) (e : RunEnd) → (if b then end_by_stop o i else None) ≡ Some e → e.step ≡ i
stops_step false o i e is = cc
stops_step true (Next touched) i e is = cc
stops_step true Call i e is = cc
stops_step true (Stop cause) i e is = cc

pub end_step : (elf : Elf) (input : List ℕ) (limit i : ℕ) (e : RunEnd) → end_at elf input limit i ≡ Some e → e.step ≡ i
end_step elf input limit i e is =
    elim (or_some (exit_end_at elf input i) (if nat_lt i limit then end_by_stop (outcome (moment_at elf input i).state) i else None) e is) [
      | inl exits ↦ exit_step elf input i e exits
      | inr stops ↦ stops_step (nat_lt i limit) (outcome (moment_at elf input i).state) i e stops
    ]

-- ---- which end it is

none_some : {A : Type 0} {o : Option RunEnd} {e : RunEnd} → o ≡ None → o ≡ Some e → A
none_some a b = cc

-- a step is up to the last one if no end is before it
pub up_to_last : (elf : Elf) (input : List ℕ) (limit i : ℕ) (e : RunEnd) → IsEnding elf input limit e → i ≤ limit
    → ((j : ℕ) → j < i → end_at elf input limit j ≡ None) → i ≤ e.step
up_to_last elf input limit i e (at_limit all) h before = h
up_to_last elf input limit i e (at_step k within is first) h before =
    let at = end_step elf input limit k e is in
    elim (cases_lt k i) [ inl lower ↦ none_some (before k lower) is | inr same ↦ omega arith ]

-- an end with none before it is the end
pub ending_there : (elf : Elf) (input : List ℕ) (limit i : ℕ) (found e : RunEnd) → IsEnding elf input limit e → i ≤ limit
    → ((j : ℕ) → j < i → end_at elf input limit j ≡ None) → end_at elf input limit i ≡ Some found → e ≡ found
ending_there elf input limit i found e (at_limit all) h before there = none_some (all i h) there
ending_there elf input limit i found e (at_step k within is first) h before there =
    elim (cases_order k i) [
      | inl same ↦ let is_i : end_at elf input limit i ≡ Some e = ap (end_at elf input limit) (sym same) ∙ is in cc
      | inr (inl lower) ↦ none_some (before k lower) is
      | inr (inr higher) ↦ none_some (first i higher) there
    ]

-- with no end up to the limit, the end is the cut
pub ending_cut : (elf : Elf) (input : List ℕ) (limit : ℕ) (e : RunEnd) → IsEnding elf input limit e
    → ((j : ℕ) → j ≤ limit → end_at elf input limit j ≡ None) → e ≡ cut limit
ending_cut elf input limit e (at_limit all) unended = refl
ending_cut elf input limit e (at_step k within is first) unended = none_some (unended k within) is

-- before the end there is none
pub before_end_none : (elf : Elf) (input : List ℕ) (limit : ℕ) (e : RunEnd) → IsEnding elf input limit e
    → (j : ℕ) → j < e.step → end_at elf input limit j ≡ None
before_end_none elf input limit e (at_limit all) j h = all j (omega arith)
before_end_none elf input limit e (at_step k within is first) j h =
    let at = end_step elf input limit k e is in first j (omega arith)

-- the end isn't behind the limit
pub end_within : (elf : Elf) (input : List ℕ) (limit : ℕ) (e : RunEnd) → IsEnding elf input limit e → e.step ≤ limit
end_within elf input limit e (at_limit all) = omega arith
end_within elf input limit e (at_step k within is first) = let at = end_step elf input limit k e is in omega arith
