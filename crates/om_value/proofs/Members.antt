-- The truth of AND and of OR, found member by member.
use Rattle.std.proofs.Common.{◌≡◌, ℕ, ◌+◌, ◌<◌, ◌≤◌, Bool, true, false, List, length, map, take, get_or, if◌then◌else◌, refl, sym, ap, ◌∙◌, arith}
use Rattle.std.specs.List.{list_any}
use Rattle.std.proofs.Math.ListN.{get_or-map}
use Rattle.std.proofs.lemmas.List.{take_all, length-map}
use Rattle.std.proofs.lemmas.List.Folds.{list_any_more, list_any_at}
use Rattle.om_value.specs.Meaning.{is_unknown}
use Rattle.om_value.specs.declared.truth.Truth.{Truth}
use Rattle.om_value.specs.declared.truth.Truth.TheVariants.{Unknown}

-- one truth where a member stops, else Unknown where one is Unknown, else the other
abbrev pub settled : (Truth → Bool) → Truth → Truth → List Truth → Truth
settled stops stopped start members = if list_any stops members then stopped else if list_any is_unknown members then Unknown else start

-- of so many members none stops, and this is the truth of those
pub record IsSoFar {A : Type 0} (stops : Truth → Bool) (start : Truth) (worth : A → Truth) (members : List A) (count : ℕ) (found : Truth) : Type 0 where
  pub none : list_any stops (take count (map worth members)) ≡ false
  pub known : found ≡ (if list_any is_unknown (take count (map worth members)) then Unknown else start)

-- this is the member at that place, and its truth
pub record IsNext {A : Type 0} (worth : A → Truth) (members : List A) (count : ℕ) (next : A) (found : Truth) : Type 0 where
  pub within : count < length members
  pub is : next ≡ get_or members count next
  pub known : found ≡ worth next

within_truths : {A : Type 0} (worth : A → Truth) (members : List A) (count : ℕ) → count < length members → count < length (map worth members)
within_truths worth members count within = rw (length-map members worth) within

truth_there : {A : Type 0} (worth : A → Truth) (members : List A) (count : ℕ) (next : A) (found : Truth) → IsNext worth members count next found → get_or (map worth members) count (worth next) ≡ found
truth_there worth members count next found next_is = get_or-map worth members count next ∙ ap worth (sym next_is.is) ∙ sym next_is.known

pub after_neither : {A : Type 0} (stops : Truth → Bool) (start : Truth) (worth : A → Truth) (members : List A) (count : ℕ) (found : Truth) (next : A) (next_found : Truth) → stops next_found ≡ false → is_unknown next_found ≡ false → IsNext worth members count next next_found → IsSoFar stops start worth members count found → IsSoFar stops start worth members (count + 1) found
after_neither stops start worth members count found next next_found goes known next_is so_far =
    let there = truth_there worth members count next next_found next_is in
    let within = within_truths worth members count next_is.within in
    let here : stops (get_or (map worth members) count (worth next)) ≡ false = ap stops there ∙ goes in
    let here_known : is_unknown (get_or (map worth members) count (worth next)) ≡ false = ap is_unknown there ∙ known in
    record {
      none = grind (arith, here, list_any_more stops (map worth members) count (worth next) within, so_far.none);
      known = grind (arith, here_known, list_any_more is_unknown (map worth members) count (worth next) within, so_far.known);
    }

pub after_unknown : {A : Type 0} (stops : Truth → Bool) (start : Truth) (worth : A → Truth) (members : List A) (count : ℕ) (found : Truth) (next : A) → stops Unknown ≡ false → IsNext worth members count next Unknown → IsSoFar stops start worth members count found → IsSoFar stops start worth members (count + 1) Unknown
after_unknown stops start worth members count found next goes next_is so_far =
    let there = truth_there worth members count next Unknown next_is in
    let within = within_truths worth members count next_is.within in
    let here : stops (get_or (map worth members) count (worth next)) ≡ false = ap stops there ∙ goes in
    let here_known : is_unknown (get_or (map worth members) count (worth next)) ≡ true = ap is_unknown there in
    record {
      none = grind (arith, here, list_any_more stops (map worth members) count (worth next) within, so_far.none);
      known = grind (arith, here_known, list_any_more is_unknown (map worth members) count (worth next) within);
    }

-- a member that stops settles it
pub at_stop : {A : Type 0} (stops : Truth → Bool) (stopped start : Truth) (worth : A → Truth) (members : List A) (count : ℕ) (next : A) (next_found : Truth) → stops next_found ≡ true → IsNext worth members count next next_found → stopped ≡ settled stops stopped start (map worth members)
at_stop stops stopped start worth members count next next_found stop next_is =
    let there = truth_there worth members count next next_found next_is in
    let within = within_truths worth members count next_is.within in
    let some = list_any_at stops (map worth members) count (worth next) within (ap stops there ∙ stop) in
    rw some refl

-- all members were seen
pub at_end : {A : Type 0} (stops : Truth → Bool) (stopped start : Truth) (worth : A → Truth) (members : List A) (count : ℕ) (found : Truth) → length members ≤ count → IsSoFar stops start worth members count found → found ≡ settled stops stopped start (map worth members)
at_end stops stopped start worth members count found seen so_far =
    let all = take_all count (map worth members) (rw (length-map members worth) seen) in
    let none = rw all at so_far.none in
    let known = rw all at so_far.known in
    rw none known
