-- What the parts of the reader find, step by step.
use Rattle.std.proofs.Common.{◌≡◌, ◌↔◌, ℕ, suc, ◌-◌, ◌<◌, ◌≤◌, Bool, true, false, eqb, List, [], ◌∷◌, ◌++◌, length, Some, None, refl, sym, ap, subst, ◌∙◌, arith, inl, inr}
use Rattle.std.specs.Prelude.{IsTrue}
use Rattle.std.specs.List.{slice_get}
use Rattle.std.proofs.lemmas.List.{append-nil, length-append}
use Rattle.om_log.specs.Faults.{IsKind, IsRefused, IsFaultBehind, IsBodyFault}
use Rattle.om_log.specs.Grammar.{spelling, spellings, HasCause, step_of, next_of, IsEnd, MayStand, AreLawful, HasEnd, next_after}
use Rattle.om_log.specs.EntryFields.{entry_field}
use Rattle.om_log.specs.Steps.{IsFirst, IsBody}
use Rattle.om_log.specs.declared.entry.Entry.{Entry}
use Rattle.om_log.specs.declared.entry.Entry.TheVariants.{Call, Mark, End}
use Rattle.om_log.specs.declared.fault.LogFault.{LogFault}
use Rattle.om_log.specs.declared.fault.LogFault.TheVariants.{Short, Kind, Order, NoEnd, Trailing}
use Rattle.om_log.proofs.FieldLaws.{IsBytes, none_in_front}
use Rattle.om_log.proofs.EntryLaws.{entry_law}
use Rattle.om_log.proofs.LogLaws.{lawful_more, runs_more, ends_more, next_more, spellings_more}

-- ---- one entry

pub refused_end : (least at : ℕ) (rest : List ℕ) → slice_get rest 0 ≡ None → IsRefused least at rest NoEnd
unfolding IsRefused
refused_end least at [] h = inl refl
refused_end least at (kind ∷ rest) h = absurd cc

pub refused_kind : (least at : ℕ) (rest : List ℕ) (kind : ℕ) → slice_get rest 0 ≡ Some kind → (IsKind kind → ⊥) → IsRefused least at rest (Kind at)
unfolding IsRefused
refused_kind least at [] kind h none = absurd cc
refused_kind least at (first ∷ rest) kind h none = let is : first ≡ kind = cc in inl (inl (subst (λ k. IsKind k → ⊥) (sym is) none, refl))

pub refused_short : (least at : ℕ) (rest : List ℕ) (kind : ℕ) → slice_get rest 0 ≡ Some kind → IsKind kind → entry_field rest ≡ None → IsRefused least at rest (Short at)
unfolding IsRefused
refused_short least at [] kind h is_kind e = absurd cc
refused_short least at (first ∷ rest) kind h is_kind e =
    let is : first ≡ kind = cc in
    inl (inr (inl (subst IsKind (sym is) is_kind, (λ entry tail fits same. none_in_front entry_law (first ∷ rest) e entry tail fits same), refl)))

pub refused_cause : (least at : ℕ) (rest : List ℕ) (e : Entry) (tail : List ℕ) → IsBytes rest → entry_field rest ≡ Some (e, tail) → (HasCause e → ⊥) → IsRefused least at rest (Kind at)
unfolding IsRefused entry_field
refused_cause least at [] e tail bytes taken none = absurd cc
refused_cause least at (kind ∷ rest) e tail bytes taken none =
    let p = entry_law.takes (kind ∷ rest) (e, tail) bytes taken in
    inl (inr (inr (record { entry = e; tail = tail; fits = p.1; spelled = p.0; causeless = none }, refl)))

pub refused_order : (least at : ℕ) (rest : List ℕ) (e : Entry) (tail : List ℕ) → IsBytes rest → entry_field rest ≡ Some (e, tail) → HasCause e → step_of e < least → IsRefused least at rest (Order at)
unfolding IsRefused
refused_order least at rest e tail bytes taken cause early =
    let p = entry_law.takes rest (e, tail) bytes taken in
    inr (record { entry = e; tail = tail; fits = p.1; cause = cause; spelled = p.0; early = early }, refl)

pub first_is : (least : ℕ) (rest : List ℕ) (e : Entry) (tail : List ℕ) → IsBytes rest → entry_field rest ≡ Some (e, tail) → HasCause e → least ≤ step_of e → IsFirst least rest e tail
first_is least rest e tail bytes taken cause late =
    let p = entry_law.takes rest (e, tail) bytes taken in
    record { stand = record { fits = p.1; cause = cause; step = late }; spelled = p.0 }

-- ---- the entries so far

-- the reader stands here: these entries are read, this is left, no step below this one may follow, and END was met or not
pub record IsAt (body : List ℕ) (entries : List Entry) (rest : List ℕ) (least : ℕ) (ended : Bool) : Type 0 where
  pub lawful : AreLawful 0 entries
  pub spelled : body ≡ spellings entries ++ rest
  pub next : least ≡ next_after 0 entries
  pub flag : IsTrue ended ↔ HasEnd entries

pub starts : (body : List ℕ) → IsAt body [] body 0 false
unfolding AreLawful spellings next_after HasEnd
starts body = record { lawful = tt; spelled = refl; next = refl; flag = (λ h. cc, λ h. absurd h) }

runs : (ended : Bool) (entries : List Entry) → IsTrue ended ↔ HasEnd entries → ended ≡ false → HasEnd entries → ⊥
runs ended entries flag not_yet h = let now = flag.1 h in cc

flag_back : (end : Bool) (entries : List Entry) (e : Entry) → (HasEnd entries → ⊥) → IsTrue end ↔ IsEnd e → HasEnd (entries ++ e ∷ []) → IsTrue end
flag_back true entries e running flag h = refl
flag_back false entries e running flag h = absurd (runs_more entries e running (λ k. let now = flag.1 k in cc) h)

pub goes_on : (body : List ℕ) (entries : List Entry) (rest : List ℕ) (least : ℕ) (ended : Bool) (e : Entry) (tail : List ℕ) (end : Bool) → IsAt body entries rest least ended → ended ≡ false → IsFirst least rest e tail → IsTrue end ↔ IsEnd e → IsAt body (entries ++ e ∷ []) tail (next_of e) end
goes_on body entries rest least ended e tail end here not_yet first flag =
    let running = runs ended entries here.flag not_yet in
    record {
      lawful = lawful_more 0 entries e here.lawful running (subst (λ n. MayStand n e) here.next first.stand);
      spelled = here.spelled ∙ ap (λ (x : List ℕ). spellings entries ++ x) first.spelled ∙ spellings_more entries e tail;
      next = sym (next_more 0 entries e);
      flag = (λ h. ends_more entries e (flag.0 h), λ h. flag_back end entries e running flag h);
    }

longer_tail : (kind : ℕ) (front tail : List ℕ) → length tail < length (kind ∷ (front ++ tail))
longer_tail kind front tail = let h : length tail < suc (length (front ++ tail)) = omega (arith, length-append front tail) in h

spelling_some : (e : Entry) (tail : List ℕ) → length tail < length (spelling e ++ tail)
unfolding spelling
spelling_some (Call step number args result writes) tail = longer_tail 1 _ tail
spelling_some (Mark step pc sum) tail = longer_tail 2 _ tail
spelling_some (End step cause value) tail = longer_tail 3 _ tail

pub shorter : (least : ℕ) (rest : List ℕ) (e : Entry) (tail : List ℕ) → IsFirst least rest e tail → length tail < length rest
shorter least rest e tail first = subst (λ (r : List ℕ). length tail < length r) (sym first.spelled) (spelling_some e tail)

pub refused_behind : (len : ℕ) (body : List ℕ) (entries : List Entry) (rest : List ℕ) (least : ℕ) (ended : Bool) (fault : LogFault) → IsAt body entries rest least ended → ended ≡ false → IsRefused least (len - length rest) rest fault → IsBodyFault len body fault
unfolding IsFaultBehind
refused_behind len body entries rest least ended fault here not_yet refused =
    record {
      entries = entries;
      rest = rest;
      lawful = here.lawful;
      spelled = here.spelled;
      behind = inl (runs ended entries here.flag not_yet, subst (λ n. IsRefused n (len - length rest) rest fault) here.next refused);
    }

pub trailing_behind : (len : ℕ) (body : List ℕ) (entries : List Entry) (rest : List ℕ) (least : ℕ) (ended : Bool) → IsAt body entries rest least ended → ended ≡ true → (rest ≡ [] → ⊥) → IsBodyFault len body (Trailing (len - length rest))
unfolding IsFaultBehind
trailing_behind len body entries rest least ended here over some =
    record {
      entries = entries;
      rest = rest;
      lawful = here.lawful;
      spelled = here.spelled;
      behind = inr (here.flag.0 over, some, refl);
    }

pub is_body : (body : List ℕ) (entries : List Entry) (rest : List ℕ) (least : ℕ) (ended : Bool) → IsAt body entries rest least ended → ended ≡ true → rest ≡ [] → IsBody body entries
is_body body entries rest least ended here over none =
    record {
      lawful = here.lawful;
      ended = here.flag.0 over;
      spelled = here.spelled ∙ ap (λ (x : List ℕ). spellings entries ++ x) none ∙ append-nil (spellings entries);
    }

pub none_left : (rest : List ℕ) (b : Bool) → b ≡ eqb (length rest) 0 → b ≡ false → rest ≡ [] → ⊥
none_left [] b is more none = cc
none_left (x ∷ rest) b is more none = cc
