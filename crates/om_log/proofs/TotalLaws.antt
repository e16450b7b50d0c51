-- Each file is a log or has a fault.
use Rattle.std.proofs.Common.{◌≡◌, ℕ, zero, suc, ◌-◌, ◌≤◌, true, false, List, [], ◌∷◌, ◌++◌, length, drop, Option, Some, None, refl, ap, ◌∙◌, arith, inl, inr, ◌⊎◌}
use Rattle.std.proofs.lemmas.Bool.{cases_eq, cases_lt}
use Rattle.om_log.specs.Faults.{IsKind, IsRefused, IsBodyFault, IsFault, header_fault, start_in}
use Rattle.om_log.specs.Grammar.{header, HasCause, step_of, next_of, IsEnd, IsLog}
use Rattle.om_log.specs.EntryFields.{entry_field}
use Rattle.om_log.specs.Regions.{FitsStart, IsLawfulStart}
use Rattle.om_log.specs.Steps.{IsFirst, IsBody}
use Rattle.om_log.specs.declared.entry.Entry.{Entry}
use Rattle.om_log.specs.declared.entry.Entry.TheVariants.{Call, Mark, End}
use Rattle.om_log.specs.declared.fault.LogFault.{LogFault}
use Rattle.om_log.specs.declared.fault.LogFault.TheVariants.{Short, Kind, Order, NoEnd, Trailing}
use Rattle.om_log.specs.declared.log.Log.{Log}
use Rattle.om_log.specs.declared.start.Start.{Start}
use Rattle.om_log.proofs.FieldLaws.{IsBytes, IsBytes-rest}
use Rattle.om_log.proofs.BodyLaws.{refused_end, refused_kind, refused_short, refused_cause, refused_order, first_is, IsAt, starts, goes_on, shorter, refused_behind, trailing_behind, is_body}
use Rattle.om_log.proofs.HeaderLaws.{header_there}

-- ---- one entry

cause_cases : (e : Entry) → HasCause e ⊎ (HasCause e → ⊥)
unfolding HasCause
cause_cases (Call step number args result writes) = inl tt
cause_cases (Mark step pc sum) = inl tt
cause_cases (End step cause value) =
    elim (cases_lt 2 cause) [
      | inl above ↦ inr (λ h. omega (arith, h.0))
      | inr within ↦ elim (cases_eq cause 1) [
        | inr other ↦ inl (within, λ is. absurd (other is))
        | inl cut ↦ elim (cases_eq value 0) [
          | inl none ↦ inl (within, λ _. none)
          | inr some ↦ inr (λ h. some (h.1 cut))
        ]
      ]
    ]

end_cases : (e : Entry) → IsEnd e ⊎ (IsEnd e → ⊥)
unfolding IsEnd
end_cases (Call step number args result writes) = inr (λ h. h)
end_cases (Mark step pc sum) = inr (λ h. h)
end_cases (End step cause value) = inl tt

-- some bytes begin with an entry that may stand there, or have a fault
abbrev pub Decides : ℕ → ℕ → List ℕ → Type 0
Decides least at rest = ((x : Entry × List ℕ) × IsFirst least rest x.0 x.1) ⊎ ((f : LogFault) × IsRefused least at rest f)

by_field : (least at kind : ℕ) (rest : List ℕ) (o : Option (Entry × List ℕ)) → IsBytes (kind ∷ rest) → IsKind kind → entry_field (kind ∷ rest) ≡ o → Decides least at (kind ∷ rest)
by_field least at kind rest None bytes is_kind e = inr (Short at, refused_short least at (kind ∷ rest) kind refl is_kind e)
by_field least at kind rest (Some x) bytes is_kind e =
    elim (cause_cases x.0) [
      | inr none ↦ inr (Kind at, refused_cause least at (kind ∷ rest) x.0 x.1 bytes e none)
      | inl cause ↦ elim (cases_lt (step_of x.0) least) [
        | inl early ↦ inr (Order at, refused_order least at (kind ∷ rest) x.0 x.1 bytes e cause early)
        | inr late ↦ inl (x, first_is least (kind ∷ rest) x.0 x.1 bytes e cause late)
      ]
    ]

entry_or_refused : (least at : ℕ) (rest : List ℕ) → IsBytes rest → Decides least at rest
entry_or_refused least at [] bytes = inr (NoEnd, refused_end least at [] refl)
entry_or_refused least at (kind ∷ rest) bytes =
    elim (cases_lt kind 1) [
      | inl below ↦ inr (Kind at, refused_kind least at (kind ∷ rest) kind refl (λ h. omega (arith, h.0)))
      | inr low ↦ elim (cases_lt 3 kind) [
        | inl above ↦ inr (Kind at, refused_kind least at (kind ∷ rest) kind refl (λ h. omega (arith, h.1)))
        | inr high ↦ by_field least at kind rest (entry_field (kind ∷ rest)) bytes (low, high) refl
      ]
    ]

-- ---- the entries

-- a body is the spelling of a whole log's entries, or has a fault
abbrev pub IsBodyOrFault : ℕ → List ℕ → Type 0
IsBodyOrFault len body = ((es : List Entry) × IsBody body es) ⊎ ((f : LogFault) × IsBodyFault len body f)

at_the_end : (len : ℕ) (body : List ℕ) (es : List Entry) (rest : List ℕ) (least : ℕ) → IsAt body es rest least true → IsBodyOrFault len body
at_the_end len body es [] least here = inl (es, is_body body es [] least true here refl refl)
at_the_end len body es (x ∷ rest) least here = inr (Trailing (len - length (x ∷ rest)), trailing_behind len body es (x ∷ rest) least true here refl (λ none. cc))

from_here : (fuel len : ℕ) (body : List ℕ) (es : List Entry) (rest : List ℕ) (least : ℕ) → length rest ≤ fuel → IsBytes rest → IsAt body es rest least false → IsBodyOrFault len body
from_here zero len body es rest least few bytes here =
    elim (entry_or_refused least (len - length rest) rest bytes) [
      | inl first ↦ absurd (omega (arith, shorter least rest first.0.0 first.0.1 first.1))
      | inr refused ↦ inr (refused.0, refused_behind len body es rest least false refused.0 here refl refused.1)
    ]
from_here (suc fuel) len body es rest least few bytes here =
    elim (entry_or_refused least (len - length rest) rest bytes) [
      | inr refused ↦ inr (refused.0, refused_behind len body es rest least false refused.0 here refl refused.1)
      | inl first ↦ elim (end_cases first.0.0) [
        | inl end ↦ at_the_end len body (es ++ first.0.0 ∷ []) first.0.1 (next_of first.0.0) (goes_on body es rest least false first.0.0 first.0.1 true here refl first.1 ((λ _. end), (λ _. refl)))
        | inr more ↦
            (let less : length first.0.1 ≤ fuel = omega (arith, shorter least rest first.0.0 first.0.1 first.1) in
            from_here fuel len body (es ++ first.0.0 ∷ []) first.0.1 (next_of first.0.0) less (IsBytes-rest rest _ first.0.1 bytes first.1.spelled)
            (goes_on body es rest least false first.0.0 first.0.1 false here refl first.1 ((λ h. cc), (λ h. absurd (more h)))))
      ]
    ]

pub body_or_fault : (len : ℕ) (body : List ℕ) → IsBytes body → IsBodyOrFault len body
body_or_fault len body bytes = from_here (length body) len body [] body 0 (omega arith) bytes (starts body)

-- ---- files

-- a file is the spelling of a log, or has a fault
abbrev pub IsLogOrFault : List ℕ → Type 0
IsLogOrFault file = ((log : Log) × IsLog file log) ⊎ ((f : LogFault) × IsFault file f)

with_body : (file : List ℕ) (start : Start) (body : List ℕ) → FitsStart start × (file ≡ header start ++ body) → IsLawfulStart start → IsBodyOrFault (length file) body → IsLogOrFault file
with_body file start body h lawful (inl list) =
    inl (
      record { start = start; entries = list.0 },
      record {
        lawful = record { fits = h.0; start = lawful; entries = list.1.lawful; ended = list.1.ended };
        spelled = h.1 ∙ ap (λ (x : List ℕ). header start ++ x) list.1.spelled;
      },
    )
with_body file start body h lawful (inr fault) =
    inr (fault.0, inr (record { start = start; body = body; fits = h.0; lawful = lawful; spelled = h.1; in_body = fault.1 }))

by_header : (file : List ℕ) (o : Option LogFault) → IsBytes file → header_fault file ≡ o → IsLogOrFault file
by_header file (Some fault) bytes e = inr (fault, inl e)
by_header file None bytes e =
    let h = header_there file bytes e in
    with_body file (start_in file) (drop 20 file) (h.fits, h.spelled) h.lawful
    (body_or_fault (length file) (drop 20 file) (IsBytes-rest file (header (start_in file)) (drop 20 file) bytes h.spelled))

pub log_or_fault : (file : List ℕ) → IsBytes file → IsLogOrFault file
log_or_fault file bytes = by_header file (header_fault file) bytes refl
