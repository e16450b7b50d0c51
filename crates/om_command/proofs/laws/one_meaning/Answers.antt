use Rattle.std.proofs.Common.{◌≡◌, ap, inl, inr, Ok, Err, Some, None}
use Rattle.std.specs.Prelude.{Option, Result}
use Rattle.om_log.specs.declared.fault.LogFault.{LogFault}
use Rattle.om_log.specs.declared.log.Log.{Log}
use Rattle.om_names.specs.Information.{Information}
use Rattle.om_names.specs.declared.fault.NamesFault.{NamesFault}
use Rattle.om_type.specs.declared.typed.Typed.{Typed}
use Rattle.om_command.proofs.QueryLemmas.{one_query_of}
use Rattle.om_command.specs.Readings.{IsDebugReading, IsLogReading, IsQueryReading}
use Rattle.om_command.proofs.laws.one_meaning.Goals as goal

pub returns-clause-debug : goal.returns-clause-debug
returns-clause-debug c =
    λ elf.
    elim (c.one_debug.ensures.total elf) as (λ _. (read : Result Information NamesFault) × IsDebugReading elf read) [
      | inl info ↦ (Ok info.0, info.1)
      | inr fault ↦ (Err fault.0, fault.1)
    ]

pub returns-clause-one_debug : goal.returns-clause-one_debug
returns-clause-one_debug c =
    λ elf a b.
    elim a as (λ r. IsDebugReading elf r → IsDebugReading elf b → r ≡ b) [
      | Ok info ↦ elim b as (λ r. IsDebugReading elf (Ok info) → IsDebugReading elf r → ◌≡◌ {A = Result Information NamesFault} (Ok info) r) [
        | Ok other ↦ λ is too. ap (λ i. Ok i) (c.one_debug.ensures.information elf info other is too)
        | Err fault ↦ λ is too. absurd (c.one_debug.ensures.apart elf info fault is too)
      ]
      | Err fault ↦ elim b as (λ r. IsDebugReading elf (Err fault) → IsDebugReading elf r → ◌≡◌ {A = Result Information NamesFault} (Err fault) r) [
        | Ok info ↦ λ is too. absurd (c.one_debug.ensures.apart elf info fault too is)
        | Err other ↦ λ is too. ap (λ f. Err f) (c.one_debug.ensures.refusal elf fault other is too)
      ]
    ]

pub returns-clause-log : goal.returns-clause-log
returns-clause-log c =
    λ file bytes.
    elim (c.log_or_fault.ensures file bytes) as (λ _. (read : Result Log LogFault) × IsLogReading file read) [
      | inl log ↦ (Ok log.0, log.1)
      | inr fault ↦ (Err fault.0, fault.1)
    ]

pub returns-clause-query : goal.returns-clause-query
returns-clause-query c =
    λ variables text.
    elim (c.tree_or_refusal.ensures text) as (λ _. (read : Option Typed) × IsQueryReading variables text read) [
      | inl query ↦ elim (c.typing_or_unbuilt.ensures variables query.0) as (λ _. (read : Option Typed) × IsQueryReading variables text read) [
        | inl typed ↦ (Some typed.0, (query.0, query.1, typed.1))
        | inr unbuilt ↦ (None, inl (query.0, query.1, unbuilt))
      ]
      | inr fault ↦ (None, inr (fault.0, fault.1))
    ]

pub returns-clause-one_log : goal.returns-clause-one_log
returns-clause-one_log c =
    λ file a b.
    elim a as (λ r. IsLogReading file r → IsLogReading file b → r ≡ b) [
      | Ok log ↦ elim b as (λ r. IsLogReading file (Ok log) → IsLogReading file r → ◌≡◌ {A = Result Log LogFault} (Ok log) r) [
        | Ok other ↦ λ is too. ap (λ l. Ok l) (c.one_reading.ensures.log file log other is too)
        | Err fault ↦ λ is too. absurd (c.one_reading.ensures.either file log fault is too)
      ]
      | Err fault ↦ elim b as (λ r. IsLogReading file (Err fault) → IsLogReading file r → ◌≡◌ {A = Result Log LogFault} (Err fault) r) [
        | Ok log ↦ λ is too. absurd (c.one_reading.ensures.either file log fault too is)
        | Err other ↦ λ is too. ap (λ f. Err f) (c.one_reading.ensures.fault file fault other is too)
      ]
    ]

pub returns-clause-one_query : goal.returns-clause-one_query
returns-clause-one_query c =
    one_query_of (record {
      tree = c.one_tree.ensures.of_text;
      either = c.never_both.ensures.of_text;
      typing = c.one_typing.ensures;
      apart = c.never_both-2.ensures;
    })
