-- What a reader answers, by the laws that a file has one log or one fault.
use Rattle.std.proofs.Common.{◌≡◌, ℕ, List, Result, Ok, Err, ap, inl, inr, ◌⊎◌}
use Rattle.std.specs.Prelude.{IfOk, IfErr}
use Rattle.om_log.specs.Faults.{IsFault}
use Rattle.om_log.specs.Grammar.{IsLog}
use Rattle.om_log.specs.declared.fault.LogFault.{LogFault}
use Rattle.om_log.specs.declared.fault.LogFault.TheVariants.{NoMemory}
use Rattle.om_log.specs.declared.log.Log.{Log}
use Rattle.om_log.proofs.LogLaws.{one_log, one_fault, no_fault}

-- an answer of a reader is a log of the file, want of memory, or a fault of the file
pub reads : (file : List ℕ) (result : Result Log LogFault) → IfOk result (λ log. IsLog file log) → IfErr result (λ f. (f ≡ NoMemory) ⊎ IsFault file f)
    → (log : Log) → IsLog file log → (result ≡ Ok log) ⊎ (result ≡ Err NoMemory)
reads file (Ok other) ok err log is = inl (ap Ok (one_log file other log ok is))
reads file (Err f) ok (inl none) log is = inr (ap Err none)
reads file (Err f) ok (inr fault) log is = absurd (no_fault file log f is fault)

pub refuses : (file : List ℕ) (result : Result Log LogFault) → IfOk result (λ log. IsLog file log) → IfErr result (λ f. (f ≡ NoMemory) ⊎ IsFault file f)
    → (fault : LogFault) → IsFault file fault → (result ≡ Err fault) ⊎ (result ≡ Err NoMemory)
refuses file (Ok log) ok err fault is = absurd (no_fault file log fault ok is)
refuses file (Err f) ok (inl none) fault is = inr (ap Err none)
refuses file (Err f) ok (inr other) fault is = inl (ap Err (one_fault file f fault other is))
