-- That the recorder's walk is the run.
use Rattle.std.proofs.Common.{◌≡◌, ℕ, ◌+◌, List, refl, ap, ◌∙◌, sym, arith, inl, inr, None, Result, is_ok, if◌then◌else◌}
use Rattle.om_log.specs.Chunk.{Chunk}
use Rattle.om_log.specs.declared.start.Start.{Start}
use Rattle.om_mem.specs.declared.writing.WriteOutside.{WriteOutside}
use Rattle.om_record.specs.Kernel.{Kernel, Answer, answer_to}
use Rattle.om_record.specs.Recording.{served}
use Rattle.om_record.specs.Progress.{GoesOn, IsWalk, moment, steps_on}
use Rattle.om_record.proofs.KernelLemmas.{writes_inside}
use Rattle.om_record.proofs.EndLemmas.{last_or, one_more}
use Rattle.om_step.specs.State.{State}
use Rattle.om_step.specs.Step.{after_answer, outcome, outside_of, next, answer_result}
use Rattle.om_step.specs.declared.outcome.Touched.{Touched}

-- ---- a walk

pub walk_none : (s : State) (n : ℕ) → n ≡ 0 → IsWalk s n s
unfolding steps_on
walk_none s n e = rw e (record { comes = refl; goes = λ k h. absurd (omega arith) })

pub walk_more : (s : State) (n : ℕ) (t : State) → IsWalk s n t → GoesOn (outcome t) → IsWalk s (n + 1) (next t)
unfolding steps_on
walk_more s n t walk goes = record {
  comes = rw (one_more n) (ap next walk.comes);
  goes = λ k h. elim (last_or k n h) [ inl below ↦ walk.goes k below | inr is ↦ rw (is, ← walk.comes) goes ];
}

-- ---- a call

answered_is : (start : Start) (kernel later : Kernel) (s after : State) (value : ℕ) (writes : List Chunk)
    → answer_to start kernel s ≡ record { result = value; writes = writes; kernel = later } → outside_of s.memory.regions writes ≡ None
answered_is start kernel later s after value writes is =
    ap (λ (a : Answer). outside_of s.memory.regions a.writes) (sym is) ∙ writes_inside start kernel s

-- the machine that is answered as the kernel answers is the one of the next moment
pub served_is : (start : Start) (kernel later : Kernel) (s after : State) (value : ℕ) (writes : List Chunk)
    → answer_to start kernel s ≡ record { result = value; writes = writes; kernel = later }
    → after ≡ after_answer s value writes (outside_of s.memory.regions writes)
    → moment after later ≡ served (moment s kernel) (answer_to start kernel s)
served_is start kernel later s after value writes is done =
    ap (λ (t : State). moment t later) (done ∙ ap (after_answer s value writes) (answered_is start kernel later s after value writes is))
    ∙ ap (served (moment s kernel)) (sym is)

-- and a step was made
pub served_step : (start : Start) (kernel later : Kernel) (s : State) (value : ℕ) (writes : List Chunk) (result : Result Touched WriteOutside) (before after : ℕ)
    → answer_to start kernel s ≡ record { result = value; writes = writes; kernel = later }
    → result ≡ answer_result writes (outside_of s.memory.regions writes)
    → after ≡ before + (if is_ok result then 1 else 0) → after ≡ before + 1
served_step start kernel later s value writes result before after is is_answer made =
    made ∙ ap (λ (r : Result Touched WriteOutside). before + (if is_ok r then 1 else 0)) (is_answer ∙ ap (answer_result writes) (answered_is start kernel later s s value writes is))
