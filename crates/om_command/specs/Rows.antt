-- What a replay answers.
use Rattle.std.specs.Prelude.{◌≡◌, ℕ, List, [], ◌∷◌, map, if◌then◌else◌, Option, Some, None, Result, Ok, Err}
use Rattle.om_eval.specs.Row.{Row}
use Rattle.om_eval.specs.declared.value.Owned.{Owned}
use Rattle.om_log.specs.declared.entry.Entry.{Entry}
use Rattle.om_run.specs.Departure.{departure_of}
use Rattle.om_run.specs.Run.{below, state_at}
use Rattle.om_run.specs.declared.departure.Halt.{Halt}
use Rattle.om_run.specs.declared.departure.Halt.TheVariants as halt
use Rattle.om_step.specs.State.{State}
use Rattle.om_command.specs.Answer.{answer_rows, answer_text, cells_of, is_kept, rows_from}
use Rattle.om_command.specs.Command.{ended_by}
use Rattle.om_names.specs.Facts.{Facts}
use Rattle.om_view.specs.Row.{row_of}
use Rattle.om_eval.specs.declared.cond.Cond.{Cond}
use Rattle.om_type.specs.declared.typed.Output.{Output}
use Rattle.om_command.specs.declared.ending.Ending.{Ending}
use Rattle.om_command.specs.declared.ending.Ending.TheVariants.{Refused}
use Rattle.om_command.specs.declared.refusal.Refusal.TheVariants as refusal
use Rattle.om_command.specs.Reads.{IsRefusal}

-- the row of the state after so many steps
abbrev pub row_at : Facts → List Entry → State → ℕ → Row
row_at facts entries first i = row_of facts (state_at entries first i) i

-- the rows of the states before a step
abbrev pub rows_before : Facts → List Entry → State → ℕ → List Row
rows_before facts entries first i = rows_from facts 0 (map (state_at entries first) (below i))

-- a row's cells, if the condition is true at it
abbrev pub noted : Cond → List Output → Row → List (List Owned)
noted condition outputs row = if is_kept condition row then cells_of outputs row ∷ [] else []

-- the answer is the rows of a run that comes to its end, the refusal of one that departs from its log, or want of memory
abbrev pub GivesRows : Facts → List Entry → State → Cond → List Output → Result (List (List Owned)) Ending → Type 0
GivesRows facts entries first condition outputs (Ok rows) = (departure_of entries first ≡ None) × (rows ≡ answer_rows facts entries first condition outputs)
GivesRows facts entries first condition outputs (Err ending) = IsRefusal (ended_by (departure_of entries first) (answer_text facts entries first condition outputs)) ending

-- how a command ends whose replay halts, if that is no end of the run
abbrev pub end_by_halt : Halt → Option Ending
end_by_halt halt.Ended = None
end_by_halt (halt.Departs departure) = Some (Refused (refusal.Departs departure))
