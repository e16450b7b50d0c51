-- A shelf in memory, and what a take and a put leave of it.
use Rattle.std.specs.Prelude.{ℕ, List, [], ◌∷◌, ◌++◌, Some, Result, Ok, Err}
use Rattle.om_io.specs.Counts.{one_more}
use Rattle.om_io.specs.Files.{held_in, times}
use Rattle.om_io.specs.MemSink.{none_fails}
use Rattle.om_io.specs.Shelf.{ShelfTold}
use Rattle.om_io.specs.declared.shelf.Taken.{Taken}
use Rattle.om_io.specs.declared.shelf.ShelfFail.{ShelfFail}
use Rattle.om_io.specs.declared.shelf.ShelfFail.TheVariants.{NoMemory, Failed}

-- names with their bytes, the numbers of the calls that fail, how many calls there were, and the names of
-- the files that could not be taken and of those that could not be put, oldest first
pub record ShelfState : Type 0 where
  pub files : List (List ℕ × List ℕ)
  pub failing : List ℕ
  pub calls : ℕ
  pub failed_takes : List (List ℕ)
  pub failed_puts : List (List ℕ)

-- what the shelf tells: all of it
abbrev pub told_by : ShelfState → ShelfTold
told_by state = record {
  files = Some (held_in state.files);
  failed_takes = times state.failed_takes;
  failed_puts = times state.failed_puts;
  is_faultless = none_fails state.failing;
}

-- the state after one more call
abbrev pub called : ShelfState → ShelfState
called state = record state { calls = one_more state.calls }

-- the state after a take of a name with that result
abbrev pub after_take : ShelfState → List ℕ → Result Taken ShelfFail → ShelfState
after_take state name (Ok taken) = called state
after_take state name (Err NoMemory) = called state
after_take state name (Err Failed) = record (called state) { failed_takes = state.failed_takes ++ name ∷ [] }

-- the state after a put of bytes under a name with that result
abbrev pub after_put : ShelfState → List ℕ → List ℕ → Result (Unit {0}) ShelfFail → ShelfState
after_put state name bytes (Ok done) = record (called state) { files = (name, bytes) ∷ state.files }
after_put state name bytes (Err NoMemory) = called state
after_put state name bytes (Err Failed) = record (called state) { failed_puts = state.failed_puts ++ name ∷ [] }
