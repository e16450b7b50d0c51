-- Putting a machine back into a state that it was in.
use Rattle.std.specs.Prelude.{◌≡◌, ℕ, ◌<◌, false, List, Option, length, unwrap_or, IfSome}
use Rattle.om_mem.specs.Contents.{Contents, IsWhole}
use Rattle.om_mem.specs.declared.region.Region.{Region}
use Rattle.om_mem.specs.Pages.{flag, page_addresses, page_count, page_in}
use Rattle.om_step.specs.State.{State, Standing, core_of}
use Rattle.om_step.specs.declared.register_file.Core.{Core}

-- the bytes that are given for pages are as long as the pages
abbrev pub HaveLengths : List Region → (ℕ → Option (List ℕ)) → Type 0
HaveLengths regions bytes_at =
    (page : ℕ) → page < page_count regions → IfSome (bytes_at page) (λ bytes. length bytes ≡ length (page_addresses regions page))

-- each page is the one that is given, or where none is given the one that it was
pub record IsPut (before now : Contents) (bytes_at : ℕ → Option (List ℕ)) : Type 0 where
  pub regions : now.regions ≡ before.regions
  pub pages : (page : ℕ) → page < page_count before.regions → page_in now page ≡ unwrap_or (bytes_at page) (page_in before page)

-- the pages that are given, and the state's own where none is given, make up a state's memory; pc and registers are the core's
pub record IsBack (s : State) (given : Core) (bytes_at : ℕ → Option (List ℕ)) (target : State) : Type 0 where
  pub core : core_of target ≡ given
  pub regions : target.memory.regions ≡ s.memory.regions
  pub whole : IsWhole target.memory
  pub pages : (page : ℕ) → page < page_count s.memory.regions
      → page_in target.memory page ≡ unwrap_or (bytes_at page) (page_in s.memory page)

-- no page counts as written
abbrev pub IsClean : Standing → Type 0
IsClean standing = (page : ℕ) → page < page_count standing.state.memory.regions → flag standing.dirty page ≡ false
