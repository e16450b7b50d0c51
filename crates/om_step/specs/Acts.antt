-- What the code relies on of an action. Nobody above needs it.
use Rattle.std.specs.Prelude.{◌≡◌, ◌⊎◌, ℕ, ◌<◌}
use Rattle.om_step.specs.declared.action.Action.{Action}
use Rattle.om_step.specs.declared.action.Action.TheVariants.{Go, Load, Store, Ask, Halt}

-- so many bytes are loaded or stored at once
abbrev pub IsWidth : ℕ → Type 0
IsWidth count = (count ≡ 1) ⊎ (count ≡ 2) ⊎ (count ≡ 4)

-- an action writes a register that there is, and loads and stores 1, 2 or 4 bytes
abbrev pub IsSound : Action → Type 0
IsSound (Go rd value pc) = rd < 32
IsSound (Load rd address count extends) = (rd < 32) × IsWidth count
IsSound (Store address count value) = IsWidth count
IsSound Ask = Unit {0}
IsSound (Halt cause) = Unit {0}
