-- The rules while instructions are run, and where they are kept.
use Rattle.std.specs.Prelude.{◌≡◌, ◌≤◌, Bool, if◌then◌else◌, length, reverse, IfSome, Option, Some, None}
use Rattle.std.specs.Option.{option_map}
use Rattle.om_cfi.specs.Rules.{Rules, rules_behind}
use Rattle.om_cfi.specs.declared.common.CommonEntry.{CommonEntry}
use Rattle.om_cfi.specs.declared.kept_common.Behind.{Behind}
use Rattle.om_cfi.specs.declared.running.Running.{Running}

abbrev pub rules_of : Running → Rules
rules_of running = record { rule = running.rule; saved = reverse running.saved.items }

-- the rules, if there still are any
abbrev pub if_still : Bool → Running → Option Rules
if_still still running = if still then Some (rules_of running) else None

abbrev pub rules_kept : Behind → Rules
rules_kept behind = record { rule = behind.rule; saved = reverse behind.saved }

-- what is kept of an entry are the rules behind its instructions
pub record IsKeptOf (entry : CommonEntry) (behind : Option Behind) : Type 0 where
  pub rules : option_map rules_kept behind ≡ rules_behind entry
  pub few : IfSome behind (λ rules. length rules.saved ≤ 64)
