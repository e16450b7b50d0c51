-- The rule for the canonical frame address: DWARF 4, section 6.4.2.2 and section 6.4.3.
use Rattle.std.specs.Prelude.{ℕ, ℤ, pos, neg_ℤ, ◌+◌, ◌*◌, ◌*ℤ◌, ◌%◌, ◌^◌, ◌&&◌, nat_lt, int_le, int_lt, if◌then◌else◌, List, [], ◌∷◌, length, Option, Some, None}
use Rattle.std.specs.Option.{option_and_then, option_map}
use Rattle.om_cfi.specs.Instructions.{items}
use Rattle.om_cfi.specs.declared.common.CommonEntry.{CommonEntry}
use Rattle.om_cfi.specs.declared.common.CommonEntry.TheVariants.{Ruled, Ruleless}
use Rattle.om_cfi.specs.declared.instruction.Instruction.{Instruction}
use Rattle.om_cfi.specs.declared.instruction.Instruction.TheVariants as i
use Rattle.om_cfi.specs.declared.instruction.Item.{Item}
use Rattle.om_cfi.specs.declared.instruction.Item.TheVariants.{Broken, Known, Unknown}
use Rattle.om_cfi.specs.declared.instruction.Offset.{Offset}
use Rattle.om_cfi.specs.declared.instruction.Offset.TheVariants.{Plain, Scaled}
use Rattle.om_cfi.specs.declared.rule.Factors.{Factors}
use Rattle.om_cfi.specs.declared.rule.Rule.{Rule}

-- the rule in force, if there is one, and those that are saved, the last first
pub record Rules : Type 0 where
  pub rule : Option Rule
  pub saved : List (Option Rule)

-- a number of 64 bits with a sign
abbrev pub if_fits : ℤ → Option ℤ
if_fits z = if int_le (neg_ℤ (pos (2 ^ 63))) z && int_lt z (pos (2 ^ 63)) then Some z else None

-- an offset in bytes
abbrev pub offset_by : ℤ → Offset → Option ℤ
offset_by scale (Plain n) = if_fits (pos n)
offset_by scale (Scaled z) = if_fits (z *ℤ scale)

abbrev pub with_rule : Rules → Rule → Rules
with_rule rules rule = record { rule = Some rule; saved = rules.saved }

-- the last saved rule taken back, if there is one
abbrev pub restored : List (Option Rule) → Option Rules
restored [] = None
restored (rule ∷ saved) = Some (record { rule = rule; saved = saved })

-- what an instruction makes of the rules; none where there is no rule from it on
unfoldable pub done : ℤ → Instruction → Rules → Option Rules
done scale i.Save rules = if nat_lt (length rules.saved) 64 then Some (record { rule = rules.rule; saved = rules.rule ∷ rules.saved }) else None
done scale i.Restore rules = restored rules.saved
done scale (i.Define register offset) rules = option_map (λ n. with_rule rules (record { register = register; offset = n })) (offset_by scale offset)
done scale (i.Register register) rules = option_map (λ rule. with_rule rules (record { register = register; offset = rule.offset })) rules.rule
done scale (i.Offset offset) rules = option_and_then (λ rule. option_map (λ n. with_rule rules (record { register = rule.register; offset = n })) (offset_by scale offset)) rules.rule
done scale i.Forget rules = Some (record { rule = None; saved = rules.saved })
done scale i.Nothing rules = Some rules
done scale (i.Advance units) rules = Some rules
done scale (i.SetLocation to) rules = Some rules

-- the rules behind some instructions
unfoldable pub after : ℤ → List Item → Rules → Option Rules
after scale [] rules = Some rules
after scale (Known instruction ∷ items) rules = option_and_then (after scale items) (done scale instruction rules)
after scale (Unknown ∷ items) rules = None
after scale (Broken ∷ items) rules = None

-- the location behind an instruction
abbrev pub moved : ℕ → ℕ → Instruction → ℕ
moved code location (i.Advance units) = (location + units * code) % 2 ^ 32
moved code location (i.SetLocation to) = to
moved code location instruction = location

-- the rules at an address, by the instructions from a location on: those up to where the location passes the address count
unfoldable pub up_to : Factors → ℕ → ℕ → List Item → Rules → Option Rules
up_to factors pc location [] rules = Some rules
up_to factors pc location (Known instruction ∷ items) rules =
    if nat_lt pc location then Some rules
    else option_and_then (up_to factors pc (moved factors.code_alignment location instruction) items) (done factors.data_alignment instruction rules)
up_to factors pc location (Unknown ∷ items) rules = if nat_lt pc location then Some rules else None
up_to factors pc location (Broken ∷ items) rules = if nat_lt pc location then Some rules else None

-- the rules before any instruction
abbrev pub nothing_ruled : Rules
nothing_ruled = record { rule = None; saved = [] }

-- the rules behind the instructions that some descriptions have in common
abbrev pub rules_behind : CommonEntry → Option Rules
rules_behind Ruleless = None
rules_behind (Ruled factors common) = after factors.data_alignment (items 0 common) nothing_ruled

-- a rule of one of the 32 registers
abbrev pub told : Rule → Option (ℕ × ℤ)
told rule = if nat_lt rule.register 32 then Some (rule.register, rule.offset) else None

-- the rule in force, if it is there and of one of those
abbrev pub in_force : Rules → Option (ℕ × ℤ)
in_force rules = option_and_then told rules.rule

-- the rule at an address, by an entry whose instructions begin at a location, behind those that are common
unfoldable pub rule_at : Factors → List ℕ → ℕ → List ℕ → ℕ → Option (ℕ × ℤ)
rule_at factors common first own pc =
    option_and_then in_force (option_and_then (up_to factors pc first (items 0 own)) (after factors.data_alignment (items 0 common) nothing_ruled))
