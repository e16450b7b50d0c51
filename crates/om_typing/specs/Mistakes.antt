-- Mistakes, and which of several is told.
use Rattle.std.specs.Prelude.{ℕ, Bool, ◌&&◌, ◌||◌, nat_eq, nat_lt, nat_le, if◌then◌else◌, List, [], ◌∷◌, Option, Some, None, find}
use Rattle.std.specs.List.{fold, list_all}
use Rattle.om_value.specs.declared.kind.Wrong.{Wrong}
use Rattle.om_value.specs.declared.kind.Wrong.TheVariants as wrong
use Rattle.om_typing.specs.declared.mistake.Foremost.{Foremost}
use Rattle.om_typing.specs.declared.mistake.Mistake.{Mistake}
use Rattle.om_typing.specs.declared.mistake.Rule.{Rule}
use Rattle.om_typing.specs.declared.mistake.Rule.TheVariants as rule

-- the place of a rule among those that are broken at one place
abbrev pub rank : Rule → ℕ
rank rule.NoTable = 0
rank rule.NoColumn = 1
rank rule.Ambiguous = 2
rank rule.NoScalar = 3
rank rule.Clash = 4
rank rule.Range = 5
rank rule.NotGrouped = 6
rank rule.CountOverJoin = 7
rank rule.TooManyTables = 8
rank rule.Divisor = 9
rank rule.Position = 10

-- the rule by which an operator is refused
abbrev pub rule_of : Wrong → Rule
rule_of wrong.Clash = rule.Clash
rule_of wrong.Range = rule.Range
rule_of wrong.Divisor = rule.Divisor

abbrev pub mistake : ℕ → Rule → Mistake
mistake at broken = record { at = at; rule = broken }

-- one mistake, or none
abbrev pub mistake_if : Bool → ℕ → Rule → List Mistake
mistake_if is_there at broken = if is_there then mistake at broken ∷ [] else []

-- a mistake stands before another, or at its place and its rule isn't behind
abbrev pub leads : Mistake → Mistake → Bool
leads one other = nat_lt one.at other.at || (nat_eq one.at other.at && nat_le (rank one.rule) (rank other.rule))

-- of several mistakes the one that is told: the one of least place, of those at one place the one whose rule is first
unfoldable pub foremost : List Mistake → Option Mistake
foremost mistakes = find (λ one. list_all (leads one) mistakes) mistakes

-- the same, found one by one
abbrev pub noted : Foremost → Mistake → Foremost
noted found other = record { mistake = Some (first_of found.mistake other) }
  where
    first_of : Option Mistake → Mistake → Mistake
    first_of None other = other
    first_of (Some one) other = if leads one other then one else other

abbrev pub noted_all : Foremost → List Mistake → Foremost
noted_all = fold noted
