-- The rules of descriptions in rows, each with the addresses at which it is in force, where the first row that has an address counts.
use Rattle.std.specs.Prelude.{ℕ, ℤ, ◌+◌, nat_lt, max, min, if◌then◌else◌, List, [], ◌∷◌, ◌++◌, map, flat_map, Option, Some, None}
use Rattle.om_base.specs.declared.span.Span.{Span}
use Rattle.om_claims.specs.declared.claim.Claim.{Claim}
use Rattle.om_cfi.specs.Instructions.{items}
use Rattle.om_cfi.specs.Rules.{Rules, after, done, in_force, moved, nothing_ruled}
use Rattle.om_cfi.specs.declared.description.Description.{Description}
use Rattle.om_cfi.specs.declared.instruction.Item.{Item}
use Rattle.om_cfi.specs.declared.instruction.Item.TheVariants.{Broken, Known, Unknown}
use Rattle.om_cfi.specs.declared.rows.Rows.{Rows}
use Rattle.om_cfi.specs.declared.rule.Factors.{Factors}

abbrev pub Row : Type 0
Row = Option (ℕ × ℤ) × Span

abbrev pub row : Option (ℕ × ℤ) → ℕ → ℕ → Row
row rule lo hi = (rule, record { lo = lo; hi = hi })

-- ---- the rows of a description

-- a rule that is in force from an address on, where a location rises above that: up to there, or to the end
abbrev pub risen : ℕ → ℕ → ℕ → Option (ℕ × ℤ) → List Row
risen low location end rule = if nat_lt low location then row rule low (min location end) ∷ [] else []

-- no rule up to the end, where there are none any more
abbrev pub rows_then : ℕ → ℕ → (Rules → List Row) → Option Rules → List Row
rows_then low end next None = row None low end ∷ []
rows_then low end next (Some rules) = next rules

-- the rows from an address on, the highest location so far, by the instructions from a location on
unfoldable pub rows_after : Factors → ℕ → ℕ → ℕ → List Item → Rules → List Row
rows_after factors end low location [] rules = row (in_force rules) low end ∷ []
rows_after factors end low location (Known instruction ∷ items) rules =
    rows_then low end
    (λ made. risen low (moved factors.code_alignment location instruction) end (in_force made)
    ++ rows_after factors end (max low (moved factors.code_alignment location instruction)) (moved factors.code_alignment location instruction) items made)
    (done factors.data_alignment instruction rules)
rows_after factors end low location (Unknown ∷ items) rules = row None low end ∷ []
rows_after factors end low location (Broken ∷ items) rules = row None low end ∷ []

-- the rows of a description, by the rules that its instructions begin with
unfoldable pub rows_from : Description → Option Rules → List Row
rows_from it rules =
    rows_then it.first (it.first + it.length) (rows_after it.factors (it.first + it.length) it.first it.first (items 0 it.own)) rules

unfoldable pub rows_of : Description → List Row
rows_of it = rows_from it (after it.factors.data_alignment (items 0 it.common) nothing_ruled)

-- ---- rows as they are gathered

abbrev pub claims_in : List Row → List Claim
claims_in rows = map (λ r. record { span = r.1; depth = 0 }) rows

unfoldable pub with_rows : Rows → List Row → Rows
with_rows rows more = record { rules = rows.rules ++ map (λ r. r.0) more; claims = rows.claims ++ claims_in more }

abbrev pub no_rows : Rows
no_rows = record { rules = []; claims = [] }

-- the rows of some descriptions, one after another
unfoldable pub with_descriptions : Rows → List Description → Rows
with_descriptions rows descriptions = with_rows rows (flat_map rows_of descriptions)
