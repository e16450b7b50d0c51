-- What the rows of a line table claim, where the first that has an address counts.
use Rattle.std.specs.Prelude.{List, map}
use Rattle.om_claims.specs.declared.claim.Claim.{Claim}
use Rattle.om_line.specs.Lines.{ranged}
use Rattle.om_line.specs.declared.row.LineRow.{LineRow}

-- the claim of each row to its addresses
abbrev pub claims_of : List LineRow → List Claim
claims_of rows = map (λ r. record { span = r.1; depth = 0 }) (ranged rows)
