-- What is kept of a section while it is read and behind that, and what it tells.
use Rattle.std.specs.Prelude.{◌≡◌, ℕ, ℤ, nat_eq, if◌then◌else◌, List, Option, Some, None}
use Rattle.std.specs.BTreeMap.{get}
use Rattle.std.specs.List.{slice_get}
use Rattle.std.specs.Option.{option_and_then}
use Rattle.std.specs.Ordering.{nat_cmp}
use Rattle.om_claims.specs.Pieces.{IsIndexOf, owner_in}
use Rattle.om_claims.specs.declared.claim.Claim.{Claim}
use Rattle.om_claims.specs.declared.piece.Piece.{Piece}
use Rattle.om_cfi.specs.Frames.{common_at}
use Rattle.om_cfi.specs.declared.common.CommonEntry.{CommonEntry}
use Rattle.om_cfi.specs.declared.commons.Commons.{Commons}
use Rattle.om_cfi.specs.declared.entries.Entry.{Entry}

-- ---- what descriptions have in common

abbrev pub find_in : Commons → ℕ → Option CommonEntry
find_in commons offset = get nat_cmp commons.by_offset offset

abbrev pub told_at : ℕ → CommonEntry → ℕ → Option CommonEntry
told_at at common offset = if nat_eq at offset then Some common else None

-- what is kept is what some entries say, each at its offset
abbrev pub AreCommons : List Entry → Commons → Type 0
AreCommons entries commons = (offset : ℕ) → find_in commons offset ≡ common_at entries offset

-- ---- rules

-- the rules of rows, and whose each address is, by the place of a row
pub record KeptRules : Type 0 where
  pub rules : List (Option (ℕ × ℤ))
  pub pieces : List Piece

-- pieces are the index of some claims
abbrev pub AreIndex : List Piece → Type 0
AreIndex pieces = (claims : List Claim) × IsIndexOf claims pieces

-- the rule of a row that may not be there
abbrev pub rule_in : List (Option (ℕ × ℤ)) → Option ℕ → Option (ℕ × ℤ)
rule_in rules place = option_and_then (λ rule. rule) (option_and_then (slice_get rules) place)

-- what is kept tells of each address which rule is in force there
unfoldable pub rules_told_by : KeptRules → ℕ → Option (ℕ × ℤ)
rules_told_by kept = λ pc. rule_in kept.rules (owner_in kept.pieces pc)
