-- What is wrong with a file that isn't a log: the first fault, from its first byte on.
use Rattle.std.specs.Prelude.{◌≡◌, ◌≢◌, ℕ, ◌-◌, ◌<◌, ◌≤◌, Bool, ◌&&◌, nat_eq, nat_le, List, [], ◌∷◌, ◌++◌, length, slice_index, Option, Some, ◌⊎◌}
use Rattle.om_base.specs.Firsts.{first_of, unless}
use Rattle.om_base.specs.Numbers.{word}
use Rattle.om_log.specs.Grammar.{spelling, spellings, header, Fits, HasCause, step_of, AreLawful, HasEnd, next_after}
use Rattle.om_log.specs.Regions.{FitsStart, IsLawfulStart, start_faults}
use Rattle.om_log.specs.declared.entry.Entry.{Entry}
use Rattle.om_log.specs.declared.fault.LogFault.{LogFault}
use Rattle.om_log.specs.declared.fault.LogFault.TheVariants.{Short, Magic, Version, Kind, Order, NoEnd, Trailing}
use Rattle.om_log.specs.declared.start.Start.{Start}

-- ---- the header

-- the file begins with the letters OTL
abbrev pub has_letters : List ℕ → Bool
has_letters file =
    nat_eq (slice_index file 0) 79 && nat_eq (slice_index file 1) 84 && nat_eq (slice_index file 2) 76

-- behind them it has the digit 1
abbrev pub has_version : List ℕ → Bool
has_version file = nat_eq (slice_index file 3) 49

-- the regions, by the numbers at their offsets
abbrev pub start_in : List ℕ → Start
start_in file = record {
  stack_low = word file 4;
  stack_size = word file 8;
  heap_low = word file 12;
  heap_size = word file 16;
}

-- what each rule of the header says, in their order: behind these, what each rule of the regions says
abbrev pub header_faults : List ℕ → List (Option LogFault)
header_faults file =
    unless (nat_le 20 (length file)) (Short 0)
    ∷ unless (has_letters file) Magic
    ∷ unless (has_version file) Version
    ∷ start_faults (start_in file)

-- the fault of a header: that of the first rule that it breaks
unfoldable pub header_fault : List ℕ → Option LogFault
header_fault file = first_of (header_faults file)

-- ---- the entries

-- some bytes begin with no whole entry
abbrev pub IsCut : List ℕ → Type 0
IsCut rest = (entry : Entry) (tail : List ℕ) → Fits entry → rest ≡ spelling entry ++ tail → ⊥

-- some bytes begin with an END that has no cause of the three, or is a cut with a value
pub record HasNoCause (rest : List ℕ) : Type 0 where
  pub entry : Entry
  pub tail : List ℕ
  pub fits : Fits entry
  pub spelled : rest ≡ spelling entry ++ tail
  pub causeless : HasCause entry → ⊥

-- some bytes begin with an entry whose step is below this one
pub record IsEarly (least : ℕ) (rest : List ℕ) : Type 0 where
  pub entry : Entry
  pub tail : List ℕ
  pub fits : Fits entry
  pub cause : HasCause entry
  pub spelled : rest ≡ spelling entry ++ tail
  pub early : step_of entry < least

-- a byte is the kind of an entry
abbrev pub IsKind : ℕ → Type 0
IsKind kind = (1 ≤ kind) × (kind ≤ 3)

-- the fault at an offset of bytes that begin with no entry: there are none, the kind is none, the entry isn't whole, or its cause is none
abbrev pub IsNoEntry : ℕ → List ℕ → LogFault → Type 0
IsNoEntry at [] fault = fault ≡ NoEnd
IsNoEntry at (kind ∷ rest) fault =
    ((IsKind kind → ⊥) × (fault ≡ Kind at))
    ⊎ ((IsKind kind × IsCut (kind ∷ rest) × (fault ≡ Short at))
    ⊎ (HasNoCause (kind ∷ rest) × (fault ≡ Kind at)))

-- the fault at an offset of bytes that begin with no entry that may stand where no step below this one may
unfoldable pub IsRefused : ℕ → ℕ → List ℕ → LogFault → Type 0
IsRefused least at rest fault = IsNoEntry at rest fault ⊎ (IsEarly least rest × (fault ≡ Order at))

-- the fault at an offset of the bytes behind lawful entries: the entry there is refused, or the entries have ended
unfoldable pub IsFaultBehind : List Entry → ℕ → List ℕ → LogFault → Type 0
IsFaultBehind entries at rest fault =
    ((HasEnd entries → ⊥) × IsRefused (next_after 0 entries) at rest fault)
    ⊎ (HasEnd entries × (rest ≢ []) × (fault ≡ Trailing at))

-- the fault of a file of this length with this body, which stands behind lawful entries
pub record IsBodyFault (len : ℕ) (body : List ℕ) (fault : LogFault) : Type 0 where
  pub entries : List Entry
  pub rest : List ℕ
  pub lawful : AreLawful 0 entries
  pub spelled : body ≡ spellings entries ++ rest
  pub behind : IsFaultBehind entries (len - length rest) rest fault

-- the fault of a file whose header is lawful
pub record IsEntryFault (file : List ℕ) (fault : LogFault) : Type 0 where
  pub start : Start
  pub body : List ℕ
  pub fits : FitsStart start
  pub lawful : IsLawfulStart start
  pub spelled : file ≡ header start ++ body
  pub in_body : IsBodyFault (length file) body fault

-- the fault of a file
abbrev pub IsFault : List ℕ → LogFault → Type 0
IsFault file fault = (header_fault file ≡ Some fault) ⊎ IsEntryFault file fault
