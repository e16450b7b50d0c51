-- What the parts of the reader find.
use Rattle.std.specs.Prelude.{◌≡◌, ℕ, List, ◌++◌}
use Rattle.om_log.specs.Grammar.{spelling, spellings, header, MayStand, AreLawful, HasEnd}
use Rattle.om_log.specs.Regions.{FitsStart, IsLawfulStart}
use Rattle.om_log.specs.declared.entry.Entry.{Entry}
use Rattle.om_log.specs.declared.start.Start.{Start}

-- a file begins with the lawful header of this start, and this body stands behind it
pub record IsHeader (file : List ℕ) (start : Start) (body : List ℕ) : Type 0 where
  pub fits : FitsStart start
  pub lawful : IsLawfulStart start
  pub spelled : file ≡ header start ++ body

-- where no step below this one may stand, some bytes begin with this entry, which may stand there, and this tail stands behind it
pub record IsFirst (least : ℕ) (rest : List ℕ) (entry : Entry) (tail : List ℕ) : Type 0 where
  pub stand : MayStand least entry
  pub spelled : rest ≡ spelling entry ++ tail

-- a body is the spelling of these entries, which are a whole log's
pub record IsBody (body : List ℕ) (entries : List Entry) : Type 0 where
  pub lawful : AreLawful 0 entries
  pub ended : HasEnd entries
  pub spelled : body ≡ spellings entries
