-- What is told of an executable, line by line.
use Rattle.std.specs.Prelude.{ℕ, Bool, nat_lt, if◌then◌else◌, List, [], ◌∷◌, ◌++◌, length, filter, flat_map, codes, decimal, Option, Some, None}
use Rattle.std.specs.Fmt.{signed_decimal}
use Rattle.om_base.specs.declared.interval.Interval.{Interval}
use Rattle.om_elf.specs.Image.{Image}
use Rattle.om_elf.specs.declared.elf.Elf.{Elf}
use Rattle.om_eval.specs.declared.catalog.VarInfo.{VarInfo}
use Rattle.om_names.specs.Facts.{Facts}
use Rattle.om_names.specs.declared.debug_counts.Counts.{Counts}
use Rattle.om_table.specs.Escape.{escaped}

-- ---- how much there is

-- a segment has more than 0 bytes
abbrev pub is_filled : Image → Bool
is_filled image = nat_lt 0 image.memsz

-- how many of some segments do
abbrev pub filled_in : List Image → ℕ
filled_in images = length (filter is_filled images)

-- a word and a number, and the end of the line
unfoldable pub number_line : List ℕ → ℕ → List ℕ
number_line word number = word ++ codes " " ++ decimal number ++ 10 ∷ []

-- how much there is of an executable with some debugging information and so many variables, a line for each number
unfoldable pub counts_text : Elf → Counts → ℕ → List ℕ
counts_text elf counts variables =
    number_line (codes "entry") elf.entry
    ++ number_line (codes "segments") (filled_in elf.segments)
    ++ number_line (codes "units") counts.units
    ++ number_line (codes "skipped") counts.skipped
    ++ number_line (codes "functions") counts.functions
    ++ number_line (codes "variables") variables

-- ---- variables

-- the least number and the greatest
unfoldable pub interval_text : Interval → List ℕ
interval_text interval = signed_decimal interval.lo ++ codes " " ++ signed_decimal interval.hi

-- the numbers of a scalar type, and that there are none of another
abbrev pub scalar_text : Option Interval → List ℕ
scalar_text (Some interval) = interval_text interval
scalar_text None = codes "other"

-- what is known of the variables of a name: that they differ, or else their numbers
abbrev pub known_text : VarInfo → List ℕ
known_text variable = if variable.ambiguous then codes "ambiguous" else scalar_text variable.scalar

-- the name, what is known of it, and the end of the line
unfoldable pub variable_line : VarInfo → List ℕ
variable_line variable = codes "variable " ++ escaped variable.name ++ codes " " ++ known_text variable ++ 10 ∷ []

-- ---- the text

-- what is told of an executable, of which some facts are known
unfoldable pub info_of : Elf → Facts → List ℕ
info_of elf facts =
    counts_text elf facts.counts (length facts.variables.catalog) ++ flat_map variable_line facts.variables.catalog
