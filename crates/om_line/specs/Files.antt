-- The files that the head of a line table tells of: DWARF 4, section 6.2.4, entries 11 and 12.
use Rattle.std.specs.Prelude.{ℕ, zero, suc, ◌&&◌, Bool, true, nat_eq, if◌then◌else◌, List, [], ◌∷◌, length, Option, Some, None, Result, Ok, Err}
use Rattle.std.specs.Option.{option_and_then, option_map}
use Rattle.std.specs.Result.{result_map_both}
use Rattle.om_base.specs.Leb.{result_then}
use Rattle.om_base.specs.Reading.{Reader}
use Rattle.om_line.specs.Fields.{text}
use Rattle.om_line.specs.Instructions.{named}
use Rattle.om_line.specs.declared.fields.Broken.{Broken}

-- the bytes behind the strings in front, which end with an empty one: a zero where a string begins
unfoldable pub behind_strings : Bool → List ℕ → Option (List ℕ)
behind_strings begins [] = None
behind_strings begins (byte ∷ bytes) = if nat_eq byte 0 && begins then Some bytes else behind_strings (nat_eq byte 0) bytes

-- a file, unless its name is empty
abbrev pub unless_empty : List ℕ → List ℕ → Result (Option (List ℕ) × List ℕ) Broken
unless_empty [] rest = Ok (None, rest)
unless_empty (byte ∷ bytes) rest = result_map_both (λ x. (Some x.0, x.1)) (λ e. e) (named (byte ∷ bytes) rest)

-- the file in front, or the empty name that ends the files
unfoldable pub file_or_end : Reader (Option (List ℕ)) Broken
file_or_end bytes = result_then (λ x. unless_empty x.0 x.1) (text bytes)

-- a file in front of the others
abbrev pub with_file : Option (List ℕ) → Option (List (List ℕ)) → Option (List (List ℕ))
with_file None others = Some []
with_file (Some name) others = option_map (λ names. name ∷ names) others

abbrev pub and_files : Result (Option (List ℕ) × List ℕ) Broken → (List ℕ → Option (List (List ℕ))) → Option (List (List ℕ))
and_files (Ok read) others = with_file read.0 (others read.1)
and_files (Err e) others = None

-- the names of the files in front, of which there are fewer than bytes; none where they have no end
unfoldable pub files_by : ℕ → List ℕ → Option (List (List ℕ))
files_by zero bytes = None
files_by (suc most) bytes = and_files (file_or_end bytes) (files_by most)

abbrev pub files_in : List ℕ → Option (List (List ℕ))
files_in bytes = files_by (length bytes) bytes

-- the names of the files, behind the directories
unfoldable pub head_files : List ℕ → Option (List (List ℕ))
head_files bytes = option_and_then files_in (behind_strings true bytes)
