-- What a command comes to, apart from faults of the outside and want of memory.
use Rattle.std.specs.Prelude.{ℕ, List, [], ◌∷◌, ◌++◌, Option, Some, None}
use Rattle.om_command.specs.Lines.{limit_line, read_line, refusal_line, refusal_status}
use Rattle.om_command.specs.declared.refusal.Refusal.{Refusal}

-- a file that is put
pub record PutFile : Type 0 where
  pub name : List ℕ
  pub bytes : List ℕ

-- what a command comes to: the exit status, the text that is printed, the line that is told, and the file that is put before anything is printed
pub record Effect : Type 0 where
  pub status : ℕ
  pub text : List ℕ
  pub line : List ℕ
  pub put : Option PutFile

-- a text is printed
abbrev pub prints : List ℕ → Effect
prints text = record { status = 0; text = text; line = []; put = None }

-- a file with these bytes is put, and then a text is printed
abbrev pub puts : (name bytes text : List ℕ) → Effect
puts name bytes text = record { status = 0; text = text; line = []; put = Some (record { name = name; bytes = bytes }) }

-- there is no answer, for this reason
abbrev pub refuses : Refusal → Effect
refuses refusal = record { status = refusal_status refusal; text = []; line = refusal_line refusal ++ 10 ∷ []; put = None }

-- a file has more bytes than are read
abbrev pub exceeds : (name : List ℕ) → Effect
exceeds name = record { status = 7; text = []; line = limit_line name; put = None }

-- a file isn't there
abbrev pub misses : (name : List ℕ) → Effect
misses name = record { status = 8; text = []; line = read_line name; put = None }
